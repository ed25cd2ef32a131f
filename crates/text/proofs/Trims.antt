-- Trimming. The end of a trimmed text is the first position from which only whitespace stands up to e; the loop jumps over each run of
-- whitespace, which is right because no whitespace character starts inside another, so that a walk from inside the run ends where the run does.
use mathlib.Core.Path.{◌≡◌, refl, sym, ap, ◌∙◌}
use mathlib.Core.Bool.{Bool, true, false, not, ◌&&◌, ◌||◌, true≢false, false≢true}
use mathlib.Core.List.{List}
use mathlib.Core.Logic.{⊎_elim}
use Prim.Native.Nat.{ℕ, zero, suc, ◌+◌, ◌-◌, ◌%◌, ◌≤◌, ◌<◌}
use native.Mathlib.Nat.{le_refl, lt_irrefl, lt_of_lt_of_le, lt_of_le_of_lt, eq-or-lt_of_le, eq-zero-or-pos}
use native.Mathlib.Omega.{arith}
use borrow.Author.Rules.{rules}
use borrow.Author.Tests.{le-leb, lt-leb, eq-eqb, ne_eqb, eqb-true, leb-false, not-true}
use lib.Dec.{eqb, leb}
use lib.ListN.{length}
use Rattle.std.proofs.lemmas.Bool.{or_parts, cond_both, and_parts}
use Rattle.characters.specs.Class.{is_whitespace_byte}
use Rattle.characters.specs.Walk.{skip, Between}
use Rattle.characters.specs.Whitespace.{byte, is_next_line, is_mark, is_separator, whitespace_of, whitespace_len, Width}
use Rattle.characters.specs.Shortcuts.{RulesOut, Tells, may_be_whitespace}
use Rattle.text.specs.Scan.{skip_whitespace, trim_end, backslashes_before, keep_escaped, trim_end_unescaped}
use Rattle.characters.proofs.Tests.{or_cases, le_or_lt}
use Rattle.characters.proofs.Walks.{first_here, first_none, first_over, skip_stays, skip_goes, repeat_keeps}
use Rattle.characters.proofs.Spaces.{white_inside, inner_none}

-- ---- no whitespace character starts inside another

-- the second and the third byte of a whitespace character of three
three_bytes_lem : (a b c : ℕ) → is_mark a b c || is_separator a b c ≡ true → (b ≡ 0x80) × (0x80 ≤ c) × (c < 0xc0)
three_bytes_lem a b c e =
    or_cases (is_mark a b c) (is_separator a b c) e (λ t. of 0x8e 0x8f t (omega arith)) (λ t. of 0xa8 0xa9 t (omega arith))
  where
    of :
        (x y : ℕ)
        → eqb a 0xe2 && (eqb b 0x80 && (eqb c x || eqb c y)) ≡ true
        → (0x80 ≤ x) × (x < 0xc0) × (0x80 ≤ y) × (y < 0xc0)
        → (b ≡ 0x80) × (0x80 ≤ c) × (c < 0xc0)
    of x y t k =
        let u = (and_parts (eqb a 0xe2) (eqb b 0x80 && (eqb c x || eqb c y)) t).1 in
        let p = eqb-true b 0x80 (and_parts (eqb b 0x80) (eqb c x || eqb c y) u).0 in
        or_cases (eqb c x) (eqb c y) (and_parts (eqb b 0x80) (eqb c x || eqb c y) u).1
        (λ v. omega (arith, eqb-true c x v))
        (λ v. omega (arith, eqb-true c y v))

inside_none : (s : List ℕ) (k m : ℕ) → k < m → m < k + whitespace_len s k → whitespace_len s m ≡ 0
unfolding whitespace_of whitespace_len
inside_none s k m l =
    let a = byte s k in
    let b = byte s (k + 1) in
    let c = byte s (k + 2) in
    let P : ℕ → Type 0 = λ n. m < k + n → whitespace_len s m ≡ 0 in
    cond_both (is_whitespace_byte a) 1 _ P (λ e h. absurd (omega arith))
    (λ _. cond_both (is_next_line a b) 2 _ P (λ e h. at (k + 1) (omega arith) (omega (arith, second e)) (omega (arith, second e)))
    (λ _. cond_both (is_mark a b c || is_separator a b c) 3 0 P (λ e h. third (three_bytes_lem a b c e) h) (λ _ h. absurd (omega arith))))
  where
    at : (j : ℕ) → m ≡ j → 0x80 ≤ byte s j → byte s j < 0xc0 → whitespace_len s m ≡ 0
    at j e x y = rw e (inner_none (byte s j) (byte s (j + 1)) (byte s (j + 2)) x y)

    second : is_next_line (byte s k) (byte s (k + 1)) ≡ true → byte s (k + 1) ≡ 0x85
    second e = eqb-true (byte s (k + 1)) 0x85 (and_parts (eqb (byte s k) 0xc2) (eqb (byte s (k + 1)) 0x85) e).1

    third :
        (byte s (k + 1) ≡ 0x80) × (0x80 ≤ byte s (k + 2)) × (byte s (k + 2) < 0xc0)
        → m < k + 3
        → whitespace_len s m ≡ 0
    third t h =
        ⊎_elim (λ e. at (k + 1) (omega arith) (omega arith) (omega arith)) (λ g. at (k + 2) (omega arith) (omega arith) (omega arith))
        (le_or_lt m (k + 1))

-- ---- a walk from inside a run of whitespace ends no later than the run

module _ (s : List ℕ) where
  stays : (k : ℕ) → whitespace_len s k ≡ 0 → k ≡ skip_whitespace s k
  stays = skip_stays (whitespace_len s) (length s) (white_inside s)

  goes : (k : ℕ) → 0 < whitespace_len s k → skip_whitespace s k ≡ skip_whitespace s (k + whitespace_len s k)
  goes = skip_goes (whitespace_len s) (length s) (white_inside s)

  -- m is k, or starts no whitespace character, or stands past the first whitespace character
  cases :
      (k m : ℕ)
      → k ≤ m
      → m ≤ skip_whitespace s k
      → (k + whitespace_len s k ≤ m → 0 < whitespace_len s k → skip_whitespace s m ≤ skip_whitespace s k)
      → skip_whitespace s m ≤ skip_whitespace s k
  cases k m a b deeper =
      ⊎_elim (λ z. rw (← stays m z) b)
      (λ p. ⊎_elim (λ e. rw e (le_refl _))
      (λ l. deeper (past p l) (some l))
      (eq-or-lt_of_le a))
      (eq-zero-or-pos (whitespace_len s m))
    where
      past : 0 < whitespace_len s m → k < m → k + whitespace_len s k ≤ m
      past p l = ⊎_elim (λ e. e) (λ g. absurd (omega (arith, inside_none s k m l g))) (le_or_lt (k + whitespace_len s k) m)

      some : k < m → 0 < whitespace_len s k
      some l = ⊎_elim (λ z. absurd (lt_irrefl k (lt_of_lt_of_le l (rw (← stays k z) at b)))) (λ p. p) (eq-zero-or-pos (whitespace_len s k))

  within_run : (n k m : ℕ) → length s - k ≤ n → k ≤ m → m ≤ skip_whitespace s k → skip_whitespace s m ≤ skip_whitespace s k
  within_run zero k m h a b = cases k m a b (λ g p. absurd (omega (arith, white_inside s k p)))
  within_run (suc n) k m h a b =
      cases k m a b
      (λ g p. rw (goes k p) (within_run n (k + whitespace_len s k) m (omega (arith, white_inside s k p)) g (rw (goes k p) at b)))

  -- where whitespace ends before e, the end of the trimmed text is past it
  trim_past : (k e : ℕ) → k ≤ skip_whitespace s k → skip_whitespace s k < e → trim_end s k e ≡ trim_end s (skip_whitespace s k + 1) e
  unfolding trim_end
  trim_past k e f h =
      first_over _ k (skip_whitespace s k + 1) e (omega arith) (omega arith)
      (λ m a b. lt-leb e (skip_whitespace s m) (lt_of_le_of_lt (within_run (length s - k) k m (le_refl _) a (omega arith)) h))

  -- the loop began at i and stands at k, where whitespace goes on to e or ends before
  module _ (i k e : ℕ) (before : trim_end s i e ≡ trim_end s k e) where
    pub trim_found : k < e → e ≤ skip_whitespace s k → i ≤ k → Between i e (trim_end s i e) k
    unfolding trim_end
    trim_found l h a =
        record { is = first_here _ _ _ l (le-leb e (skip_whitespace s k) h) ∙ sym before; from = a; to = omega (arith, l) }

    pub trim_again : (w : ℕ) → w ≡ skip_whitespace s k → k ≤ w → w < e → trim_end s i e ≡ trim_end s (w + 1) e
    trim_again w is l h = rw is (before ∙ trim_past k e (omega arith) (omega arith))

  pub trim_ended : (i k e : ℕ) → trim_end s i e ≡ trim_end s k e → e ≤ k → k ≡ trim_end s i e
  unfolding trim_end
  trim_ended i k e before h = first_none _ _ _ h ∙ sym before

pub ruleset trimming = (rules, trim_found, trim_again, trim_ended)

-- ---- a byte that no whitespace character has: what ends with it is not trimmed

three_first : (a b c : ℕ) → is_mark a b c || is_separator a b c ≡ true → a ≡ 0xe2
three_first a b c e =
    or_cases (is_mark a b c) (is_separator a b c) e (λ t. eqb-true a 0xe2 (and_parts (eqb a 0xe2) _ t).0) (λ t. eqb-true a 0xe2 (and_parts (eqb a 0xe2) _ t).0)

module _ (s : List ℕ) (p : ℕ) (plain : may_be_whitespace (byte s p) ≡ false) where
  none : (is_whitespace_byte (byte s p) ≡ false) × (leb 0x80 (byte s p) ≡ false)
  none = or_parts (is_whitespace_byte (byte s p)) (leb 0x80 (byte s p)) plain

  not_one : (j : ℕ) → is_whitespace_byte (byte s j) ≡ true → j ≡ p → ⊥
  not_one j e q = true≢false (sym e ∙ ap (λ (x : ℕ). is_whitespace_byte (byte s x)) q ∙ none.0)

  not_high : (m : ℕ) → 0x80 ≤ byte s m → m ≡ p → ⊥
  not_high m h q = omega (arith, ap (byte s) q, leb-false 0x80 (byte s p) none.1)

  stays_before : (j : ℕ) → j ≤ p → j + whitespace_len s j ≤ p
  unfolding whitespace_of whitespace_len
  stays_before j h =
      let a = byte s j in
      let b = byte s (j + 1) in
      let c = byte s (j + 2) in
      let P : ℕ → Type 0 = λ n. j + n ≤ p in
      cond_both (is_whitespace_byte a) 1 _ P (λ e. omega (arith, not_one j e))
      (λ _. cond_both (is_next_line a b) 2 _ P (λ e. two (and_parts (eqb a 0xc2) (eqb b 0x85) e).0 (and_parts (eqb a 0xc2) (eqb b 0x85) e).1)
      (λ _. cond_both (is_mark a b c || is_separator a b c) 3 0 P (λ e. three (three_first a b c e) (three_bytes_lem a b c e)) (λ _. omega arith)))
    where
      two : eqb (byte s j) 0xc2 ≡ true → eqb (byte s (j + 1)) 0x85 ≡ true → j + 2 ≤ p
      two e f =
          let n0 = not_high j (omega (arith, eqb-true (byte s j) 0xc2 e)) in
          let n1 = not_high (j + 1) (omega (arith, eqb-true (byte s (j + 1)) 0x85 f)) in
          omega (arith, n0, n1)

      three : byte s j ≡ 0xe2 → (byte s (j + 1) ≡ 0x80) × (0x80 ≤ byte s (j + 2)) × (byte s (j + 2) < 0xc0) → j + 3 ≤ p
      three e t =
          let n0 = not_high j (omega arith) in
          let n1 = not_high (j + 1) (omega (arith, t.0)) in
          let n2 = not_high (j + 2) t.1 in
          omega (arith, n0, n1, n2)

  stops_before : (k : ℕ) → k ≤ p → skip_whitespace s k ≤ p
  unfolding skip
  stops_before k h = repeat_keeps (λ j. j ≤ p) (λ j. j + whitespace_len s j) stays_before (length s) k h

module _ (s : List ℕ) (i e : ℕ) where
  nothing_behind : i < e → may_be_whitespace (byte s (e - 1)) ≡ false → trim_end s i e ≡ e
  unfolding trim_end
  nothing_behind l plain =
      first_over _ i e e (omega arith) (le_refl e) (λ m a b. lt-leb e (skip_whitespace s m) (omega (arith, stops_before s (e - 1) plain m (omega arith))))
      ∙ sym (first_none _ e e (le_refl e))

  -- where nothing stands from i to e there is no last byte
  pub nothing_told : Tells (eqb (trim_end s i e) e) false
  nothing_told = record { holds = λ t. absurd (false≢true t) }

  pub told_by_last_byte : (r : Bool) → i < e → RulesOut (may_be_whitespace (byte s (e - 1))) r → Tells (eqb (trim_end s i e) e) (not r)
  told_by_last_byte r h f = record { holds = λ t. eq-eqb (trim_end s i e) e (nothing_behind h (f.none (not-true r t))) }

  pub plain_end : (r : Bool) → Tells (eqb (trim_end s i e) e) r → r ≡ true → e ≡ trim_end s i e
  plain_end r f t = sym (eqb-true (trim_end s i e) e (f.holds t))

pub ruleset ending_plainly = (rules, nothing_told, told_by_last_byte, plain_end)

-- ---- the pattern's end; its trailing whitespace starts at u

module _ (s : List ℕ) (i e u : ℕ) (f : Between i e (trim_end s i e) u) (l : e ≤ length s) where
  pub nothing_trimmed : u ≡ e → i ≤ e → Between i (length s) (trim_end_unescaped s i e) e
  unfolding trim_end_unescaped keep_escaped
  nothing_trimmed q h = record { is = rw (← f.is, eq-eqb u e q); from = h; to = l }

  module _ (n : ℕ) (d : u ≡ e → ⊥) (c : n ≡ backslashes_before s i u) where
    pub escaped_kept : (w : ℕ) → n % 2 ≡ 1 → Width s u (whitespace_len s u) w → Between i (length s) (trim_end_unescaped s i e) (u + w)
    unfolding trim_end_unescaped keep_escaped
    escaped_kept w o g =
        record { is = rw (← f.is, ne_eqb u e d, ← c, eq-eqb (n % 2) 1 o) (ap (λ (x : ℕ). u + x) g.is); from = omega (arith, f.from); to = g.fits }

    pub all_trimmed : (n % 2 ≡ 1 → ⊥) → Between i (length s) (trim_end_unescaped s i e) u
    unfolding trim_end_unescaped keep_escaped
    all_trimmed o = record { is = rw (← f.is, ne_eqb u e d, ← c, ne_eqb (n % 2) 1 o); from = f.from; to = omega (arith, f.to) }

pub plain_end_kept :
    (s : List ℕ) (i e : ℕ) (r : Bool) → Tells (eqb (trim_end s i e) e) r → r ≡ true → i ≤ e → e ≤ length s → Between i (length s) (trim_end_unescaped s i e) e
plain_end_kept s i e r f t h l =
    nothing_trimmed s i e e (record { is = plain_end s i e r f t; from = h; to = le_refl e }) l refl h

pub ruleset trimming_escaped = (rules, plain_end_kept, nothing_trimmed, escaped_kept, all_trimmed)
