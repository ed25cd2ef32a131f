-- A text whose bytes are all in place is well formed. Where no character goes on, the byte is the first of a character; those behind it are in
-- place too, so that they fit a row of the table; and behind them no character goes on again. So the walk comes to the end of the text.
-- At the end: a block of ASCII bytes is in place without a look at each position.
use mathlib.Core.Path.{◌≡◌, refl, sym, ap, ◌∙◌}
use mathlib.Core.Bool.{Bool, true, false, not, ◌&&◌, ◌||◌, true≢false, false≢true, or-true}
use mathlib.Core.List.{List}
use mathlib.Core.Logic.{⊎_elim}
use Prim.Native.Nat.{ℕ, zero, suc, ◌+◌, ◌≤◌, ◌<◌}
use native.Mathlib.Nat.{add_assoc, eq-or-lt_of_le, eq-zero-or-pos}
use native.Mathlib.Omega.{arith}
use borrow.Author.Rules.{rules}
use borrow.Author.Tests.{le-leb, lt-leb, leb-false, eq-eqb, ne_eqb, not-false, not-true}
use lib.Dec.{leb, eqb}
use lib.ListN.{length, get_or-eq_default}
use Rattle.std.proofs.lemmas.Bool.{or_parts}
use Rattle.characters.specs.Class.{within}
use Rattle.characters.specs.Walk.{any}
use Rattle.characters.specs.Whitespace.{byte}
use Rattle.characters.specs.Utf8.{is_continuation, char_of, char_at, char_len, skip_chars, utf8}
use Rattle.characters.specs.Shortcuts.{RulesOut, Tells, goes_on, unexpected, in_no_character, wrong_second}
use Rattle.characters.specs.Shortcuts.{out_of_place, out_of_place_behind, starts_out_of_place, ends_out_of_place}
use Rattle.characters.proofs.Tests.{range_of, le_or_lt}
use Rattle.characters.proofs.Spaces.{byte_inside}
use Rattle.characters.proofs.Chars.{char_one, char_two, char_three, char_four, char_fits, char_inside}
use Rattle.characters.proofs.Runs.{none_passes, none_of, answer_rules_out}
use Rattle.characters.proofs.Runs.{none_yet, block_passed, rest_rules_out, rules_out_nothing}
use Rattle.characters.proofs.Encoding.{row_c2, row_e0, row_e1, row_ed, row_ee, row_f0, row_f1, row_f4, not_two, not_three}
use Rattle.characters.proofs.Encoding.{chars_stay, chars_go}

-- ---- where a character goes on

module _ (a b c : ℕ) where
  on_behind_first : 0xc0 ≤ c → goes_on a b c ≡ true
  on_behind_first h = rw (le-leb 0xc0 c h) refl

  on_behind_second : 0xe0 ≤ b → goes_on a b c ≡ true
  on_behind_second h = rw (le-leb 0xe0 b h) (or-true (leb 0xc0 c))

  on_behind_third : 0xf0 ≤ a → goes_on a b c ≡ true
  on_behind_third h = rw (le-leb 0xf0 a h, or-true (leb 0xe0 b)) (or-true (leb 0xc0 c))

  none_goes_on : c < 0xc0 → b < 0xe0 → a < 0xf0 → goes_on a b c ≡ false
  none_goes_on h k l = rw (lt-leb 0xc0 c h, lt-leb 0xe0 b k, lt-leb 0xf0 a l) refl

  all_ended : goes_on a b c ≡ false → (c < 0xc0) × (b < 0xe0) × (a < 0xf0)
  all_ended e =
      let p = or_parts (leb 0xc0 c) (leb 0xe0 b || leb 0xf0 a) e in
      let q = or_parts (leb 0xe0 b) (leb 0xf0 a) p.1 in
      (leb-false 0xc0 c p.0, leb-false 0xe0 b q.0, leb-false 0xf0 a q.1)

-- ---- what a byte in place is

alike : (p q : Bool) → (p && not q) || (not p && q) ≡ false → p ≡ q
alike true true e = refl
alike true false e = absurd (true≢false e)
alike false true e = absurd (true≢false e)
alike false false e = refl

-- of two tests that do not both pass the second fails where the first passes
other_fails : (p q : Bool) → p && q ≡ false → p ≡ true → q ≡ false
other_fails true q e t = e
other_fails false q e t = absurd (false≢true t)

all_fail : (p q r : Bool) → p || (q || r) ≡ false → (p ≡ false) × (q ≡ false) × (r ≡ false)
all_fail p q r e =
    let f = or_parts p (q || r) e in
    let g = or_parts q r f.1 in
    (f.0, g.0, g.1)

above : (lo hi b : ℕ) → within lo hi b ≡ false → lo ≤ b → hi < b
above lo hi b e h = leb-false b hi (other_fails (leb lo b) (leb b hi) e (le-leb lo b h))

module _ (a b c d : ℕ) (e : out_of_place a b c d ≡ false) where
  passed : (unexpected a b c d ≡ false) × (in_no_character d ≡ false) × (wrong_second c d ≡ false)
  unfolding out_of_place
  passed = all_fail (unexpected a b c d) (in_no_character d) (wrong_second c d) e

  inside : goes_on a b c ≡ true → is_continuation d ≡ true
  inside g = sym (alike (goes_on a b c) (is_continuation d) passed.0) ∙ g

  -- where no character goes on, a byte of 80 or more is the first of a character
  first_byte : goes_on a b c ≡ false → 0x80 ≤ d → (0xc2 ≤ d) × (d ≤ 0xf4)
  first_byte g h =
      let n = or_parts (within 0xc0 0xc1 d) (leb 0xf5 d) passed.1 in
      let l = above 0x80 0xbf d (sym (alike (goes_on a b c) (is_continuation d) passed.0) ∙ g) h in
      (above 0xc0 0xc1 d n.0 (omega arith), omega (arith, leb-false 0xf5 d n.1))

  -- a byte behind E0 or F0 is not a low one, and one behind ED or F4 is
  abbrev low : Bool
  low = within 0x80 0x9f d

  abbrev lower : Bool
  lower = within 0x80 0x8f d

  seconds : ((eqb c 0xe0 && low) || (eqb c 0xed && not low) ≡ false) × ((eqb c 0xf0 && lower) || (eqb c 0xf4 && not lower) ≡ false)
  seconds = or_parts ((eqb c 0xe0 && low) || (eqb c 0xed && not low)) ((eqb c 0xf0 && lower) || (eqb c 0xf4 && not lower)) passed.2

  threes : (eqb c 0xe0 && low ≡ false) × (eqb c 0xed && not low ≡ false)
  threes = or_parts (eqb c 0xe0 && low) (eqb c 0xed && not low) seconds.0

  fours : (eqb c 0xf0 && lower ≡ false) × (eqb c 0xf4 && not lower ≡ false)
  fours = or_parts (eqb c 0xf0 && lower) (eqb c 0xf4 && not lower) seconds.1

  behind_e0 : c ≡ 0xe0 → 0x80 ≤ d → 0xa0 ≤ d
  behind_e0 q h = above 0x80 0x9f d (other_fails (eqb c 0xe0) low threes.0 (eq-eqb c 0xe0 q)) h

  behind_ed : c ≡ 0xed → d ≤ 0x9f
  behind_ed q = (range_of 0x80 0x9f d (not-false low (other_fails (eqb c 0xed) (not low) threes.1 (eq-eqb c 0xed q)))).1

  behind_f0 : c ≡ 0xf0 → 0x80 ≤ d → 0x90 ≤ d
  behind_f0 q h = above 0x80 0x8f d (other_fails (eqb c 0xf0) lower fours.0 (eq-eqb c 0xf0 q)) h

  behind_f4 : c ≡ 0xf4 → d ≤ 0x8f
  behind_f4 q = (range_of 0x80 0x8f d (not-false lower (other_fails (eqb c 0xf4) (not lower) fours.1 (eq-eqb c 0xf4 q)))).1

-- ---- bytes in place make a character

-- behind the bytes p q r no character goes on, and the bytes a b c d are in place
record InPlace (p q r a b c d : ℕ) : Type 0 where
  ended : goes_on p q r ≡ false
  first : out_of_place p q r a ≡ false
  second : out_of_place q r a b ≡ false
  third : out_of_place r a b c ≡ false
  fourth : out_of_place a b c d ≡ false

module _ (p q r a b c d : ℕ) (x : InPlace p q r a b c d) where
  before : (r < 0xc0) × (q < 0xe0) × (p < 0xf0)
  before = all_ended p q r x.ended

  second_inside : 0xc0 ≤ a → is_continuation b ≡ true
  second_inside h = inside q r a b x.second (on_behind_first q r a h)

  third_inside : 0xe0 ≤ a → is_continuation c ≡ true
  third_inside h = inside r a b c x.third (on_behind_second r a b h)

  fourth_inside : 0xf0 ≤ a → is_continuation d ≡ true
  fourth_inside h = inside a b c d x.fourth (on_behind_third a b c h)

  -- by its first byte: how long the character is, that its last byte is not 0, and that none goes on behind it
  one_byte : a < 0x80 → (1 ≡ char_of a b c d) × (goes_on q r a ≡ false)
  one_byte h = (char_one a b c d h, none_goes_on q r a (omega arith) (omega (arith, before.0)) (omega (arith, before.1)))

  two_bytes : 0xc2 ≤ a → a ≤ 0xdf → (2 ≡ char_of a b c d) × (0x80 ≤ b) × (goes_on r a b ≡ false)
  two_bytes l h =
      let cb = second_inside (omega arith) in
      let rb = range_of 0x80 0xbf b cb in
      let none = none_goes_on r a b (omega (arith, rb.1)) (omega arith) (omega (arith, before.0)) in
      (char_two a b c d (omega arith) (row_c2 a b l h cb), rb.0, none)

  three_bytes_lem : 0xe0 ≤ a → a ≤ 0xef → (3 ≡ char_of a b c d) × (0x80 ≤ c) × (goes_on a b c ≡ false)
  three_bytes_lem l h =
      let cb = second_inside (omega arith) in
      let c2 = third_inside l in
      let rb = range_of 0x80 0xbf b cb in
      let rc = range_of 0x80 0xbf c c2 in
      let none = none_goes_on a b c (omega (arith, rc.1)) (omega (arith, rb.1)) (omega arith) in (
        char_three a b c d (omega arith) (not_two a b l)
            (⊎_elim (λ u. row_e0 a b c c2 (omega arith) (behind_e0 q r a b x.second (omega arith) rb.0) rb.1)
            (λ u. ⊎_elim (λ v. row_e1 a b c c2 (omega arith) v cb)
            (λ v. ⊎_elim (λ w. row_ed a b c c2 (omega arith) rb.0 (behind_ed q r a b x.second (omega arith)))
            (λ w. row_ee a b c c2 (omega arith) h cb)
            (le_or_lt a 0xed))
            (le_or_lt a 0xec))
            (le_or_lt a 0xe0)),
        rc.0,
        none,
      )

  four_bytes : 0xf0 ≤ a → a ≤ 0xf4 → (4 ≡ char_of a b c d) × (0x80 ≤ d) × (goes_on b c d ≡ false)
  four_bytes l h =
      let cb = second_inside (omega arith) in
      let c2 = third_inside (omega arith) in
      let cd = fourth_inside l in
      let rb = range_of 0x80 0xbf b cb in
      let rc = range_of 0x80 0xbf c c2 in
      let rd = range_of 0x80 0xbf d cd in
      let none = none_goes_on b c d (omega (arith, rd.1)) (omega (arith, rc.1)) (omega (arith, rb.1)) in (
        char_four a b c d (omega arith) (not_two a b (omega arith)) (not_three a b c l)
            (⊎_elim (λ u. row_f0 a b c d c2 cd (omega arith) (behind_f0 q r a b x.second (omega arith) rb.0) rb.1)
            (λ u. ⊎_elim (λ v. row_f1 a b c d c2 cd (omega arith) v cb)
            (λ v. row_f4 a b c d c2 cd (omega arith) rb.0 (behind_f4 q r a b x.second (omega arith)))
            (le_or_lt a 0xf3))
            (le_or_lt a 0xf0)),
        rd.0,
        none,
      )

-- ---- the walk goes through

module _ (s : List ℕ) where
  -- the three bytes from k on are in place, behind the bytes p q r
  record Seen (p q r k : ℕ) : Type 0 where
    here : out_of_place p q r (byte s k) ≡ false
    next : out_of_place q r (byte s k) (byte s (k + 1)) ≡ false
    third : out_of_place r (byte s k) (byte s (k + 1)) (byte s (k + 2)) ≡ false

  -- and no character goes on at k
  record Reached (k : ℕ) : Type 0 where
    p : ℕ
    q : ℕ
    r : ℕ
    ended : goes_on p q r ≡ false
    seen : Seen p q r k

  -- the walk goes on from k to the next such place
  record Goes (k : ℕ) : Type 0 where
    to : ℕ
    later : k < to
    fits : to ≤ length s
    same : skip_chars s k ≡ skip_chars s to
    reached : Reached to

  goes_by : (k w : ℕ) → w ≡ char_at s k → 0 < w → k + w ≤ length s → Reached (k + w) → Goes k
  goes_by k w e p h x =
      let is : char_len s k ≡ w = sym (char_fits s k (omega arith)) ∙ sym e in
      let at : k + char_len s k ≡ k + w = omega arith in
      record { to = k + w; later = omega arith; fits = h; same = chars_go s k (omega arith) ∙ ap (skip_chars s) at; reached = x }

  stays_at_end : (k : ℕ) → k ≡ length s → skip_chars s k ≡ length s
  stays_at_end k e = sym (chars_stay s k none) ∙ e
    where
      none : char_len s k ≡ 0
      none = ⊎_elim (λ z. z) (λ p. absurd (omega (arith, char_inside s k p))) (eq-zero-or-pos (char_len s k))

  within_text : (k : ℕ) → 0x80 ≤ byte s k → k < length s
  within_text k h = byte_inside s k (λ z. omega arith)

  module _ (behind : (k : ℕ) → k < length s → out_of_place_behind s k ≡ false) where
    -- one byte further
    one_on : (p q r k j : ℕ) → k + 1 ≡ j → k < length s → Seen p q r k → Seen q r (byte s k) j
    one_on p q r k j e h o =
        rw (← e)
        (record { here = o.next; next = rw (add_assoc k 1 1) o.third; third = rw (add_assoc k 1 1, add_assoc k 1 2) (behind k h) })

    module _ (p q r k : ℕ) (g : goes_on p q r ≡ false) (o : Seen p q r k) (l : k < length s) where
      abbrev a : ℕ
      a = byte s k

      abbrev b : ℕ
      b = byte s (k + 1)

      abbrev c : ℕ
      c = byte s (k + 2)

      abbrev d : ℕ
      d = byte s (k + 3)

      seen_1 : Seen q r a (k + 1)
      seen_1 = one_on p q r k (k + 1) refl l o

      seen_2 : k + 1 < length s → Seen r a b (k + 2)
      seen_2 h = one_on q r a (k + 1) (k + 2) (omega arith) h seen_1

      seen_3 : k + 2 < length s → Seen a b c (k + 3)
      seen_3 h = one_on r a b (k + 2) (k + 3) (omega arith) h (seen_2 (omega arith))

      seen_4 : k + 3 < length s → Seen b c d (k + 4)
      seen_4 h = one_on a b c (k + 3) (k + 4) (omega arith) h (seen_3 (omega arith))

      in_place : InPlace p q r a b c d
      in_place = record { ended = g; first = o.here; second = o.next; third = o.third; fourth = behind k l }

      goes_1 : a < 0x80 → Goes k
      goes_1 h =
          let t = one_byte p q r a b c d in_place h in
          goes_by k 1 t.0 (omega arith) (omega arith) (record { p = q; q = r; r = a; ended = t.1; seen = seen_1 })

      goes_2 : 0xc2 ≤ a → a ≤ 0xdf → Goes k
      goes_2 h m =
          let t = two_bytes p q r a b c d in_place h m in
          let i = within_text (k + 1) t.1 in
          goes_by k 2 t.0 (omega arith) (omega arith) (record { p = r; q = a; r = b; ended = t.2; seen = seen_2 i })

      goes_3 : 0xe0 ≤ a → a ≤ 0xef → Goes k
      goes_3 h m =
          let t = three_bytes_lem p q r a b c d in_place h m in
          let i = within_text (k + 2) t.1 in
          goes_by k 3 t.0 (omega arith) (omega arith) (record { p = a; q = b; r = c; ended = t.2; seen = seen_3 i })

      goes_4 : 0xf0 ≤ a → a ≤ 0xf4 → Goes k
      goes_4 h m =
          let t = four_bytes p q r a b c d in_place h m in
          let i = within_text (k + 3) t.1 in
          goes_by k 4 t.0 (omega arith) (omega arith) (record { p = b; q = c; r = d; ended = t.2; seen = seen_4 i })

      goes_on_lem : Goes k
      goes_on_lem =
          ⊎_elim
          (λ u. let f = first_byte p q r a o.here g u in
          ⊎_elim (goes_2 f.0)
          (λ v. ⊎_elim (goes_3 v) (λ w. goes_4 w f.1) (le_or_lt a 0xef))
          (le_or_lt a 0xdf))
          goes_1
          (le_or_lt 0x80 a)

    to_the_end : (n k : ℕ) → length s ≤ k + n → k ≤ length s → Reached k → skip_chars s k ≡ length s
    to_the_end zero k m h x = stays_at_end k (omega arith)
    to_the_end (suc n) k m h x =
        ⊎_elim (stays_at_end k)
        (λ l. let t = goes_on_lem x.p x.q x.r k x.ended x.seen l in
        t.same ∙ to_the_end n t.to (omega (arith, t.later)) t.fits t.reached)
        (eq-or-lt_of_le h)

-- ---- a text whose start, whose end and whose bytes between them are in place

module _ (s : List ℕ) (n : ℕ) (e : n + 3 ≡ length s) where
  none_behind : (k : ℕ) → length s ≤ k → byte s k ≡ 0
  none_behind k h = get_or-eq_default s 0 h

  module _ (ends : ends_out_of_place (byte s n) (byte s (n + 1)) (byte s (n + 2)) ≡ false) where
    last_three :
        (out_of_place (byte s n) (byte s (n + 1)) (byte s (n + 2)) 0 ≡ false)
        × (out_of_place (byte s (n + 1)) (byte s (n + 2)) 0 0 ≡ false)
        × (out_of_place (byte s (n + 2)) 0 0 0 ≡ false)
    unfolding ends_out_of_place
    last_three =
        all_fail
        (out_of_place (byte s n) (byte s (n + 1)) (byte s (n + 2)) 0)
        (out_of_place (byte s (n + 1)) (byte s (n + 2)) 0 0)
        (out_of_place (byte s (n + 2)) 0 0 0)
        ends

    behind_0 : out_of_place_behind s n ≡ false
    behind_0 = rw (none_behind (n + 3) (omega arith)) last_three.0

    behind_1 : out_of_place_behind s (n + 1) ≡ false
    behind_1 = rw (add_assoc n 1 1, none_behind (n + 1 + 2) (omega arith), none_behind (n + 1 + 3) (omega arith)) last_three.1

    behind_2 : out_of_place_behind s (n + 2) ≡ false
    behind_2 =
        rw (none_behind (n + 2 + 1) (omega arith), none_behind (n + 2 + 2) (omega arith), none_behind (n + 2 + 3) (omega arith))
        last_three.2

    all_behind : any (out_of_place_behind s) n ≡ false → (k : ℕ) → k < length s → out_of_place_behind s k ≡ false
    all_behind f k h =
        ⊎_elim
        (λ l. ⊎_elim (λ u. equal n behind_0 (omega arith))
        (λ u. ⊎_elim (λ v. equal (n + 1) behind_1 (omega arith)) (λ v. equal (n + 2) behind_2 (omega arith)) (le_or_lt k (n + 1)))
        (le_or_lt k n))
        (none_passes (out_of_place_behind s) n k f)
        (le_or_lt n k)
      where
        equal : (j : ℕ) → out_of_place_behind s j ≡ false → j ≡ k → out_of_place_behind s k ≡ false
        equal j g q = rw (← q) g

  pub in_place_well_formed :
      starts_out_of_place (byte s 0) (byte s 1) (byte s 2) ≡ false
      → any (out_of_place_behind s) n ≡ false
      → ends_out_of_place (byte s n) (byte s (n + 1)) (byte s (n + 2)) ≡ false
      → utf8 s ≡ true
  unfolding starts_out_of_place utf8
  in_place_well_formed f g h =
      let t = all_fail (out_of_place 0 0 0 (byte s 0)) (out_of_place 0 0 (byte s 0) (byte s 1)) (out_of_place 0 (byte s 0) (byte s 1) (byte s 2)) f in
      let x : Reached s 0 = record { p = 0; q = 0; r = 0; ended = refl; seen = record { here = t.0; next = t.1; third = t.2 } } in
      eq-eqb (skip_chars s 0) (length s) (to_the_end s (all_behind h g) (length s) 0 (omega arith) (omega arith) x)

pub in_place_tells :
    (s : List ℕ) (n : ℕ) (x y z : Bool)
    → x ≡ starts_out_of_place (byte s 0) (byte s 1) (byte s 2)
    → RulesOut (any (out_of_place_behind s) n) y
    → z ≡ ends_out_of_place (byte s n) (byte s (n + 1)) (byte s (n + 2))
    → n + 3 ≡ length s
    → Tells (utf8 s) (not (x || (y || z)))
in_place_tells s n x y z f g h e =
    record {
      holds =
          λ u. let t = all_fail x y z (not-true (x || (y || z)) u) in
          in_place_well_formed s n e (sym f ∙ t.0) (g.none t.1) (sym h ∙ t.2);
    }

-- ---- blocks of ASCII bytes

ascii_in_place : (a b c d : ℕ) → a < 0x80 → b < 0x80 → c < 0x80 → d < 0x80 → out_of_place a b c d ≡ false
unfolding out_of_place
ascii_in_place a b c d ha hb hc hd =
    let g : goes_on a b c ≡ false = none_goes_on a b c (omega arith) (omega arith) (omega arith) in
    let e0 : eqb c 0xe0 ≡ false = ne_eqb c 0xe0 (omega arith) in
    let ed : eqb c 0xed ≡ false = ne_eqb c 0xed (omega arith) in
    let f0 : eqb c 0xf0 ≡ false = ne_eqb c 0xf0 (omega arith) in
    let f4 : eqb c 0xf4 ≡ false = ne_eqb c 0xf4 (omega arith) in
    simp (g, lt-leb 0x80 d hd, lt-leb 0xc0 d (omega arith), lt-leb 0xf5 d (omega arith), e0, ed, f0, f4)

pub ascii_block :
    (s : List ℕ) (k : ℕ) (r : Bool)
    → RulesOut (any (λ j. leb 0x80 (byte s (k + j))) 80) r
    → not r ≡ true
    → RulesOut (any (λ j. out_of_place_behind s (k + j)) 64) false
ascii_block s k r f e = record { none = λ z. none_of (λ j. out_of_place_behind s (k + j)) 64 in_place }
  where
    low : (j : ℕ) (i : ℕ) → i ≡ k + j → j < 80 → byte s i < 0x80
    low j i q h = rw q (leb-false 0x80 (byte s (k + j)) (none_passes (λ m. leb 0x80 (byte s (k + m))) 80 j (f.none (not-true r e)) h))

    in_place : (j : ℕ) → j < 64 → out_of_place_behind s (k + j) ≡ false
    in_place j h =
        ascii_in_place (byte s (k + j)) (byte s (k + j + 1)) (byte s (k + j + 2)) (byte s (k + j + 3))
        (low j (k + j) refl (omega arith))
        (low (j + 1) (k + j + 1) (omega arith) (omega arith))
        (low (j + 2) (k + j + 2) (omega arith) (omega arith))
        (low (j + 3) (k + j + 3) (omega arith) (omega arith))

pub ruleset passing_blocks = (rules, none_yet, block_passed, rest_rules_out, rules_out_nothing)
