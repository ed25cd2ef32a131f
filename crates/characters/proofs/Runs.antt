-- Positions that are looked at together: what a test rules out of all of them. So a text of ASCII bytes is well formed.
use mathlib.Core.Path.{◌≡◌, refl, sym, ap, ◌∙◌}
use mathlib.Core.Bool.{Bool, true, false, not, true≢false}
use mathlib.Core.List.{List}
use mathlib.Core.Logic.{⊎_elim}
use Prim.Native.Nat.{ℕ, zero, suc, ◌+◌, ◌-◌, ◌≤◌, ◌<◌}
use native.Mathlib.Nat.{zero-add, eq-or-lt_of_le, le_of_suc-le-suc, eq-zero-or-pos}
use native.Mathlib.Omega.{arith}
use borrow.Author.Tests.{eq-eqb, leb-false, not-true}
use lib.Dec.{leb}
use lib.ListN.{length}
use Rattle.std.proofs.lemmas.Bool.{or_parts}
use Rattle.characters.specs.Walk.{any}
use Rattle.characters.specs.Whitespace.{byte}
use Rattle.characters.specs.Utf8.{char_len, skip_chars, utf8}
use Rattle.characters.specs.Shortcuts.{RulesOut, Tells}
use Rattle.characters.proofs.Tests.{le_or_lt}
use Rattle.characters.proofs.Walks.{skip_stays, skip_goes}
use Rattle.characters.proofs.Chars.{char_one, char_fits, char_inside}

-- ---- all of the first n positions

module _ (test : ℕ → Bool) where
  pub none_passes : (n m : ℕ) → any test n ≡ false → m < n → test m ≡ false
  unfolding any
  none_passes zero m e h = absurd (omega arith)
  none_passes (suc n) m e h =
      let p = or_parts (any test n) (test n) e in
      ⊎_elim (λ q. ap test q ∙ p.1) (λ l. none_passes n m p.0 l) (eq-or-lt_of_le (le_of_suc-le-suc h))

  pub none_of : (n : ℕ) → ((m : ℕ) → m < n → test m ≡ false) → any test n ≡ false
  unfolding any
  none_of zero f = refl
  none_of (suc n) f = rw (none_of n (λ m h. f m (omega arith)), f n (omega arith)) refl

  pub some_passes : (n m : ℕ) → m < n → test m ≡ true → any test n ≡ true
  some_passes n m h t = go (any test n) refl
    where
      go : (b : Bool) → any test n ≡ b → b ≡ true
      go true e = refl
      go false e = absurd (true≢false (sym t ∙ none_passes n m e h))

-- ---- all of the first n positions, a block after the other

-- none of the n positions from k on passes
pub block_fails : (test : ℕ → Bool) (k n m : ℕ) → any (λ j. test (k + j)) n ≡ false → k ≤ m → m < k + n → test m ≡ false
block_fails test k n m e a b =
    let q : m ≡ k + (m - k) = omega arith in
    ap test q ∙ none_passes (λ j. test (k + j)) n (m - k) e (omega arith)

module _ (test : ℕ → Bool) where
  pub none_yet : any test 0 ≡ false
  unfolding any
  none_yet = refl

  module _ (k : ℕ) (before : any test k ≡ false) where
    none_behind : (n : ℕ) → any (λ j. test (k + j)) n ≡ false → any test (k + n) ≡ false
    none_behind n e = none_of test (k + n) (λ m h. ⊎_elim (λ l. block_fails test k n m e l h) (none_passes test k m before) (le_or_lt k m))

    pub block_passed : (n : ℕ) (r : Bool) → RulesOut (any (λ j. test (k + j)) n) r → r ≡ false → any test (k + n) ≡ false
    block_passed n r f e = none_behind n (f.none e)

    pub rest_rules_out : (n : ℕ) (r : Bool) → RulesOut (any (λ j. test (k + j)) (n - k)) r → k ≤ n → RulesOut (any test n) r
    rest_rules_out n r f h =
        let q : k + (n - k) ≡ n = omega arith in
        record { none = λ e. rw (← q) (none_behind (n - k) (f.none e)) }

-- ---- a text of ASCII bytes is well formed

module _ (s : List ℕ) (ascii : any (λ k. leb 0x80 (byte s (0 + k))) (length s) ≡ false) where
  below : (k : ℕ) → k < length s → byte s k < 0x80
  below k h = rw zero-add at (leb-false 0x80 (byte s (0 + k)) (none_passes (λ j. leb 0x80 (byte s (0 + j))) (length s) k ascii h))

  one : (k : ℕ) → k < length s → 1 ≡ char_len s k
  one k h =
      let q = char_one (byte s k) (byte s (k + 1)) (byte s (k + 2)) (byte s (k + 3)) (below k h) in
      q ∙ char_fits s k (rw (← q) (omega arith))

  to_the_end : (n k : ℕ) → k + n ≡ length s → skip_chars s k ≡ length s
  to_the_end zero k e = sym (skip_stays (char_len s) (length s) (char_inside s) k none) ∙ omega arith
    where
      none : char_len s k ≡ 0
      none = ⊎_elim (λ z. z) (λ p. absurd (omega (arith, char_inside s k p))) (eq-zero-or-pos (char_len s k))
  to_the_end (suc n) k e =
      skip_goes (char_len s) (length s) (char_inside s) k (rw (← one k (omega arith)) (omega arith))
      ∙ rw (← one k (omega arith)) (to_the_end n (k + 1) (omega arith))

  pub ascii_well_formed : utf8 s ≡ true
  unfolding utf8
  ascii_well_formed = eq-eqb (skip_chars s 0) (length s) (to_the_end (length s) 0 (omega arith))

pub ascii_tells : (s : List ℕ) (above : Bool) → RulesOut (any (λ m. leb 0x80 (byte s (0 + m))) (length s)) above → Tells (utf8 s) (not above)
ascii_tells s above f = record { holds = λ t. ascii_well_formed s (f.none (not-true above t)) }

pub answer_rules_out : (p r : Bool) → r ≡ p → RulesOut p r
answer_rules_out p r e = record { none = λ f. sym e ∙ f }

-- a test that passes rules nothing out
pub rules_out_nothing : (p : Bool) → RulesOut p true
rules_out_nothing p = record { none = λ e. absurd (true≢false e) }
