-- Whitespace and line ends at an offset: a law for each branch of the definitions, and that what is measured stands within the text, since no
-- whitespace character has a byte 0. A line end is a whitespace character, so what holds of whitespace is not proved again for line ends.
use mathlib.Core.Path.{◌≡◌, refl, sym, ap, ◌∙◌}
use mathlib.Core.Bool.{Bool, true, false, ◌&&◌, ◌||◌, true≢false, and-false, or-true}
use mathlib.Core.List.{List, [], ◌∷◌}
use mathlib.Core.Logic.{◌⊎◌, inl, inr, ⊎_elim}
use Prim.Native.Nat.{ℕ, zero, suc, ◌+◌, ◌≤◌, ◌<◌, zero-le, suc-le-suc}
use native.Mathlib.Nat.{eq-zero-or-pos}
use native.Mathlib.Omega.{arith}
use borrow.Author.Tests.{ne_eqb, eqb-true, leb-false}
use lib.Dec.{eqb, leb}
use lib.ListN.{length}
use Rattle.std.proofs.lemmas.Bool.{cond_both, or_parts, and_parts}
use Rattle.std.proofs.lemmas.List.{get_or_past}
use Rattle.characters.specs.Class.{is_whitespace_byte, is_line_end, is_blank, is_other_whitespace}
use Rattle.characters.specs.Shortcuts.{RulesOut, may_end_line, may_be_whitespace}
use Rattle.characters.specs.Whitespace.{byte, is_next_line, is_mark, is_separator, whitespace_of, line_end_of, whitespace_len, line_end_len, at_line_end}

-- ---- from the first byte alone

module _ (a b c : ℕ) where
  pub white_one : is_whitespace_byte a ≡ true → 1 ≡ whitespace_of a b c
  unfolding whitespace_of
  white_one e = simp e

  pub end_one : is_line_end a ≡ true → 1 ≡ line_end_of a b c
  unfolding line_end_of
  end_one e = simp e

  -- a byte that the quick test rules out starts no character
  pub white_ruled_out : may_be_whitespace a ≡ false → 0 ≡ whitespace_of a b c
  unfolding whitespace_of
  white_ruled_out e =
      let f = or_parts (is_whitespace_byte a) (leb 0x80 a) e in
      let h = leb-false 0x80 a f.1 in
      simp (f.0, ne_eqb a 0xc2 (omega arith), ne_eqb a 0xe2 (omega arith))

  pub end_ruled_out : may_end_line a ≡ false → 0 ≡ line_end_of a b c
  unfolding line_end_of
  end_ruled_out e =
      let f = or_parts (is_line_end a) (leb 0x80 a) e in
      let h = leb-false 0x80 a f.1 in
      simp (f.0, ne_eqb a 0xe2 (omega arith))

-- ---- a line end is a whitespace character

line_is_white : (a : ℕ) → is_line_end a ≡ true → is_whitespace_byte a ≡ true
unfolding is_whitespace_byte
line_is_white a e = rw e

separator_is_white : (b c : ℕ) → is_separator 0xe2 b c ≡ true → 3 ≡ whitespace_of 0xe2 b c
unfolding whitespace_of is_whitespace_byte is_line_end is_blank is_other_whitespace
separator_is_white b c e = rw (e, or-true (is_mark 0xe2 b c))

-- of the same width, or there is none
pub end_or_white : (a b c : ℕ) → (line_end_of a b c ≡ 0) ⊎ (line_end_of a b c ≡ whitespace_of a b c)
unfolding line_end_of
end_or_white a b c =
    let P : ℕ → Type 0 = λ n. (n ≡ 0) ⊎ (n ≡ whitespace_of a b c) in
    cond_both (is_line_end a) 1 _ P (λ e. inr (white_one a b c (line_is_white a e)))
    (λ _. cond_both (is_separator a b c) 3 0 P (λ e. inr (three e)) (λ _. inl refl))
  where
    three : is_separator a b c ≡ true → 3 ≡ whitespace_of a b c
    three e =
        let q = eqb-true a 0xe2 (and_parts (eqb a 0xe2) (eqb b 0x80 && (eqb c 0xa8 || eqb c 0xa9)) e).0 in
        rw q (separator_is_white b c (rw q at e))

pub end_none_of_white : (s : List ℕ) (i : ℕ) → whitespace_len s i ≡ 0 → line_end_len s i ≡ 0
unfolding whitespace_len line_end_len
end_none_of_white s i z = ⊎_elim (λ e. e) (λ e. e ∙ z) (end_or_white (byte s i) (byte s (i + 1)) (byte s (i + 2)))

-- ---- what is measured stands within the text

-- a byte that is not 0 stands within the text
pub byte_inside : (s : List ℕ) (k : ℕ) → (byte s k ≡ 0 → ⊥) → k < length s
byte_inside [] k h = absurd (h refl)
byte_inside (x ∷ xs) zero h = suc-le-suc zero-le
byte_inside (x ∷ xs) (suc k) h = suc-le-suc (byte_inside xs k h)

-- the last byte of a whitespace character is not 0
pub white_not_0 : (a : ℕ) → a ≡ 0 → is_whitespace_byte a ≡ false
unfolding is_whitespace_byte is_line_end is_blank is_other_whitespace
white_not_0 a z = rw z

pub end_not_0 : (a : ℕ) → a ≡ 0 → is_line_end a ≡ false
unfolding is_line_end
end_not_0 a z = rw z

two_not_0 : (a b : ℕ) → is_next_line a b ≡ true → b ≡ 0 → ⊥
two_not_0 a b e z = true≢false (sym e ∙ ap (is_next_line a) z ∙ and-false (eqb a 0xc2))

three_not_0 : (a b c : ℕ) → is_mark a b c || is_separator a b c ≡ true → c ≡ 0 → ⊥
three_not_0 a b c e z = true≢false (sym e ∙ ap (λ (x : ℕ). is_mark a b x || is_separator a b x) z ∙ with_0 (eqb a 0xe2) (eqb b 0x80))
  where
    with_0 : (p q : Bool) → (p && (q && false)) || (p && (q && false)) ≡ false
    with_0 true true = refl
    with_0 true false = refl
    with_0 false q = refl

pub white_inside : (s : List ℕ) (i : ℕ) → 0 < whitespace_len s i → i + whitespace_len s i ≤ length s
unfolding whitespace_of whitespace_len
white_inside s i =
    let a = byte s i in
    let b = byte s (i + 1) in
    let c = byte s (i + 2) in
    let P : ℕ → Type 0 = λ n. 0 < n → i + n ≤ length s in
    cond_both (is_whitespace_byte a) 1 _ P (λ e _. omega (arith, byte_inside s i (λ z. true≢false (sym e ∙ white_not_0 a z))))
    (λ _. cond_both (is_next_line a b) 2 _ P (λ e _. omega (arith, byte_inside s (i + 1) (two_not_0 a b e)))
    (λ _. cond_both (is_mark a b c || is_separator a b c) 3 0 P (λ e _. omega (arith, byte_inside s (i + 2) (three_not_0 a b c e)))
    (λ _ h. absurd (omega arith))))

pub end_inside : (s : List ℕ) (i : ℕ) → 0 < line_end_len s i → i + line_end_len s i ≤ length s
unfolding whitespace_len line_end_len
end_inside s i h =
    ⊎_elim (λ e. absurd (omega arith)) (λ e. omega (arith, white_inside s i (omega arith)))
    (end_or_white (byte s i) (byte s (i + 1)) (byte s (i + 2)))

-- what the functions that measure go by: the bytes at i, and that what they make stands within the text
module _ (s : List ℕ) (i : ℕ) where
  pub white_bytes : whitespace_len s i ≡ whitespace_of (byte s i) (byte s (i + 1)) (byte s (i + 2))
  unfolding whitespace_len
  white_bytes = refl

  pub white_fits : i ≤ length s → i + whitespace_of (byte s i) (byte s (i + 1)) (byte s (i + 2)) ≤ length s
  unfolding whitespace_len
  white_fits h = ⊎_elim (λ z. omega arith) (white_inside s i) (eq-zero-or-pos (whitespace_len s i))

  pub end_bytes : line_end_len s i ≡ line_end_of (byte s i) (byte s (i + 1)) (byte s (i + 2))
  unfolding line_end_len
  end_bytes = refl

  pub end_fits : i ≤ length s → i + line_end_of (byte s i) (byte s (i + 1)) (byte s (i + 2)) ≤ length s
  unfolding line_end_len
  end_fits h = ⊎_elim (λ z. omega arith) (end_inside s i) (eq-zero-or-pos (line_end_len s i))

-- what rules the byte at i out rules out that a line end starts there
pub end_may_start : (s : List ℕ) (i : ℕ) (r : Bool) → RulesOut (may_end_line (byte s i)) r → RulesOut (at_line_end s i) r
unfolding line_end_len
end_may_start s i r f = record { none = λ e. rw (← end_ruled_out (byte s i) (byte s (i + 1)) (byte s (i + 2)) (f.none e)) refl }

-- by these the check proves what the functions measure: past the text's end its byte counts as 0, and 0 is no such character
pub ruleset measuring_white = (white_bytes, white_fits, white_one, white_ruled_out, white_not_0, get_or_past)

pub ruleset measuring_ends = (end_bytes, end_fits, end_one, end_ruled_out, end_not_0, get_or_past)

-- a byte from 80 to BF starts no whitespace character
pub inner_none : (a b c : ℕ) → 0x80 ≤ a → a < 0xc0 → whitespace_of a b c ≡ 0
unfolding whitespace_of is_whitespace_byte is_line_end is_blank is_other_whitespace
inner_none a b c l h =
    simp (
      ne_eqb a 0x0a (omega arith),
      ne_eqb a 0x0b (omega arith),
      ne_eqb a 0x0d (omega arith),
      ne_eqb a 0x20 (omega arith),
      ne_eqb a 0x09 (omega arith),
      ne_eqb a 0x0c (omega arith),
      ne_eqb a 0xc2 (omega arith),
      ne_eqb a 0xe2 (omega arith),
    )
