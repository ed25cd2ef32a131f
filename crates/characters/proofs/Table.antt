-- The rule of the table of classes. A test that antt computes at each of the 256 bytes says that the table's entry has the bits of the byte's
-- classes and no others; one law turns the computed test into the rule at each byte. The table itself is computed from the classes, and antt
-- compares it with the one in the code.
use mathlib.Core.Path.{◌≡◌, refl, subst, sym, ap, ◌∙◌}
use mathlib.Core.Bool.{Bool, true, false, ◌&&◌, cond, false≢true}
use mathlib.Core.List.{List, [], ◌∷◌}
use mathlib.Core.Logic.{⊎_elim}
use Prim.Native.Nat.{ℕ, zero, suc, ◌+◌, ◌-◌, ◌≤◌, ◌<◌}
use native.Mathlib.Nat.{not-suc-le-zero, eq-or-lt_of_le, le_of_suc-le-suc}
use native.Mathlib.Omega.{arith}
use borrow.Author.Tests.{eqb-true}
use lib.Dec.{eqb}
use lib.ListN.{get_or}
use Rattle.std.proofs.lemmas.Bool.{and_parts}
use Rattle.characters.specs.Class.{Classes, ClassTable, has, is_line_end, is_blank, is_other_whitespace}
use Rattle.characters.specs.Class.{is_letter, is_digit, is_hex_digit, is_meta_character, is_escape_letter}

-- the test passes at each number below n; area, above this crate, has its own, and this one unfolds by itself where the table is computed
abbrev pub all_below : (ℕ → Bool) → ℕ → Bool
all_below test zero = true
all_below test (suc n) = test n && all_below test n

at_each : (test : ℕ → Bool) (n k : ℕ) → all_below test n ≡ true → k < n → test k ≡ true
at_each test zero k e h = absurd (not-suc-le-zero h)
at_each test (suc n) k e h =
    ⊎_elim (λ q. subst (λ (j : ℕ). test j ≡ true) (sym q) (and_parts (test n) (all_below test n) e).0)
    (λ l. at_each test n k (and_parts (test n) (all_below test n) e).1 l)
    (eq-or-lt_of_le (le_of_suc-le-suc h))

-- two tests agree, and all that follows holds
abbrev agree : Bool → Bool → Bool → Bool
agree true true rest = rest
agree true false rest = false
agree false true rest = false
agree false false rest = rest

agreed : (p q rest : Bool) → agree p q rest ≡ true → (p ≡ q) × (rest ≡ true)
agreed true true rest e = (refl, e)
agreed true false rest e = absurd (false≢true e)
agreed false true rest e = absurd (false≢true e)
agreed false false rest e = (refl, e)

-- the entry x is right at the byte b
right : ℕ → ℕ → Bool
unfolding is_line_end is_blank is_other_whitespace is_letter is_digit is_hex_digit is_meta_character is_escape_letter
right b x =
    agree (has x 1) (is_line_end b)
    (agree (has x 2) (is_blank b)
    (agree (has x 4) (is_other_whitespace b)
    (agree (has x 8) (is_letter b)
    (agree (has x 16) (is_digit b)
    (agree (has x 32) (is_hex_digit b)
    (agree (has x 64) (is_meta_character b)
    (agree (has x 128) (is_escape_letter b) true)))))))

right_says : (b x : ℕ) → right b x ≡ true → Classes b x
unfolding right
right_says b x e0 =
    let e1 = agreed (has x 1) (is_line_end b) _ e0 in
    let e2 = agreed (has x 2) (is_blank b) _ e1.1 in
    let e3 = agreed (has x 4) (is_other_whitespace b) _ e2.1 in
    let e4 = agreed (has x 8) (is_letter b) _ e3.1 in
    let e5 = agreed (has x 16) (is_digit b) _ e4.1 in
    let e6 = agreed (has x 32) (is_hex_digit b) _ e5.1 in
    let e7 = agreed (has x 64) (is_meta_character b) _ e6.1 in
    let e8 = agreed (has x 128) (is_escape_letter b) _ e7.1 in
    record {
      line_end = e1.0;
      blank = e2.0;
      other_whitespace = e3.0;
      letter = e4.0;
      digit = e5.0;
      hex_digit = e6.0;
      meta_character = e7.0;
      escape_letter = e8.0;
    }

-- the masks of a byte's classes, added up
masks : ℕ → ℕ
masks b =
    cond (is_line_end b) 1 0 + cond (is_blank b) 2 0 + cond (is_other_whitespace b) 4 0 + cond (is_letter b) 8 0
    + cond (is_digit b) 16 0 + cond (is_hex_digit b) 32 0 + cond (is_meta_character b) 64 0 + cond (is_escape_letter b) 128 0

entries : ℕ → ℕ → List ℕ
entries zero b = []
entries (suc n) b = masks b ∷ entries n (suc b)

unfoldable pub table : List ℕ
unfolding masks entries is_line_end is_blank is_other_whitespace is_letter is_digit is_hex_digit is_meta_character is_escape_letter
table = entries 256 0

-- what is computed at each byte and its entry in the table
pub at_each_entry : (test : ℕ → ℕ → Bool) → all_below (λ k. test k (get_or table k 0)) 256 ≡ true → (b : ℕ) → b < 256 → test b (get_or table b 0) ≡ true
at_each_entry test e b h = at_each (λ k. test k (get_or table k 0)) 256 b e h

-- at each byte the table tells the byte's classes
pub table_rule : (b : ℕ) → b < 256 → Classes b (get_or table b 0)
unfolding right table
table_rule b h = right_says b (get_or table b 0) (at_each_entry right refl b h)

pub class_table : ClassTable table
class_table = record { rule = table_rule }

-- a byte of 128 or more has no class
pub no_class_above : (k : ℕ) → k < 128 → get_or table (128 + k) 0 ≡ 0
unfolding table
no_class_above k h = eqb-true (get_or table (128 + k) 0) 0 (at_each (λ j. eqb (get_or table (128 + j) 0) 0) 128 k refl h)

pub none_above : (b : ℕ) → 0x80 ≤ b → b < 256 → Classes b 0
none_above b l h =
    let k : 128 + (b - 128) ≡ b = omega arith in
    let e : get_or table b 0 ≡ 0 = ap (λ (j : ℕ). get_or table j 0) (sym k) ∙ no_class_above (b - 128) (omega arith) in
    subst (Classes b) e (table_rule b h)
