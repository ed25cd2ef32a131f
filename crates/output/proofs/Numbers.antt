-- Numbers in decimal: how they are appended, and that their digits spell them.
use Prim.Native.Nat.{ℕ, ◌+◌, ◌*◌, ◌-◌, ◌/◌, ◌%◌, ◌≤◌, ◌<◌}
use mathlib.Core.Path.{◌≡◌, refl, ap, ◌∙◌}
use mathlib.Core.Bool.{Bool, true, false, cond}
use mathlib.Core.List.{List, [], ◌∷◌, ◌++◌}
use native.Mathlib.Omega.{arith}
use lib.Dec.{ltb}
use borrow.Author.Tests.{lt-ltb, le-ltb, ltb-true}
use Rattle.output.specs.declared.Text.{Text}
use Rattle.output.specs.Output.{digit_at, tens, decimal, printed_field}
use Rattle.output.specs.Text.{Appends}
use Rattle.output.proofs.Appending.{appends_none, appends_then}

-- ---- a number in decimal: the digits that it reaches, then the last

module _ (x power : ℕ) {a : Text} where
  pub digit_none : x < power → Appends a a (digit_at x power)
  unfolding digit_at
  digit_none h = rw (lt-ltb x power h) (appends_none a)

  pub digit_one : {b : Text} → power ≤ x → Appends a b ((48 + x / power % 10) ∷ []) → Appends a b (digit_at x power)
  unfolding digit_at
  digit_one h p = rw (le-ltb x power h) p

module _ (x : ℕ) {a b c d e : Text} where
  pub tens_parts : Appends a b (digit_at x 10000) → Appends b c (digit_at x 1000) → Appends c d (digit_at x 100) → Appends d e (digit_at x 10)
      → Appends a e (tens x)
  unfolding tens
  tens_parts p q r s = appends_then s (appends_then r (appends_then q p))

module _ (x : ℕ) {a b c d : Text} where
  pub field_parts : Appends a b (32 ∷ []) → Appends b c (tens x) → Appends c d ((48 + x % 10) ∷ []) → Appends a d (printed_field x)
  unfolding printed_field decimal
  field_parts p q r = appends_then (appends_then r q) p

-- ---- what is printed is the number: its digits spell it, for every number below 100,000

-- the number that the ASCII digits of a text spell, behind the number v
unfoldable pub value_from : ℕ → List ℕ → ℕ
value_from v [] = v
value_from v (d ∷ ds) = value_from (10 * v + (d - 48)) ds

value_append : (v : ℕ) (a b : List ℕ) → value_from v (a ++ b) ≡ value_from (value_from v a) b
unfolding value_from
value_append v [] b = refl
value_append v (d ∷ ds) b = value_append (10 * v + (d - 48)) ds b

value_digit : (v y w : ℕ) → 10 * v + y ≡ w → value_from v ((48 + y) ∷ []) ≡ w
unfolding value_from
value_digit v y w h = omega arith

-- from x divided by 10 p to x divided by p
value_step : (x p v w : ℕ) → v ≡ w → (x < p → w ≡ x / p) → 10 * w + x / p % 10 ≡ x / p → value_from v (digit_at x p) ≡ x / p
unfolding digit_at value_from
value_step x p v w q z h = by (ltb x p) refl
  where
    by : (b : Bool) → ltb x p ≡ b → value_from v (cond b [] ((48 + x / p % 10) ∷ [])) ≡ x / p
    by true e = q ∙ z (ltb-true x p e)
    by false e = ap (λ (u : ℕ). value_from u ((48 + x / p % 10) ∷ [])) q ∙ value_digit w (x / p % 10) (x / p) h

pub decimal_value : (x : ℕ) → x < 100000 → value_from 0 (decimal x) ≡ x
unfolding decimal tens
decimal_value x h =
    let d4 = digit_at x 10000 in
    let d43 = d4 ++ digit_at x 1000 in
    let d432 = d43 ++ digit_at x 100 in
    let e4 : value_from 0 d4 ≡ x / 10000 = value_step x 10000 0 0 refl (λ g. omega arith) (omega arith) in
    let e3 : value_from (value_from 0 d4) (digit_at x 1000) ≡ x / 1000 = value_step x 1000 _ (x / 10000) e4 (λ g. omega arith) (omega arith) in
    let e2 : value_from (value_from 0 d43) (digit_at x 100) ≡ x / 100 =
    value_step x 100 _ (x / 1000) (value_append 0 d4 (digit_at x 1000) ∙ e3) (λ g. omega arith) (omega arith) in
    let e1 : value_from (value_from 0 d432) (digit_at x 10) ≡ x / 10 =
    value_step x 10 _ (x / 100) (value_append 0 d43 (digit_at x 100) ∙ e2) (λ g. omega arith) (omega arith) in
    value_append 0 (tens x) ((48 + x % 10) ∷ [])
    ∙ ap (λ (v : ℕ). value_from v ((48 + x % 10) ∷ [])) (value_append 0 d432 (digit_at x 10) ∙ e1)
    ∙ value_digit (x / 10) (x % 10) x (omega arith)
