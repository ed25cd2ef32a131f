-- A word of four two-byte fields has its fields: each is a digit to the base 65,536. So the words of an enum tell its cases apart where the fields do.
use Prim.Native.Nat.{ℕ, ◌+◌, ◌*◌, ◌<◌}
use mathlib.Core.Path.{◌≡◌, sym, ap, ◌∙◌}
use native.Mathlib.Omega.{arith}
use Rattle.answers.specs.Words.{Fields, fields, word, TwoBytes, TellsApart}

same_digit : (n m x y : ℕ) → n < 65536 → m < 65536 → n + 65536 * x ≡ m + 65536 * y → (n ≡ m) × (x ≡ y)
same_digit n m x y h l e = (omega arith, omega arith)

same_fields : (p q : Fields) → TwoBytes p → TwoBytes q → word p ≡ word q → p ≡ q
same_fields p q h l e =
    let t1 = same_digit p.number q.number (p.a + 65536 * (p.b + 65536 * p.c)) (q.a + 65536 * (q.b + 65536 * q.c)) h.number l.number (omega (arith, e)) in
    let t2 = same_digit p.a q.a (p.b + 65536 * p.c) (q.b + 65536 * q.c) h.a l.a t1.1 in
    let t3 = same_digit p.b q.b p.c q.c h.b l.b t2.1 in
    λ i. fields (t1.0 i) (t2.0 i) (t3.0 i) (t3.1 i)

-- an enum whose cases are read back from their fields
pub tells_by : {A : Type 0} (of : A → Fields) (back : Fields → A) → ((x : A) → back (of x) ≡ x) → TellsApart of
tells_by of back again = record { same = λ x y h l e. sym (again x) ∙ ap back (same_fields (of x) (of y) h l e) ∙ again y }

pub two_bytes : (number a b c : ℕ) → number < 65536 → a < 65536 → b < 65536 → c < 65536 → TwoBytes (fields number a b c)
two_bytes number a b c h x y z = record { number = h; a = x; b = y; c = z }

-- an answer without values
pub no_values : (number : ℕ) → number < 65536 → TwoBytes (fields number 0 0 0)
no_values number h = two_bytes number 0 0 0 h (omega arith) (omega arith) (omega arith)
