-- How long a text can be: a number has at most 5 digits, and texts one behind the other have as many bytes as they have together.
use Prim.Native.Nat.{ℕ, zero, suc, ◌+◌, ◌*◌, ◌-◌, ◌/◌, ◌%◌, ◌≤◌}
use mathlib.Core.List.{List, [], ◌∷◌, ◌++◌}
use native.Mathlib.Omega.{arith}
use lib.Dec.{ltb}
use lib.ListN.{length, drop, length-append, length-take}
use Rattle.std.proofs.lemmas.Bool.{cond_both}
use Rattle.text.specs.Range.{part}
use Rattle.area.specs.Bytes.{bytes}
use Rattle.output.specs.Output.{joined, digit_at, tens, decimal, printed_field, printed_fields}

-- the text t has at most n bytes
pub record Most (t : List ℕ) (n : ℕ) : Type 0 where
  pub most : length t ≤ n

pub word_most : (w : List ℕ) → Most w (length w)
word_most w = record { most = omega arith }

-- one text behind another
pub append_most : {a b : List ℕ} {m n : ℕ} → Most a m → Most b n → Most (a ++ b) (m + n)
append_most {a} {b} h g = record { most = omega (arith, length-append a b, h.most, g.most) }

-- ---- a number

digit_most : (x power : ℕ) → Most (digit_at x power) 1
unfolding digit_at
digit_most x power =
    cond_both (ltb x power) [] ((48 + x / power % 10) ∷ []) (λ t. Most t 1)
    (λ _. record { most = omega arith })
    (λ _. record { most = omega arith })

tens_most : (x : ℕ) → Most (tens x) 4
unfolding tens
tens_most x = append_most (append_most (append_most (digit_most x 10000) (digit_most x 1000)) (digit_most x 100)) (digit_most x 10)

-- a blank and at most 5 digits
pub field_most : (x : ℕ) → Most (printed_field x) 6
unfolding printed_field decimal
field_most x = append_most (word_most (32 ∷ [])) (append_most (tens_most x) (word_most ((48 + x % 10) ∷ [])))

pub fields_most : (xs : List ℕ) → Most (printed_fields xs) (length xs * 6)
unfolding printed_fields bytes
fields_most [] = record { most = omega arith }
fields_most (x ∷ xs) = record { most = omega (arith, (append_most (field_most x) (fields_most xs)).most) }

-- ---- texts

pub part_most : (s : List ℕ) (a e : ℕ) → length (part s a e) ≤ e - a
unfolding part
part_most s a e = omega (arith, length-take (e - a) (drop a s))

-- texts joined that all have the same bound
pub joined_most : (f : ℕ → List ℕ) (c : ℕ) → ((k : ℕ) → length (f k) ≤ c) → (n : ℕ) → length (joined f n) ≤ n * c
unfolding joined
joined_most f c h zero = omega arith
joined_most f c h (suc n) = omega (arith, length-append (joined f n) (f n), joined_most f c h n, h n)
