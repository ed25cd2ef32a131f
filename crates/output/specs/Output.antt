-- What a text of limited length is when more is appended to it.
use Rattle.std.specs.Prelude.{ℕ, zero, suc, ◌+◌, ◌-◌, ◌/◌, ◌%◌, min, ◌≡◌, cond, List, [], ◌∷◌, ◌++◌, ltb, length, take}
use Rattle.area.specs.Bytes.{bytes, field_from}

-- the first n bytes of the buffer l are the text t, or as much of it as l has room for
pub record Written (t l : List ℕ) (n : ℕ) : Type 0 where
  pub count : n ≡ min (length t) (length l)
  pub is : take n l ≡ take n t

-- the first n bytes of the buffer l are the text t, all of it
pub record AllWritten (t l : List ℕ) (n : ℕ) : Type 0 where
  pub count : n ≡ length t
  pub is : take n l ≡ t

-- the text v behind the text t, as much of it as n bytes have room for
unfoldable pub appended : ℕ → List ℕ → List ℕ → List ℕ
appended n t v = t ++ take (n - length t) v

-- f 0 up to f (n - 1), one behind the other
unfoldable pub joined : (ℕ → List ℕ) → ℕ → List ℕ
joined f zero = []
joined f (suc n) = joined f n ++ f n

-- the byte that ends a line
abbrev pub newline : List ℕ
newline = 10 ∷ []

-- the digit of x at a power of ten, if x reaches it
unfoldable pub digit_at : ℕ → ℕ → List ℕ
digit_at x power = cond (ltb x power) [] ((48 + x / power % 10) ∷ [])

-- the digits of a number below 100,000 that stand before the last
unfoldable pub tens : ℕ → List ℕ
tens x = digit_at x 10000 ++ digit_at x 1000 ++ digit_at x 100 ++ digit_at x 10

-- a number below 100,000 in decimal; of any number it has at most five digits, where the library's has all
unfoldable pub decimal : ℕ → List ℕ
decimal x = tens x ++ ((48 + x % 10) ∷ [])

-- a number as a field of a line: a blank and the number (01, Files to try, the end)
unfoldable pub printed_field : ℕ → List ℕ
printed_field x = 32 ∷ decimal x

-- each number as a field
unfoldable pub printed_fields : List ℕ → List ℕ
printed_fields xs = bytes printed_field xs

-- the two-byte fields from a place of an area on, each as a field of the line
unfoldable pub printed_fields_at : List ℕ → ℕ → ℕ → List ℕ
printed_fields_at l at m = joined (λ j. printed_field (field_from l at j)) m
