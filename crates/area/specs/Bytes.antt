-- Numbers as bytes: fields of two bytes, records one after the other, and zeros behind them (01, Areas).
-- Assumes nothing.
use Rattle.std.specs.Prelude.{List, [], ◌∷◌, ◌++◌, ℕ, ◌+◌, ◌*◌, ◌-◌, ◌/◌, ◌%◌, ◌<◌, length, get_or, replicate}

-- a number as a field: its low byte, then the rest (01, the introduction)
unfoldable pub two : ℕ → List ℕ
two v = v % 256 ∷ v / 256 ∷ []

-- the bytes of each of the list, one after the other (01, Areas)
unfoldable pub bytes : {A : Type 0} → (A → List ℕ) → List A → List ℕ
bytes f [] = []
bytes f (x ∷ xs) = f x ++ bytes f xs

-- n bytes that are 0
abbrev pub zeros : ℕ → List ℕ
zeros n = replicate n 0

-- the bytes l, and zeros behind them up to n bytes in all (01, Numbers given at the counter)
unfoldable pub pad : ℕ → List ℕ → List ℕ
pad n l = l ++ zeros (n - length l)

-- the number in the field at a place, low byte first; bytes past the end count as 0 (01, the introduction)
unfoldable pub field_at : List ℕ → ℕ → ℕ
field_at l at = get_or l at 0 + get_or l (at + 1) 0 * 256

-- field j of the record that starts at a place (01, Areas)
unfoldable pub field_from : List ℕ → ℕ → ℕ → ℕ
field_from l at j = field_at l (at + 2 * j)

-- each of the list is a byte
pub record AllBytes (l : List ℕ) : Type 0 where
  pub small : (k : ℕ) → get_or l k 0 < 256
