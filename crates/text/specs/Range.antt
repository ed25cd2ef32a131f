-- Ranges of a text, and whether two are the same bytes.
use Rattle.std.specs.Prelude.{Bool, true, false, ◌&&◌, cond, List, [], ◌∷◌, ℕ, ◌+◌, ◌-◌, eqb, length, take, drop, Option, Some, None}

-- the bytes from a to before e
unfoldable pub part : List ℕ → ℕ → ℕ → List ℕ
part s a e = take (e - a) (drop a s)

-- the two lists have the same bytes
unfoldable pub same_bytes : List ℕ → List ℕ → Bool
same_bytes [] [] = true
same_bytes [] (y ∷ ys) = false
same_bytes (x ∷ xs) [] = false
same_bytes (x ∷ xs) (y ∷ ys) = eqb x y && same_bytes xs ys

-- the bytes of s from a to before e are those of t from c to before d
unfoldable pub same_range : List ℕ → ℕ → ℕ → List ℕ → ℕ → ℕ → Bool
same_range s a e t c d = same_bytes (part s a e) (part t c d)

-- behind the bytes w, if they stand at i
unfoldable pub lookahead_is : List ℕ → List ℕ → ℕ → Option ℕ
lookahead_is s w i = cond (same_bytes (part s i (i + length w)) w) (Some (i + length w)) None
