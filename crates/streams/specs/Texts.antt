-- The texts of an input, where a byte ends a text, and what it is to show them.
use Rattle.std.specs.Prelude.{ℕ, ◌≡◌, cond, eqb, List, [], ◌∷◌}
use Rattle.std.specs.Borrow.{Bor}
use Rattle.std.specs.List.{FoldsTo}

-- a byte before the first text
abbrev pub before_first : ℕ → List (List ℕ) → List (List ℕ)
before_first b [] = (b ∷ []) ∷ []
before_first b (t ∷ ts) = (b ∷ t) ∷ ts

-- the texts of the bytes, without the byte that ends each; behind the last it may be missing
abbrev pub texts : ℕ → List ℕ → List (List ℕ)
texts end [] = []
texts end (b ∷ s) = cond (eqb b end) ([] ∷ texts end s) (before_first b (texts end s))

-- calls at each of the texts, in order, took the closure from f to g; `step` says what a call may do
abbrev pub Shown : {F : Type 0} → (F → Bor (List ℕ) → Unit {0} → F → Type 0) → List (List ℕ) → F → F → Type 0
Shown step ts f g = FoldsTo (λ p t q. (u : Bor (List ℕ)) × (u.now ≡ t) × step p u tt q) f ts g
