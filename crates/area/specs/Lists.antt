-- Tests of lists and of numbers, the numbers that pass, and what holds of each element by its place.
use Rattle.std.specs.Prelude.{ℕ, zero, suc, ◌<◌, Bool, true, cond, ◌&&◌, List, [], ◌∷◌, ◌++◌, length, get_or}

-- every element passes the test
unfoldable pub all : {A : Type 0} → (A → Bool) → List A → Bool
all test [] = true
all test (x ∷ xs) = test x && all test xs

-- the numbers below n all pass the test
unfoldable pub all_below : (ℕ → Bool) → ℕ → Bool
all_below test zero = true
all_below test (suc n) = all_below test n && test n

-- the numbers below n that pass the test, in order
unfoldable pub numbers : (ℕ → Bool) → ℕ → List ℕ
numbers test zero = []
numbers test (suc n) = numbers test n ++ cond (test n) (n ∷ []) []

-- the numbers of the elements that pass the test, in order; d stands for no element
abbrev pub numbers_of : {A : Type 0} → (A → Bool) → A → List A → List ℕ
numbers_of test d xs = numbers (λ k. test (get_or xs k d)) (length xs)

-- P holds of each element of the list and its place; d is what stands past the end
pub record Each {A : Type 0} (P : ℕ → A → Type 0) (d : A) (xs : List A) : Type 0 where
  pub at : (j : ℕ) → j < length xs → P j (get_or xs j d)
