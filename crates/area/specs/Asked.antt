-- What a closure answers for the records of a list, as a test of the specification's. `post` says what it may answer for one.
-- Assumes nothing.
use Rattle.std.specs.Prelude.{◌≡◌, Option, Some, Bool, ℕ, ◌≤◌, ◌<◌, List, length, get_or}
use Rattle.characters.specs.Walk.{first, Below}
use Rattle.area.specs.Lists.{all}

-- r is whether every element of xs passes, by any test that answers as the closure does for each of them. d stands for no element
pub record AllPass {A : Type 0} (post : A → Bool → Type 0) (d : A) (xs : List A) (r : Bool) : Type 0 where
  pub is : (test : A → Bool) → ((k : ℕ) (b : Bool) → k < length xs → post (get_or xs k d) b → b ≡ test (get_or xs k d)) → r ≡ all test xs

-- r is the first place from i to before e that passes, if there is one, by any test that answers as the closure does for each place there
pub record FirstFound {A : Type 0} (post : ℕ → A → Bool → Type 0) (d : A) (xs : List A) (i e : ℕ) (r : Option ℕ) : Type 0 where
  pub is : (test : ℕ → Bool) → ((k : ℕ) (b : Bool) → i ≤ k → k < e → post k (get_or xs k d) b → b ≡ test k) → Below e (first test i e) r
  pub within : (k : ℕ) → r ≡ Some k → (i ≤ k) × (k < e)
