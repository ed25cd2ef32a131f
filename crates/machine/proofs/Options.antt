-- An element of a list by its place, where there is one.
use mathlib.Core.Path.{◌≡◌, refl, ap}
use mathlib.Core.List.{List, [], ◌∷◌}
use mathlib.Core.Option.{Option, none, some}
use Prim.Native.Nat.{ℕ, zero, suc, ◌<◌}
use native.Mathlib.Omega.{arith}
use lib.ListN.{length, get_or, get_elem?}

module _ {A : Type 0} where
  or_default : A → Option A → A
  or_default d none = d
  or_default d (some x) = x

  is_one : Option A → ℕ
  is_one none = 0
  is_one (some x) = 1

  pub some_is : (x y : A) → some x ≡ some y → x ≡ y
  unfolding or_default
  some_is x y e = ap (or_default x) e

  pub none_some : (x : A) → none ≡ some x → ⊥
  unfolding is_one
  none_some x e = omega (arith, ap is_one e)

  pub some_none : (x : A) → some x ≡ none → ⊥
  unfolding is_one
  some_none x e = omega (arith, ap is_one e)

  pub place_inside : (xs : List A) (k : ℕ) (x : A) → get_elem? xs k ≡ some x → k < length xs
  place_inside [] k x e = absurd (none_some x e)
  place_inside (y ∷ xs) zero x e = omega arith
  place_inside (y ∷ xs) (suc k) x e = omega (arith, place_inside xs k x e)

  pub place_has : (xs : List A) (k : ℕ) (x d : A) → get_elem? xs k ≡ some x → get_or xs k d ≡ x
  place_has [] k x d e = absurd (none_some x e)
  place_has (y ∷ xs) zero x d e = some_is y x e
  place_has (y ∷ xs) (suc k) x d e = place_has xs k x d e

  pub at_place : (xs : List A) (k : ℕ) (d : A) → k < length xs → get_elem? xs k ≡ some (get_or xs k d)
  at_place [] k d h = absurd (omega arith)
  at_place (y ∷ xs) zero d h = refl
  at_place (y ∷ xs) (suc k) d h = at_place xs k d (omega arith)
