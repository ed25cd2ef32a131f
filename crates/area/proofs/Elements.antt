-- What holds of each element of a list, by its place: kept by one element more at the end, and the test of all elements that follows.
use Prim.Native.Nat.{ℕ, ◌≤◌, ◌<◌}
use mathlib.Core.Path.{◌≡◌, sym, subst}
use mathlib.Core.Bool.{Bool, true}
use mathlib.Core.List.{List, [], ◌∷◌, ◌++◌}
use mathlib.Core.Logic.{⊎_elim}
use native.Mathlib.Nat.{not-suc-le-zero, eq-or-lt_of_le}
use native.Mathlib.Omega.{arith}
use lib.ListN.{length, get_or, length-append, get_or-append}
use lib.Seq.{get_or-append_seam}
use Rattle.area.specs.Lists.{all, Each}
use Rattle.area.proofs.All.{all_from}

-- a place in a list with one element more is one of the list, or the last
pub place_cases : {A : Type 0} (x : A) (xs : List A) (j : ℕ) → j < length (xs ++ (x ∷ [])) → {B : Type 0} → (j < length xs → B) → (j ≡ length xs → B) → B
place_cases x xs j h f g =
    let q : j ≤ length xs = omega (arith, length-append xs (x ∷ [])) in
    ⊎_elim g f (eq-or-lt_of_le q)

pub each_none : {A : Type 0} (P : ℕ → A → Type 0) (d : A) → Each P d []
each_none P d = record { at = λ j h. absurd (not-suc-le-zero h) }

module _ {A : Type 0} (P : ℕ → A → Type 0) (d : A) (xs : List A) where
  pub each_snoc : (x : A) → Each P d xs → P (length xs) x → Each P d (xs ++ (x ∷ []))
  each_snoc x e p = record {
    at = λ j h. place_cases x xs j h
        (λ l. subst (P j) (sym (get_or-append xs (x ∷ []) d j l)) (e.at j l))
        (λ q. subst (λ (i : ℕ). P i (get_or (xs ++ (x ∷ [])) i d)) (sym q) (subst (P (length xs)) (sym (get_or-append_seam xs x [] d)) p));
  }

  pub each_weaken : (Q : ℕ → A → Type 0) → ((j : ℕ) (x : A) → j < length xs → P j x → Q j x) → Each P d xs → Each Q d xs
  each_weaken Q f e = record { at = λ j h. f j (get_or xs j d) h (e.at j h) }

-- what holds of each element by its place, and implies a test, passes the test of all
pub all_pass : {A : Type 0} (P : ℕ → A → Type 0) (test : A → Bool) (d : A) (xs : List A)
    → ((j : ℕ) (x : A) → j < length xs → P j x → test x ≡ true) → Each P d xs → all test xs ≡ true
all_pass P test d xs f e = all_from test xs d (λ j h. f j (get_or xs j d) h (e.at j h))
