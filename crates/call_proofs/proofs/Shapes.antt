-- The parameters of a call as one list of shapes. Their lifetimes are numbered in order; how many there are, and where the struct that is lent and
-- the slice that is given stand among them, is computed. So a further parameter is one more entry of the list, wherever it stands.
use mathlib.Core.Path.{◌≡◌, refl, subst, sym, ap, ◌∙◌}
use Prim.Native.Nat.{ℕ, zero, suc}
use mathlib.Core.List.{List, [], ◌∷◌}
use contract.Lifetimes.{Within}
use denote.RattleType.{RattleType}
use denote.Builtin.{u8, u64}
use denote.Signature.{Slot, plain, shr_ref, shr_slice, mut_ref, mut_slice}
use denote.Triple.End.{all as each}
use denote.Exit.{yes}
use Rattle.borrow_proofs.proofs.Parameters as P
use Rattle.borrow_proofs.proofs.Parameters.{Params}
use Rattle.call_proofs.proofs.References as R

-- a `u64`, a `&[u8]`, a `&R`, the one `&mut R` that is read and written back, and the one `&mut [u8]` that the callee gets for good
pub data Shape : Type 2 where
  number : Shape
  slice : Shape
  shared : RattleType → Shape
  kept : RattleType → Shape
  given_slice : Shape

-- how many parameters, and how many lifetimes
abbrev pub count : List Shape → ℕ
count [] = zero
count (s ∷ ss) = suc (count ss)

abbrev pub lifetimes : List Shape → ℕ
lifetimes [] = zero
lifetimes (number ∷ ss) = lifetimes ss
lifetimes (slice ∷ ss) = suc (lifetimes ss)
lifetimes (shared T ∷ ss) = suc (lifetimes ss)
lifetimes (kept T ∷ ss) = suc (lifetimes ss)
lifetimes (given_slice ∷ ss) = suc (lifetimes ss)

-- where the struct that is lent stands, the number of its lifetime, and where the slice that is given stands
abbrev pub kept_at : List Shape → ℕ
kept_at [] = zero
kept_at (number ∷ ss) = suc (kept_at ss)
kept_at (slice ∷ ss) = suc (kept_at ss)
kept_at (shared T ∷ ss) = suc (kept_at ss)
kept_at (kept T ∷ ss) = zero
kept_at (given_slice ∷ ss) = suc (kept_at ss)

abbrev pub kept_lifetime : List Shape → ℕ
kept_lifetime [] = zero
kept_lifetime (number ∷ ss) = kept_lifetime ss
kept_lifetime (slice ∷ ss) = suc (kept_lifetime ss)
kept_lifetime (shared T ∷ ss) = suc (kept_lifetime ss)
kept_lifetime (kept T ∷ ss) = zero
kept_lifetime (given_slice ∷ ss) = suc (kept_lifetime ss)

abbrev pub given-at : List Shape → ℕ
given-at [] = zero
given-at (number ∷ ss) = suc (given-at ss)
given-at (slice ∷ ss) = suc (given-at ss)
given-at (shared T ∷ ss) = suc (given-at ss)
given-at (kept T ∷ ss) = suc (given-at ss)
given-at (given_slice ∷ ss) = zero

-- ---- the lifetimes from j on: i after j, and that those of the shapes are among n

abbrev after : ℕ → ℕ → ℕ
after j zero = j
after j (suc i) = after (suc j) i

after_suc : (j i : ℕ) → after (suc j) i ≡ suc (after j i)
after_suc j zero = refl
after_suc j (suc i) = after_suc (suc j) i

after_zero : (i : ℕ) → after zero i ≡ i
after_zero zero = refl
after_zero (suc i) = after_suc zero i ∙ ap suc (after_zero i)

abbrev Among : ℕ → ℕ → List Shape → Type 0
Among n j ss = (i : ℕ) → Within (lifetimes ss) i → Within n (after j i)

pub in_order : (ss : List Shape) → Among (lifetimes ss) zero ss
in_order ss i ok = subst (Within (lifetimes ss)) (sym (after_zero i)) ok

-- ---- the parameters, at lifetimes from j on

module _ (n : ℕ) where
  abbrev pub slots_from : (ss : List Shape) (j : ℕ) → Among n j ss → List (Slot n)
  slots_from [] j ok = []
  slots_from (number ∷ ss) j ok = plain (λ _. u64) ∷ slots_from ss j ok
  slots_from (slice ∷ ss) j ok = shr_slice j (ok zero tt) (λ _. u8) ∷ slots_from ss (suc j) (λ i. ok (suc i))
  slots_from (shared T ∷ ss) j ok = shr_ref j (ok zero tt) (λ _. T) ∷ slots_from ss (suc j) (λ i. ok (suc i))
  slots_from (kept T ∷ ss) j ok = mut_ref j (ok zero tt) (λ _. T) ∷ slots_from ss (suc j) (λ i. ok (suc i))
  slots_from (given_slice ∷ ss) j ok = mut_slice j (ok zero tt) (λ _. u8) ∷ slots_from ss (suc j) (λ i. ok (suc i))

  abbrev pub params_from : (ss : List Shape) (j : ℕ) (ok : Among n j ss) → Params (slots_from ss j ok) (each yes (slots_from ss j ok))
  params_from [] j ok = tt
  params_from (number ∷ ss) j ok = (P.number, params_from ss j ok)
  params_from (slice ∷ ss) j ok = (P.slice j (ok zero tt), params_from ss (suc j) (λ i. ok (suc i)))
  params_from (shared T ∷ ss) j ok = (R.shared j (ok zero tt) T, params_from ss (suc j) (λ i. ok (suc i)))
  params_from (kept T ∷ ss) j ok = (R.kept j (ok zero tt) T, params_from ss (suc j) (λ i. ok (suc i)))
  params_from (given_slice ∷ ss) j ok = (R.given_slice j (ok zero tt), params_from ss (suc j) (λ i. ok (suc i)))

abbrev pub params_of : (ss : List Shape)
    → Params {n = lifetimes ss} (slots_from (lifetimes ss) ss zero (in_order ss))
    (each {n = lifetimes ss} yes (slots_from (lifetimes ss) ss zero (in_order ss)))
params_of ss = params_from (lifetimes ss) ss zero (in_order ss)
