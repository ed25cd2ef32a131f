-- The references among a call's parameters, each with the laws that take the walk to the contract (borrow_proofs has those of numbers and slices).
use mathlib.Core.Path.{refl}
use Prim.Native.Nat.{ℕ}
use mathlib.Core.List.{[], ◌∷◌}
use mir.Syntax.{named}
use contract.Lifetimes.{Within, lft_at}
use denote.RattleType.{RattleType}
use denote.Builtin.{u8}
use denote.Ref.{shr_vals, mut_vals, mut_Tells, mut_Lawful, shr_Tells, shr_Lawful}
use denote.Slice.{mut_slice_vals, mut_slice_Tells, mut_slice_Lawful}
use denote.Signature.{plain, shr_ref, mut_ref, mut_slice}
use denote.Triple.Walked.{stay_dropped, stay_ref, gave_slice, Goes-dropped, Goes-ref, Goes-gave_slice}
use denote.Exit.{yes}
use Rattle.borrow_proofs.proofs.Parameters.{Param}

module _ {n : ℕ} (j : ℕ) (ok : Within n j) where
  -- a `&`: nothing has to be had of it
  abbrev pub shared : (R : RattleType) → Param {n = n} (shr_ref j ok (λ _. R)) yes
  shared R = record {
    stay = stay_dropped (shr_ref j ok (λ _. R)) yes;
    goes = λ 𝓛. Goes-dropped 𝓛 n (shr_ref j ok (λ _. R)) yes (λ κs x f. refl);
    vals = λ κs. shr_vals;
    only_vals = λ κs. shr_Tells (named j) (lft_at n j ok κs) R;
    lawful = λ 𝓛 κs. shr_Lawful 𝓛 (named j) (lft_at n j ok κs) R;
  }

  -- a `&mut` that is still had at exit
  abbrev pub kept : (R : RattleType) → Param {n = n} (mut_ref j ok (λ _. R)) yes
  kept R = record {
    stay = stay_ref (j ∷ []) ok (plain (λ _. R));
    goes = λ 𝓛. Goes-ref 𝓛 n j ok (plain (λ _. R));
    vals = λ κs. mut_vals;
    only_vals = λ κs. mut_Tells (named j) (lft_at n j ok κs) R;
    lawful = λ 𝓛 κs. mut_Lawful 𝓛 (named j) (lft_at n j ok κs) R;
  }

  -- a `&mut [u8]` that is given to a callee for good
  abbrev pub given_slice : Param {n = n} (mut_slice j ok (λ _. u8)) yes
  given_slice = record {
    stay = gave_slice (j ∷ []) ok (plain (λ _. u8));
    goes = λ 𝓛. Goes-gave_slice 𝓛 n j ok (plain (λ _. u8));
    vals = λ κs. mut_slice_vals;
    only_vals = λ κs. mut_slice_Tells (named j) (lft_at n j ok κs) u8;
    lawful = λ 𝓛 κs. mut_slice_Lawful 𝓛 (named j) (lft_at n j ok κs) u8;
  }
