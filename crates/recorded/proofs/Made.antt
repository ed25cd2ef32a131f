-- A list that a closure made, which its calls leave as it was: each element is what the closure says of its index.
use mathlib.Core.Path.{◌≡◌, sym, ap, subst, ◌∙◌}
use mathlib.Core.List.{List}
use Prim.Native.Nat.{ℕ, zero, suc, ◌+◌, ◌≤◌, ◌<◌}
use native.Mathlib.Omega.{arith}
use lib.ListN.{get_or}
use denote.Param.Members.{Mut}
use Rattle.std.proofs.Common.{inl, inr}
use Rattle.std.proofs.lemmas.Bool.{cases_lt}
use Rattle.std.specs.Array.{IsFromFnResult, IsFromFnResultFrom}
use Rattle.std.specs.Fn.{Called}

module _ {F B : Type 0} (g : Mut F (ℕ × Unit {0}) B) (value : ℕ → B) (f : F)
    (says : (i : ℕ) (y : B) (q : F) → Called g f (i, tt) y q → (y ≡ value i) × (q ≡ f)) where
  made_from : (ys : List B) (i n : ℕ) (d : B) → IsFromFnResultFrom g f ys i n → (k : ℕ) → i ≤ k → k < i + n → get_or ys k d ≡ value k
  made_from ys i zero d made k low high = absurd (omega arith)
  made_from ys i (suc n) d (q, y, here, called, others) k low high = elim (cases_lt i k) [
    | inl h ↦ made_from ys (i + 1) n d (subst (λ (p : F). IsFromFnResultFrom g p ys (i + 1) n) (says i y q called).1 others) k (omega arith) (omega arith)
    | inr h ↦
        let z : i ≡ k = omega arith in
        ap (λ (j : ℕ). get_or ys j d) (sym z) ∙ here.1 d ∙ (says i y q called).0 ∙ ap value z
  ]

  pub made_at : (ys : List B) (n : ℕ) → IsFromFnResult g f ys n → (d : B) (k : ℕ) → k < n → get_or ys k d ≡ value k
  made_at ys n made d k h = made_from ys 0 n d made.each k (omega arith) (omega arith)
