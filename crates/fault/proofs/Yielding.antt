-- What holds wherever a step goes on: a law for each way in which steps are joined. A step that ends in a fault or a full area yields nothing.
use Prim.Native.Nat.{ℕ, zero, suc}
use mathlib.Core.Path.{◌≡◌}
use mathlib.Core.Bool.{Bool, true}
use mathlib.Core.Option.{Option, none, some}
use Rattle.std.proofs.lemmas.Bool.{cond_both}
use Rattle.area.specs.declared.AreaName.{AreaName}
use Rattle.fault.specs.Step.{Out, go, bad, full, next, onto, written, loop}

-- P holds of the place and the state with which the step goes on
abbrev pub Yields : {S : Type 0} → (ℕ → S → Type 0) → Out S → Type 0
Yields P (go i s) = P i s
Yields P (bad kind at s) = Unit {0}
Yields P (full name) = Unit {0}

pub yields_next : {S : Type 0} (P : ℕ → S → Type 0) (Q : ℕ → S → Type 0) (o : Out S) (g : ℕ → S → Out S) → Yields P o → ((i : ℕ) (s : S) → P i s → Yields Q (g i s)) → Yields Q (next o g)
yields_next P Q (go i s) g h f = f i s h
yields_next P Q (bad kind at s) g h f = tt
yields_next P Q (full name) g h f = tt

pub yields_onto : {S T : Type 0} (P : ℕ → S → Type 0) (Q : ℕ → T → Type 0) (f : S → T) (o : Out S) → Yields P o → ((i : ℕ) (s : S) → P i s → Q i (f s)) → Yields Q (onto f o)
yields_onto P Q f (go i s) h g = g i s h
yields_onto P Q f (bad kind at s) h g = tt
yields_onto P Q f (full name) h g = tt

pub yields_written : {S : Type 0} (P : ℕ → S → Type 0) (name : AreaName) (i : ℕ) (o : Option S) → ((s : S) → P i s) → Yields P (written name i o)
yields_written P name i none f = tt
yields_written P name i (some s) f = f s

-- what each turn keeps, where its test passes, holds where the loop leaves off
pub yields_loop : {S : Type 0} (P : ℕ → S → Type 0) (test : ℕ → Bool) (body : ℕ → S → Out S) → ((i : ℕ) (s : S) → test i ≡ true → P i s → Yields P (body i s)) → (n i : ℕ) (s : S) → P i s → Yields P (loop n test body i s)
unfolding loop
yields_loop P test body keeps zero i s h = h
yields_loop P test body keeps (suc n) i s h =
    cond_both (test i) (next (body i s) (λ j t. loop n test body j t)) (go i s) (Yields P)
    (λ e. yields_next P P (body i s) (λ j t. loop n test body j t) (keeps i s e h) (λ j t. yields_loop P test body keeps n j t)) (λ _. h)
