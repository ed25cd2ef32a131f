-- The steps of a walk that go over all locals or parameters, each in one step. Such a step takes one equation of two lists, what stands at the
-- locals' places and what has to stand there, which holds by computing (`refl`); so a walk has no line for each parameter.
use mathlib.Core.Path.{◌≡◌, ap, sym, subst}
use Prim.Native.Nat.{ℕ, zero, suc, ◌-◌, ◌*◌}
use mathlib.Core.List.{List, [], ◌∷◌}
use seplogic.Ra.Ura.{Ura}
use base.Fraction.{full_share}
use mir.Syntax.{Ty, place, Opd as Operand, copy, Local, local}
use mir.Val.{Val}
use base.Fml.{Share, ftrue, fat, froom, fdies}
use prog.Wp.{Env, spot_of}
use types.Logic.{Logic}
use types.Kit.{Item, Goal, Seq, allocs, passes, frees, Step, step, nth, del, put, rewrite, ‵, ◌$◌}
use types.Run.{Opds, no_more, pass0, free0, alloc0, alloc1}
use denote.Laws.{Typed}
use Rattle.borrow_proofs.proofs.Walking.{param, arg, release}

-- where local i of n stands once all are allocated; what is put in front of them is to be added
abbrev pub place_of : ℕ → ℕ → ℕ
place_of n i = 2 * (n - suc i)

-- a list has an element
abbrev Some {ℓ} : {A : Type ℓ} → List A → Type 0
Some [] = ⊥
Some (x ∷ xs) = Unit {0}

-- ---- allocation

-- a block for each local
abbrev pub Blocks : List Local → Type 0
Blocks [] = Unit {0}
Blocks (l ∷ ls) = ℕ × Blocks ls

module _ {M : Type 1} {𝓤 : Ura M} (𝓛 : Logic 𝓤) where
  -- the locals with their blocks, and what is had then: room for each value, and the right to free it
  open 𝓛 use {H}

  abbrev pub blocks : (ls : List Local) → Blocks ls → Env 𝓤 H
  blocks [] bs = []
  blocks (local τ h ∷ ls) bs = (τ, bs.0) ∷ blocks ls bs.1

  abbrev pub with_rooms : (ls : List Local) → Blocks ls → List (Item 𝓤) → List (Item 𝓤)
  with_rooms [] bs Γ = Γ
  with_rooms (local τ h ∷ ls) bs Γ = with_rooms ls bs.1 (‵ (froom τ bs.0 zero) ∷ ‵ (fdies τ bs.0) ∷ Γ)

module _ {M : Type 1} {𝓤 : Ura M} {𝓛 : Logic 𝓤} {K : Type 0} where
  -- all locals are allocated
  open 𝓛 use {H}

  pub locals_allocated : K → (ls : List Local) {Γ : List (Item 𝓤)} {Kt : Env 𝓤 H → Goal 𝓤 H}
      → ((bs : Blocks ls) → Seq K 𝓛 (with_rooms 𝓛 ls bs Γ) (Kt (blocks 𝓛 ls bs))) → Seq K 𝓛 Γ (allocs ls Kt)
  locals_allocated t [] k = alloc0 t $ k tt
  locals_allocated t (local τ h ∷ ls) k = alloc1 t (λ b. locals_allocated t ls (λ bs. k (b, bs)))

-- ---- parameters

-- the types of the first locals, as many as there are values
abbrev pub types_of : List (Ty × ℕ) → List Val → List Ty
types_of E [] = []
types_of [] (v ∷ vs) = []
types_of (e ∷ E) (v ∷ vs) = e.0 ∷ types_of E vs

module _ {M : Type 1} {𝓤 : Ura M} (𝓛 : Logic 𝓤) where
  -- what stands at the places of the parameters' locals, the first at n, as one after the other gets its value
  open 𝓛 use {H}

  abbrev pub rooms_at : ℕ → Env 𝓤 H → List Val → List (Item 𝓤) → List (Item 𝓤)
  rooms_at n E [] Γ = []
  rooms_at n [] (v ∷ vs) Γ = []
  rooms_at n (e ∷ E) (v ∷ vs) Γ = nth 𝓛 n Γ ∷ rooms_at (n - 2) E vs (put 𝓛 n (‵ (fat full_share e.0 e.1 zero v)) Γ)

  -- room for each
  abbrev pub rooms : Env 𝓤 H → List Val → List (Item 𝓤)
  rooms E [] = []
  rooms [] (v ∷ vs) = []
  rooms (e ∷ E) (v ∷ vs) = ‵ (froom e.0 e.1 zero) ∷ rooms E vs

  -- what is had with the values in their locals
  abbrev pub with_params : ℕ → Env 𝓤 H → List Val → List (Item 𝓤) → List (Item 𝓤)
  with_params n E [] Γ = Γ
  with_params n [] (v ∷ vs) Γ = Γ
  with_params n (e ∷ E) (v ∷ vs) Γ = with_params (n - 2) E vs (put 𝓛 n (‵ (fat full_share e.0 e.1 zero v)) Γ)

module _ {M : Type 1} {𝓤 : Ura M} {𝓛 : Logic 𝓤} {K : Type 0} where
  -- all parameters are stored in their locals
  open 𝓛 use {H}

  pub params_stored : K → (n : ℕ) (E : Env 𝓤 H) (vs : List Val) {Γ : List (Item 𝓤)} {g : Goal 𝓤 H}
      → rooms_at 𝓛 n E vs Γ ≡ rooms 𝓛 E vs → Typed (types_of E vs) vs → Step K 𝓛 (with_params 𝓛 n E vs Γ) g Γ (passes E vs g)
  params_stored t n E [] e h = pass0 t
  params_stored t n [] (v ∷ vs) e h = absurd h
  params_stored t n (x ∷ E) (v ∷ vs) e h =
      step (λ s. param t n (ap (nth 𝓛 zero) e) h.0 $ params_stored t (n - 2) E vs (ap (del 𝓛 zero) e) h.1 $ s)

-- ---- arguments

-- copies of locals
abbrev pub copies : List ℕ → List Operand
copies [] = []
copies (i ∷ js) = copy (place i []) ∷ copies js

module _ {M : Type 1} {𝓤 : Ura M} (𝓛 : Logic 𝓤) where
  -- what stands at the places of locals, local i at m i, and their values
  open 𝓛 use {H}

  abbrev pub cells_at : (ℕ → ℕ) → List ℕ → List (Item 𝓤) → List (Item 𝓤)
  cells_at m [] Γ = []
  cells_at m (i ∷ js) Γ = nth 𝓛 (m i) Γ ∷ cells_at m js Γ

  abbrev pub cells : Env 𝓤 H → List ℕ → List Val → List (Item 𝓤)
  cells E [] [] = []
  cells E [] (v ∷ vs) = ‵ ftrue ∷ []
  cells E (i ∷ js) [] = []
  cells E (i ∷ js) (v ∷ vs) = ‵ (fat full_share (spot_of 𝓤 H E i).0 (spot_of 𝓤 H E i).1 zero v) ∷ cells E js vs

module _ {M : Type 1} {𝓤 : Ura M} {𝓛 : Logic 𝓤} {K : Type 0} where
  -- all arguments of a call are read from locals
  open 𝓛 use {H}

  pub args_read : K → (m : ℕ → ℕ) (js : List ℕ) (vs : List Val) {Γ : List (Item 𝓤)} {E : Env 𝓤 H}
      → cells_at 𝓛 m js Γ ≡ cells 𝓛 E js vs → Opds K 𝓛 Γ E (copies js) vs
  args_read t m [] [] e = no_more t
  args_read t m [] (v ∷ vs) e = absurd (subst Some (sym e) tt)
  args_read t m (i ∷ js) [] e = absurd (subst Some e tt)
  args_read t m (i ∷ js) (v ∷ vs) e = arg t (m i) (ap (nth 𝓛 zero) e) (args_read t m js vs (ap (del 𝓛 zero) e))

  -- the value in a cell, spelt anew
  pub respelt : K → (n : ℕ) {Γ : List (Item 𝓤)} {G : Goal 𝓤 H} {q : Share} {τ : Ty} {b o : ℕ} {u v : Val}
      → u ≡ v → nth 𝓛 n Γ ≡ ‵ (fat q τ b o u) → Step K 𝓛 (put 𝓛 n (‵ (fat q τ b o v)) Γ) G Γ G
  respelt t n {q = q} {τ = τ} {b = b} {o = o} e at_n = rewrite t n (λ (w : Val). ‵ (fat q τ b o w)) e at_n

-- ---- the end

-- a last value for each local
abbrev pub LastValues : List (Ty × ℕ) → Type 0
LastValues [] = Unit {0}
LastValues (e ∷ E) = Val × LastValues E

module _ {M : Type 1} {𝓤 : Ura M} (𝓛 : Logic 𝓤) where
  -- what stands at the places of all locals, local 0 at n, as one after the other is let go: a value, and behind it the right to free it
  open 𝓛 use {H}

  abbrev pub locals_at : ℕ → Env 𝓤 H → List (Item 𝓤) → List (Item 𝓤)
  locals_at n [] Γ = []
  locals_at n (e ∷ E) Γ = nth 𝓛 n Γ ∷ nth 𝓛 n (del 𝓛 n Γ) ∷ locals_at (n - 2) E (del 𝓛 n (del 𝓛 n Γ))

  abbrev pub locals_held : (E : Env 𝓤 H) → LastValues E → List (Item 𝓤)
  locals_held [] vs = []
  locals_held (e ∷ E) vs = ‵ (fat full_share e.0 e.1 zero vs.0) ∷ ‵ (fdies e.0 e.1) ∷ locals_held E vs.1

  -- what is had without them
  abbrev pub without_locals : ℕ → Env 𝓤 H → List (Item 𝓤) → List (Item 𝓤)
  without_locals n [] Γ = Γ
  without_locals n (e ∷ E) Γ = without_locals (n - 2) E (del 𝓛 n (del 𝓛 n Γ))

module _ {M : Type 1} {𝓤 : Ura M} {𝓛 : Logic 𝓤} {K : Type 0} where
  -- all locals are let go
  open 𝓛 use {H}

  pub locals_released : K → (n : ℕ) (E : Env 𝓤 H) (vs : LastValues E) {Γ : List (Item 𝓤)} {g : Goal 𝓤 H}
      → locals_at 𝓛 n E Γ ≡ locals_held 𝓛 E vs → Step K 𝓛 (without_locals 𝓛 n E Γ) g Γ (frees E g)
  locals_released t n [] vs e = free0 t
  locals_released t n (x ∷ E) vs e =
      step (λ s. release t n (ap (nth 𝓛 zero) e) (ap (nth 𝓛 1) e) $
      locals_released t (n - 2) E vs.1 (ap (λ (Δ : List (Item 𝓤)). del 𝓛 zero (del 𝓛 zero Δ)) e) $ s)
