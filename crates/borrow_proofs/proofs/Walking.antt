-- What walks by hand share, of functions whose proof is not generated.
-- The lifetimes' tokens, what the parameters own and what is had of them at exit are lists of formulas. A call's promise is taken apart.
-- A walk names what it has by its place. Once n locals are allocated, local i stands at 2 * (n - 1 - i), the right to free it behind it, and
-- what is put in front moves all places on.
use mathlib.Core.Path.{◌≡◌, subst}
use Prim.Native.Nat.{ℕ, zero, suc}
use mathlib.Core.List.{List, [], ◌∷◌}
use lib.Dec.{T}
use seplogic.Ra.Ura.{Ura}
use base.Fraction.{full_share}
use mir.Syntax.{Ty, Callee, Place, place, Opd as Operand, copy, Body as Code, Local, local, seq, call}
use mir.Val.{Val, WT, has_ty}
use base.Logic.{ent, sep, via, mono_l, mono_r, id⊢}
use base.Fml.{Fml, Share, ftrue, fsep, fat, froom, fdies, flft}
use prog.Wp.{Env, Calls, Loops, spot_of}
use types.Logic.{Logic, sem}
use types.Kit.{Item, Goal, Post, Seq, runs, lands, allocs, passes, frees, raw, some, later, pick, await, Step, step}
use types.Kit.{nth, del, put, push, pull, ⋆, mean, ‵, ◌⊛◌, ◌$◌, !, qed, move, use1, split, fjoin, done}
use types.Run.{Opds, init, look, stop, from, load, and_then, pass1, alloc1, alloc0, free1}
use contract.Lifetimes.{Lfts, Shares}
use sound.WpLaws.{FmC}
use denote.RattleType.{RattleType, Denots, Valss}
use denote.Signature.{type_at}
use denote.Steps.{nothing}
use denote.Triple.Statement.{Triple}
use denote.Triple.Call.{calls_at}
use denote.Triple.Clauses.{Clauses, Ended, Lasts, at_exit, lasts, ensured, closing}
use denote.Triple.Entry.{Res, alive}
use denote.Triple.Spec.{triple_of}

-- ---- lists of formulas

-- what each parameter owns
abbrev pub parts : (Rs : List RattleType) → Denots Rs → Valss Rs → List Fml
parts [] a vss = []
parts (R ∷ Rs) a vss = R.own_val a.0 vss.0 ∷ parts Rs a.1 vss.1

-- the token of each lifetime
abbrev pub tokens : (n : ℕ) → Lfts n → Shares n → List Fml
tokens zero κs qs = []
tokens (suc n) κs qs = flft κs.0 qs.0 ∷ tokens n κs.1 qs.1

-- nothing, so many times
abbrev pub nothings : ℕ → List Fml
nothings zero = []
nothings (suc n) = ftrue ∷ nothings n

-- all of them at once
abbrev pub together : List Fml → Fml
together [] = ftrue
together (P ∷ Ps) = fsep P (together Ps)

module _ {M : Type 1} {𝓤 : Ura M} (𝓛 : Logic 𝓤) where
  had_nothings : (n : ℕ) → ent 𝓤 (sem 𝓛 ftrue) (sem 𝓛 (together (nothings n)))
  had_nothings zero = qed 𝓛 (‵ ftrue ∷ []) {P = sem 𝓛 ftrue} (done !)
  had_nothings (suc n) =
      qed 𝓛 (‵ ftrue ∷ []) {P = sem 𝓛 (fsep ftrue (together (nothings n)))}
      (use1 𝓛 (‵ (together (nothings n))) (had_nothings n) $ nothing ! $ fjoin ! $ done !)

module _ {M : Type 1} {𝓤 : Ura M} {𝓛 : Logic 𝓤} {K : Type 0} {Γ : List (Item 𝓤)} where
  -- nothing is had for nothing
  open 𝓛 use {H}

  pub have_nothings : K → (n : ℕ) {G : Goal 𝓤 H} → Step K 𝓛 (‵ (together (nothings n)) ∷ Γ) G Γ G
  have_nothings t n = step (λ s. nothing t $ use1 𝓛 (‵ (together (nothings n))) (had_nothings 𝓛 n) $ s)

  -- a parameter is stored in its local
  pub param : K → (n : ℕ) {τ : Ty} {b : ℕ} {v : Val} {E : Env 𝓤 H} {vs : List Val} {g : Goal 𝓤 H} → nth 𝓛 n Γ ≡ ‵ (froom τ b zero) → T (has_ty τ v) × WT v
      → Step K 𝓛 (put 𝓛 n (‵ (fat full_share τ b zero v)) Γ) (passes E vs g) Γ (passes ((τ, b) ∷ E) (v ∷ vs) g)
  param t n e h = pass1 t (init t n e h)

  -- a call's argument is read from a local
  pub arg : K → (n : ℕ) {i : ℕ} {E : Env 𝓤 H} {q : Share} {v : Val} {xs : List Operand} {vs : List Val}
      → nth 𝓛 n Γ ≡ ‵ (fat q (spot_of 𝓤 H E i).0 (spot_of 𝓤 H E i).1 zero v)
      → Opds K 𝓛 Γ E xs vs → Opds K 𝓛 Γ E (copy (place i []) ∷ xs) (v ∷ vs)
  arg t n e xs = and_then t (load t (from t (stop t)) (look t n e)) xs

  -- a local is let go at a `return`: its cell, and behind it the right to free it
  pub release : K → (n : ℕ) {τ : Ty} {b : ℕ} {v : Val} {E : Env 𝓤 H} {g : Goal 𝓤 H}
      → nth 𝓛 n Γ ≡ ‵ (fat full_share τ b zero v) → nth 𝓛 n (del 𝓛 n Γ) ≡ ‵ (fdies τ b)
      → Step K 𝓛 (del 𝓛 n (del 𝓛 n Γ)) (frees E g) Γ (frees ((τ, b) ∷ E) g)
  release t n {τ} {b} {v} {E} {g} e d = step (λ s. record {
    prf =
        let rest : List (Item 𝓤) = del 𝓛 n (del 𝓛 n Γ) in
        via 𝓤 (sep 𝓤 (H.at full_share τ b zero v) (⋆ 𝓛 (del 𝓛 n Γ)))
        (subst (λ (j : Item 𝓤). ent 𝓤 (⋆ 𝓛 Γ) (sep 𝓤 (mean 𝓛 j) (⋆ 𝓛 (del 𝓛 n Γ)))) e (pull 𝓛 n Γ))
        (via 𝓤 (sep 𝓤 (H.room τ b zero) (⋆ 𝓛 (del 𝓛 n Γ))) (mono_l 𝓤 (⋆ 𝓛 (del 𝓛 n Γ)) (𝓛.laws.at_room τ b zero v))
        (via 𝓤 (sep 𝓤 (H.room τ b zero) (sep 𝓤 (H.dies τ b) (⋆ 𝓛 rest)))
        (mono_r 𝓤 (H.room τ b zero)
        (subst (λ (j : Item 𝓤). ent 𝓤 (⋆ 𝓛 (del 𝓛 n Γ)) (sep 𝓤 (mean 𝓛 j) (⋆ 𝓛 rest))) d (pull 𝓛 n (del 𝓛 n Γ))))
        (via 𝓤 (sep 𝓤 (H.room τ b zero) (⋆ 𝓛 (‵ (fdies τ b) ∷ rest))) (mono_r 𝓤 (H.room τ b zero) (push 𝓛 (‵ (fdies τ b)) rest))
        ((free1 {𝓛 = 𝓛} t {τ = τ} {b = b} {E = E} {g = g}).go s).prf)));
  })

  module _ {C : Calls 𝓤 H} {Λ : Loops 𝓤 H} {E : Env 𝓤 H} {q : Post 𝓤 H} {f : Callee} {xs : List Operand} {d : Place} {rest : Code} where
    -- a call: the context begins with what the callee asks, and then with what the result owns, the tokens, what is said of the last values, and
    -- the `ensures`
    pub called : K → FmC 𝓤 H 𝓛.laws C → (T : Ended) (c : Clauses 𝓤 T) → Triple 𝓤 (C f) (triple_of 𝓛 T.signature (closing 𝓛 T c))
        → (y : (triple_of 𝓛 T.signature (closing 𝓛 T c)).Ghost)
        → Opds K 𝓛 (raw ((triple_of 𝓛 T.signature (closing 𝓛 T c)).pre y) ∷ Γ) E xs ((triple_of 𝓛 T.signature (closing 𝓛 T c)).args y)
        → ((w : Val) (r : Res T.signature y.0.0) (ws : Lasts T y.0.0 y.0.3)
        → Seq K 𝓛 (‵ ((type_at T.signature.result y.0.0).own_val r (w ∷ [])) ∷ raw (alive 𝓛 T.signature y.0.0 y.0.1)
        ∷ ‵ (lasts T y.0.0 y.0.3 ws) ∷ raw ((c y.0.0 y.0.3).ensures y.1 r (at_exit T y.0.0 y.0.3 ws)) ∷ Γ) (lands C Λ E d w rest q))
        → Seq K 𝓛 (raw ((triple_of 𝓛 T.signature (closing 𝓛 T c)).pre y) ∷ Γ) (runs C Λ E (seq (call f xs d) rest) q)
    called t fm T c known y os k = calls_at t fm (triple_of 𝓛 T.signature (closing 𝓛 T c)) known y os (λ w.
        use1 𝓛 (later (some (λ (r : Res T.signature y.0.0).
        (raw (alive 𝓛 T.signature y.0.0 y.0.1) ⊛ ‵ ((type_at T.signature.result y.0.0).own_val r (w ∷ [])))
        ⊛ raw (ensured 𝓛 T c y.0.0 y.0.3 y.1 r)))) (id⊢ 𝓤 _) $ await t tt $ pick t (λ r. split t $ move t (1 ∷ []) $
        use1 𝓛 (some (λ (ws : Lasts T y.0.0 y.0.3). ‵ (lasts T y.0.0 y.0.3 ws)
        ⊛ raw ((c y.0.0 y.0.3).ensures y.1 r (at_exit T y.0.0 y.0.3 ws)))) (id⊢ 𝓤 _) $ pick t (λ ws.
        split t $ move t (2 ∷ []) $ split t $ move t (1 ∷ []) $ k w r ws)))

-- ---- the locals of a function

-- what is to be shown once each local has a block, with room for its value
abbrev Allocated : {M : Type 1} {𝓤 : Ura M} (K : Type 0) (𝓛 : Logic 𝓤)
    → List Local → List (Item 𝓤) → (Env 𝓤 𝓛.H → Goal 𝓤 𝓛.H) → Type 1
Allocated K 𝓛 [] Γ Kt = Seq K 𝓛 Γ (Kt [])
Allocated K 𝓛 (local τ h ∷ ls) Γ Kt = (b : ℕ) → Allocated K 𝓛 ls (‵ (froom τ b zero) ∷ ‵ (fdies τ b) ∷ Γ) (λ E. Kt ((τ, b) ∷ E))

module _ {M : Type 1} {𝓤 : Ura M} {𝓛 : Logic 𝓤} {K : Type 0} where
  -- all locals are allocated
  open 𝓛 use {H}

  pub allocated : K → (ls : List Local) {Γ : List (Item 𝓤)} {Kt : Env 𝓤 H → Goal 𝓤 H} → Allocated K 𝓛 ls Γ Kt → Seq K 𝓛 Γ (allocs ls Kt)
  allocated t [] k = alloc0 t $ k
  allocated t (local τ h ∷ ls) k = alloc1 t (λ b. allocated t ls (k b))
