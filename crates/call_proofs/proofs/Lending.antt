-- A struct that is lent by `&mut` to a function walked by hand. One formula is taken out of a list and put into it by its place, so that the
-- borrow of one parameter is opened and closed whatever the others are.
use mathlib.Core.Path.{◌≡◌, refl}
use Prim.Native.Nat.{ℕ, zero, suc}
use mathlib.Core.List.{List, [], ◌∷◌}
use seplogic.Ra.Ura.{Ura}
use base.Fraction.{full_share}
use mir.Syntax.{Lifetime}
use mir.Val.{Val}
use base.Logic.{ent, sep}
use base.Stored.{Gv}
use base.Fml.{Fml, Lft, Share, ftrue, fsep, flft, fobs, fauth, fobor}
use types.Logic.{Logic, sem}
use types.Kit.{Item, Goal, Seq, Soaks, Step, step, ‵, ◌⊛◌, ◌$◌, !, qed, move, drop, rewrite, use1, use2}
use types.Kit.{split, fsplit, fsplit3, fjoin, fjoin3, feq_i, done}
use types.SemTy.{Body}
use contract.Lifetimes.{Lfts, Shares}
use denote.RattleType.{RattleType}
use denote.Memory.{mem, cell_at}
use denote.Laws.{Is, Tells, shows}
use denote.Ref.{MutBor, MutRef, at_last, mut_vals}
use denote.Steps.{opens, closes, peeks, nothing}
use denote.Struct.Steps.{spelt}
use Rattle.borrow_proofs.proofs.Walking.{together}

-- ---- lists of formulas

-- the lifetimes but the one at a place, and their shares
abbrev pub lfts_but : (n k : ℕ) → Lfts (suc n) → Lfts n
lfts_but zero k κs = tt
lfts_but (suc n) zero κs = κs.1
lfts_but (suc n) (suc k) κs = (κs.0, lfts_but n k κs.1)

abbrev pub shares_but : (n k : ℕ) → Shares (suc n) → Shares n
shares_but zero k qs = tt
shares_but (suc n) zero qs = qs.1
shares_but (suc n) (suc k) qs = (qs.0, shares_but n k qs.1)

-- the one at a place, those beside it, and a list with one put in at a place
abbrev pub at : ℕ → List Fml → Fml
at k [] = ftrue
at zero (P ∷ Ps) = P
at (suc k) (P ∷ Ps) = at k Ps

abbrev pub but : ℕ → List Fml → List Fml
but k [] = []
but zero (P ∷ Ps) = Ps
but (suc k) (P ∷ Ps) = P ∷ but k Ps

abbrev pub with : ℕ → Fml → List Fml → List Fml
with k P [] = P ∷ []
with zero P (Q ∷ Qs) = P ∷ Q ∷ Qs
with (suc k) P (Q ∷ Qs) = Q ∷ with k P Qs

module _ {M : Type 1} {𝓤 : Ura M} (𝓛 : Logic 𝓤) where
  -- what is said of lists of formulas below, as entailments
  out_of : (k : ℕ) (Ps : List Fml) → ent 𝓤 (sem 𝓛 (together Ps)) (sep 𝓤 (sem 𝓛 (at k Ps)) (sem 𝓛 (together (but k Ps))))
  out_of k [] = qed 𝓛 (‵ ftrue ∷ []) {P = sep 𝓤 (sem 𝓛 ftrue) (sem 𝓛 ftrue)} (nothing ! $ done !)
  out_of zero (P ∷ Ps) = qed 𝓛 (‵ (fsep P (together Ps)) ∷ []) {P = sep 𝓤 (sem 𝓛 P) (sem 𝓛 (together Ps))} (fsplit ! $ done !)
  out_of (suc k) (P ∷ Ps) = qed 𝓛 (‵ (fsep P (together Ps)) ∷ []) {P = sep 𝓤 (sem 𝓛 (at k Ps)) (sem 𝓛 (fsep P (together (but k Ps))))} (
      fsplit ! $ move ! (1 ∷ []) $ use1 𝓛 (‵ (at k Ps) ⊛ ‵ (together (but k Ps))) (out_of k Ps) $ split ! $ move ! (2 ∷ 1 ∷ []) $ fjoin ! $
      move ! (1 ∷ 0 ∷ []) $ done !)

  into : (k : ℕ) (P : Fml) (Ps : List Fml) → ent 𝓤 (sep 𝓤 (sem 𝓛 P) (sem 𝓛 (together Ps))) (sem 𝓛 (together (with k P Ps)))
  into k P [] = qed 𝓛 (‵ P ∷ ‵ ftrue ∷ []) {P = sem 𝓛 (fsep P ftrue)} (fjoin ! $ done !)
  into zero P (Q ∷ Qs) = qed 𝓛 (‵ P ∷ ‵ (together (Q ∷ Qs)) ∷ []) {P = sem 𝓛 (fsep P (together (Q ∷ Qs)))} (fjoin ! $ done !)
  into (suc k) P (Q ∷ Qs) = qed 𝓛 (‵ P ∷ ‵ (fsep Q (together Qs)) ∷ []) {P = sem 𝓛 (fsep Q (together (with k P Qs)))} (
      move ! (1 ∷ []) $ fsplit ! $ move ! (2 ∷ 1 ∷ []) $ use2 𝓛 (‵ (together (with k P Qs))) (into k P Qs) $ move ! (1 ∷ 0 ∷ []) $ fjoin ! $ done !)

module _ {M : Type 1} {𝓤 : Ura M} {𝓛 : Logic 𝓤} {K : Type 0} {Γ : List (Item 𝓤)} {G : Goal 𝓤 𝓛.H} where
  -- the formula at a place is taken out
  pub taken_out : K → (k : ℕ) (Ps : List Fml) → Step K 𝓛 (‵ (at k Ps) ∷ ‵ (together (but k Ps)) ∷ Γ) G (‵ (together Ps) ∷ Γ) G
  taken_out t k Ps = step (λ s. use1 𝓛 (‵ (at k Ps) ⊛ ‵ (together (but k Ps))) (out_of 𝓛 k Ps) $ split t $ s)

  -- a formula is put in at a place
  pub put_in : K → (k : ℕ) (P : Fml) (Ps : List Fml) → Step K 𝓛 (‵ (together (with k P Ps)) ∷ Γ) G (‵ P ∷ ‵ (together Ps) ∷ Γ) G
  put_in t k P Ps = step (λ s. use2 𝓛 (‵ (together (with k P Ps))) (into 𝓛 k P Ps) $ s)

  -- ---- the borrow of one parameter

  -- a `&mut` at place k of the parameters, its token at place j: the value's cell, what it owns and the open borrow, and what is left of both lists
  pub lent_opened : K → Soaks G → (j k : ℕ) (ts ps : List Fml) (R : RattleType) (vals : R.Denot → List Val) → Tells R (Is R) vals
      → (ℓ : Lifetime) {κ : Lft} {q : Share} (x : MutBor R.Denot) → at j ts ≡ flft κ q → at k ps ≡ (MutRef ℓ κ R).own_val x (mut_vals x)
      → (Is R x.now (vals x.now)
      → Seq K 𝓛 (‵ (cell_at full_share R.mir (vals x.now) x.ref_ptr.0 x.ref_ptr.1) ∷ ‵ (R.own_val x.now (vals x.now))
      ∷ ‵ (fobor κ q (Body (mem R) x.ref_ptr.0 x.ref_ptr.1 x.ghost_name))
      ∷ ‵ (fobs x.ghost_name (R.coded.code x.now)) ∷ ‵ (fauth x.ghost_name (R.coded.code x.now))
      ∷ ‵ (together (but j ts)) ∷ ‵ (together (but k ps)) ∷ Γ) G)
      → Seq K 𝓛 (‵ (together ts) ∷ ‵ (together ps) ∷ Γ) G
  lent_opened t z j k ts ps R vals tl ℓ {κ} {q} x et ep s =
      use1 𝓛 (‵ (at j ts) ⊛ ‵ (together (but j ts))) (out_of 𝓛 j ts) $ split t $ rewrite t 0 (λ (P : Fml). ‵ P) et refl $
      move t (2 ∷ []) $ use1 𝓛 (‵ (at k ps) ⊛ ‵ (together (but k ps))) (out_of 𝓛 k ps) $ split t $ rewrite t 0 (λ (P : Fml). ‵ P) ep refl $
      fsplit3 t $ drop t $
      -- [the observed value; the borrow; the others' parts; the token; the others' tokens]
      move t (0 ∷ 1 ∷ 3 ∷ 4 ∷ []) $ opens t z R {h = x.now} x.ref_ptr.0 x.ref_ptr.1 (λ vs.
      spelt t R (Is R) (shows 𝓛 R) vals tl full_share x.now vs x.ref_ptr.0 x.ref_ptr.1 $ move t (1 ∷ []) $
      peeks t R (Is R) (shows 𝓛 R) x.now _ (λ was. move t (1 ∷ 0 ∷ []) $ s was))

  -- it is closed at another value: the reference as it is then, and all tokens
  pub lent_closed : K → Soaks G → (j : ℕ) (ts : List Fml) (R : RattleType) (ℓ : Lifetime) {κ : Lft} {q : Share} {u v : Gv} (x : MutBor R.Denot)
      (h : R.Denot) (vs : List Val) → with j (flft κ q) (but j ts) ≡ ts
      → Step K 𝓛 (‵ ((MutRef ℓ κ R).own_val (at_last x h) (mut_vals x)) ∷ ‵ (together ts) ∷ Γ) G
      (‵ (cell_at full_share R.mir vs x.ref_ptr.0 x.ref_ptr.1) ∷ ‵ (R.own_val h vs) ∷ ‵ (fobor κ q (Body (mem R) x.ref_ptr.0 x.ref_ptr.1 x.ghost_name))
      ∷ ‵ (fobs x.ghost_name u) ∷ ‵ (fauth x.ghost_name v) ∷ ‵ (together (but j ts)) ∷ Γ) G
  lent_closed t z j ts R ℓ {κ} {q} x h vs e = step (λ s.
      closes t z R h vs x.ref_ptr.0 x.ref_ptr.1 $ move t (2 ∷ 3 ∷ []) $
      use2 𝓛 (‵ (together (with j (flft κ q) (but j ts)))) (into 𝓛 j (flft κ q) (but j ts)) $ rewrite t 0 (λ (Ps : List Fml). ‵ (together Ps)) e refl $
      move t (1 ∷ 2 ∷ []) $ feq_i t (List Val) (mut_vals x) (mut_vals x) refl $ fjoin3 t $ s)
