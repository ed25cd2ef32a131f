-- The parameters of a function that is walked by hand, each with the laws that take the walk to the contract: what is had of it at exit, and its
-- machine values. A walk then lists its parameters once.
use mathlib.Core.Path.{refl}
use Prim.Native.Nat.{ℕ}
use mathlib.Core.List.{List, [], ◌∷◌}
use seplogic.Ra.Ura.{Ura}
use mir.Syntax.{w64, named, Fn}
use mir.Val.{Val}
use base.Logic.{ent, sep}
use prog.Wp.{Tables, WpFn}
use types.Logic.{Logic}
use contract.Lifetimes.{Lfts, Shares, Within, lft_at, AllOutlive}
use sound.WpLaws.{WpFn-mono}
use denote.RattleType.{RattleType, Denots, Valss, mirs, flat}
use denote.Laws.{Typed, Is, Ises, Spells, Tells, Tellss, Lawful, Lawfuls, valss, all_Typed}
use denote.Plain.{uint_vals, uint_Tells, uint_Lawful}
use denote.Builtin.{u8, u64}
use denote.Slice.{shr_slice_vals, shr_slice_Tells, shr_slice_Lawful}
use denote.Signature.{Slot, plain, shr_slice, types_at}
use denote.Triple.Clauses.{Clauses, Ended, closing}
use denote.Triple.Entry.{Args, Vals, on_entry}
use denote.Triple.End.{Kepts}
use denote.Triple.Spec.{Meets}
use denote.Triple.Walked.{Stay, Stays, stay_dropped, Goes, AllGo, Goes-dropped, walk_of, walked, walk_Meets}
use denote.Exit.{Kept, yes}

-- what is had of a parameter at exit, that it says the parameter's last value, and the parameter's machine values
pub record Param {n : ℕ} (s : Slot n) (k : Kept) : Type 2 where
  pub stay : Stay s k
  pub goes : {M : Type 1} {𝓤 : Ura M} (𝓛 : Logic 𝓤) → Goes 𝓛 n s k stay
  pub vals : (κs : Lfts n) → (s.row κs).Denot → List Val
  pub only_vals : (κs : Lfts n) → Tells (s.row κs) (Is (s.row κs)) (vals κs)
  pub lawful : {M : Type 1} {𝓤 : Ura M} (𝓛 : Logic 𝓤) → (κs : Lfts n) → Lawful 𝓛 (s.row κs)

module _ {n : ℕ} where
  -- a number, or a `&[u8]`: nothing has to be had of it
  abbrev pub number : Param {n = n} (plain (λ _. u64)) yes
  number = record {
    stay = stay_dropped (plain (λ _. u64)) yes;
    goes = λ 𝓛. Goes-dropped 𝓛 n (plain (λ _. u64)) yes (λ κs x f. refl);
    vals = λ κs. uint_vals w64;
    only_vals = λ κs. uint_Tells w64;
    lawful = λ 𝓛 κs. uint_Lawful 𝓛 w64;
  }

  abbrev pub slice : (j : ℕ) (ok : Within n j) → Param {n = n} (shr_slice j ok (λ _. u8)) yes
  slice j ok = record {
    stay = stay_dropped (shr_slice j ok (λ _. u8)) yes;
    goes = λ 𝓛. Goes-dropped 𝓛 n (shr_slice j ok (λ _. u8)) yes (λ κs x f. refl);
    vals = λ κs. shr_slice_vals;
    only_vals = λ κs. shr_slice_Tells (named j) (lft_at n j ok κs) u8;
    lawful = λ 𝓛 κs. shr_slice_Lawful 𝓛 (named j) (lft_at n j ok κs) u8;
  }

  -- all parameters of a function, what is had of them at exit, their machine values, and their laws
  abbrev pub Params : (ss : List (Slot n)) → Kepts ss → Type 2
  Params [] ks = Unit {2}
  Params (s ∷ ss) ks = Param s ks.0 × Params ss ks.1

  abbrev pub stays : (ss : List (Slot n)) (ks : Kepts ss) → Params ss ks → Stays ss ks
  stays [] ks hs = tt
  stays (s ∷ ss) ks hs = (hs.0.stay, stays ss ks.1 hs.1)

  abbrev spells : (ss : List (Slot n)) (ks : Kepts ss) → Params ss ks → (κs : Lfts n) → Spells (types_at ss κs)
  spells [] ks hs κs = tt
  spells (s ∷ ss) ks hs κs = (hs.0.vals κs, spells ss ks.1 hs.1 κs)

  all_only : (ss : List (Slot n)) (ks : Kepts ss) (hs : Params ss ks) (κs : Lfts n) → Tellss (types_at ss κs) (Ises (types_at ss κs)) (spells ss ks hs κs)
  all_only [] ks hs κs = tt
  all_only (s ∷ ss) ks hs κs = (hs.0.only_vals κs, all_only ss ks.1 hs.1 κs)

  abbrev pub machine : (ss : List (Slot n)) (ks : Kepts ss) → Params ss ks → (κs : Lfts n) → Denots (types_at ss κs) → Valss (types_at ss κs)
  machine ss ks hs κs a = valss (types_at ss κs) (spells ss ks hs κs) a

  module _ {M : Type 1} {𝓤 : Ura M} (𝓛 : Logic 𝓤) where
    all_go : (ss : List (Slot n)) (ks : Kepts ss) (hs : Params ss ks) → AllGo 𝓛 n ss ks (stays ss ks hs)
    all_go [] ks hs = tt
    all_go (s ∷ ss) ks hs = (hs.0.goes 𝓛, all_go ss ks.1 hs.1)

    all_lawful : (ss : List (Slot n)) (ks : Kepts ss) → Params ss ks → (κs : Lfts n) → Lawfuls 𝓛 (types_at ss κs)
    all_lawful [] ks hs κs = tt
    all_lawful (s ∷ ss) ks hs κs = (hs.0.lawful 𝓛 κs, all_lawful ss ks.1 hs.1 κs)

-- a walk of a function's MIR from its entry, at any choice of what its triple binds, meets the contract; each parameter's machine value is of its
-- local's type
module _ {M : Type 1} {𝓤 : Ura M} (𝓛 : Logic 𝓤) (T : Ended)
    (hs : Params T.signature.params T.kept) (c : Clauses 𝓤 T) (fn : Fn) where
  open 𝓛 use {H}

  abbrev Ts : Lfts T.signature.lifetimes → List RattleType
  Ts κs = types_at T.signature.params κs

  abbrev vals : (κs : Lfts T.signature.lifetimes) → Args T.signature κs → Vals T.signature κs
  vals = machine T.signature.params T.kept hs

  abbrev stayed : Stays T.signature.params T.kept
  stayed = stays T.signature.params T.kept hs

  pub meets_by : (𝓣 : Tables 𝓤 H)
      → ((κs : Lfts T.signature.lifetimes) (qs : Shares T.signature.lifetimes) (bounds : AllOutlive T.signature.lifetimes T.signature.outlives κs)
      (a : Args T.signature κs) (g : (c κs a).ghost)
      → Typed (mirs (Ts κs)) (flat (Ts κs) (vals κs a))
      → ent 𝓤 (sep 𝓤 (on_entry 𝓛 T.signature κs qs a (vals κs a)) ((c κs a).requires g))
      (WpFn 𝓤 H 𝓣.C 𝓣.Λ fn (flat (Ts κs) (vals κs a)) ((walk_of 𝓛 T stayed c).post ((κs, qs, bounds, a, vals κs a), g))))
      → Meets 𝓛 T.signature (WpFn 𝓤 H 𝓣.C 𝓣.Λ fn) (closing 𝓛 T c)
  meets_by 𝓣 k =
      walk_Meets 𝓛 T stayed (all_go 𝓛 T.signature.params T.kept hs) c (WpFn 𝓤 H 𝓣.C 𝓣.Λ fn) (WpFn-mono 𝓤 H 𝓛.laws 𝓣 fn)
      (walked 𝓛 T stayed c (WpFn 𝓤 H 𝓣.C 𝓣.Λ fn) (spells T.signature.params T.kept hs) (all_only T.signature.params T.kept hs)
      (λ κs qs bounds a g are. k κs qs bounds a g (all_Typed 𝓛 (Ts κs) (all_lawful 𝓛 T.signature.params T.kept hs κs) a (vals κs a) are)))
