-- An input has one answer that means something, and one machine that is next: so `Means` alone says what the machine does.
use mathlib.Core.Path.{◌≡◌, sym, ap, ◌∙◌}
use mathlib.Core.List.{List}
use mathlib.Core.Logic.{inl, inr, ⊎_elim}
use mathlib.Core.Option.{none, some}
use Prim.Native.Nat.{ℕ, ◌<◌}
use native.Mathlib.Omega.{arith}
use lib.ListN.{get_elem?}
use Rattle.characters.proofs.Tests.{le_or_lt}
use Rattle.name_map.specs.Map.{Entry}
use Rattle.std.specs.Prelude.{Ok, Err}
use Rattle.run.specs.declared.StepError.TheVariants.{BrokenSheet, TextMismatch, BrokenRun, RowMismatch}
use Rattle.run.specs.declared.Step.TheVariants.{Done, Stopped, Unlinked, Skip, Token}
use Rattle.run.specs.Run.{StepAnswer, Input}
use Rattle.machine.specs.Machine.{Given, Machine, Winner, winner, move, answered}
use Rattle.machine.specs.Means.{length_at, Fitting, Misfit, NoneMatches, Won, EntryOf, Means}
use Rattle.machine.proofs.Options.{some_is, none_some}

-- no two entries have one name
pub record Distinct (es : List Entry) : Type 0 where
  pub one : (name : List ℕ) (x y : ℕ) → EntryOf es name x → EntryOf es name y → x ≡ y

module _ (g : Given) (m : Machine) (i : Input) where
  fits_not : Fitting g m i → Misfit g m i → ⊥
  fits_not t (inl wrong) = wrong t.size
  fits_not t (inr (k, h, off)) = off (t.each k h)

  won_not : (w : Winner) → Won g m i w → NoneMatches g m i → ⊥
  won_not w h z = omega (arith, z h.place w.rule h.rule h.live, h.has, h.some_bytes)

  -- one winner
  not_before : (v w : Winner) (p : Won g m i v) (q : Won g m i w) → p.place < q.place → ⊥
  not_before v w p q h =
      let less = q.earliest p.place v.rule h p.rule p.live in
      let most = p.greatest q.place w.rule q.rule q.live in
      omega (arith, less, most, p.has, q.has)

  same_place : (v w : Winner) (p : Won g m i v) (q : Won g m i w) → p.place ≡ q.place
  same_place v w p q =
      ⊎_elim (λ h. ⊎_elim (λ k. omega arith) (λ k. absurd (not_before w v q p k)) (le_or_lt p.place q.place))
      (λ h. absurd (not_before v w p q h))
      (le_or_lt q.place p.place)

  same_winner : (v w : Winner) → Won g m i v → Won g m i w → v ≡ w
  same_winner v w p q =
      let e = same_place v w p q in
      let rule : v.rule ≡ w.rule = some_is v.rule w.rule (sym p.rule ∙ ap (get_elem? g.file.rules) e ∙ q.rule) in
      let bytes : v.bytes ≡ w.bytes = sym p.has ∙ ap (length_at i.row) e ∙ q.has in
      λ j. winner (rule j) (bytes j)

  name_not : (v w : Winner) → Won g m i v → Won g m i w → v.rule.name ≡ none → (name : List ℕ) → w.rule.name ≡ some name → ⊥
  name_not v w p q a name b = none_some name (sym a ∙ ap (λ (x : Winner). x.rule.name) (same_winner v w p q) ∙ b)

  same_name : (v w : Winner) → Won g m i v → Won g m i w → (x y : List ℕ) → v.rule.name ≡ some x → w.rule.name ≡ some y → x ≡ y
  same_name v w p q x y a b = some_is x y (sym a ∙ ap (λ (z : Winner). z.rule.name) (same_winner v w p q) ∙ b)

  moved_same : (v w : Winner) → Won g m i v → Won g m i w → (x y : Machine) → x ≡ move v m → y ≡ move w m → x ≡ y
  moved_same v w p q x y a b = a ∙ ap (λ (z : Winner). move z m) (same_winner v w p q) ∙ sym b

  module _ (distinct : Distinct g.map) where
    pub only : (a : StepAnswer) (x : Machine) (b : StepAnswer) (y : Machine) → Means g m i a x → Means g m i b y → answered a x ≡ answered b y
    only (Err BrokenSheet) x b y p q = absurd p
    only (Err TextMismatch) x b y p q = absurd p
    only (Err BrokenRun) x b y p q = absurd p
    only (Ok Done) x (Err BrokenSheet) y p q = absurd q
    only (Ok Done) x (Err TextMismatch) y p q = absurd q
    only (Ok Done) x (Err BrokenRun) y p q = absurd q
    only (Ok Done) x (Ok Done) y p q = ap (answered (Ok Done)) (p.1 ∙ sym q.1)
    only (Ok Done) x (Err RowMismatch) y p q = absurd (q.0 p.0)
    only (Ok Done) x (Ok Stopped) y p q = absurd (q.0.before p.0)
    only (Ok Done) x (Ok Unlinked) y p q = absurd (q.1.fitting.before p.0)
    only (Ok Done) x (Ok Skip) y p q = absurd (q.1.fitting.before p.0)
    only (Ok Done) x (Ok (Token id start bytes)) y p q = absurd (q.1.fitting.before p.0)
    only (Err RowMismatch) x (Err BrokenSheet) y p q = absurd q
    only (Err RowMismatch) x (Err TextMismatch) y p q = absurd q
    only (Err RowMismatch) x (Err BrokenRun) y p q = absurd q
    only (Err RowMismatch) x (Ok Done) y p q = absurd (p.0 q.0)
    only (Err RowMismatch) x (Err RowMismatch) y p q = ap (answered (Err RowMismatch)) (p.2 ∙ sym q.2)
    only (Err RowMismatch) x (Ok Stopped) y p q = absurd (fits_not q.0 p.1)
    only (Err RowMismatch) x (Ok Unlinked) y p q = absurd (fits_not q.1.fitting p.1)
    only (Err RowMismatch) x (Ok Skip) y p q = absurd (fits_not q.1.fitting p.1)
    only (Err RowMismatch) x (Ok (Token id start bytes)) y p q = absurd (fits_not q.1.fitting p.1)
    only (Ok Stopped) x (Err BrokenSheet) y p q = absurd q
    only (Ok Stopped) x (Err TextMismatch) y p q = absurd q
    only (Ok Stopped) x (Err BrokenRun) y p q = absurd q
    only (Ok Stopped) x (Ok Done) y p q = absurd (p.0.before q.0)
    only (Ok Stopped) x (Err RowMismatch) y p q = absurd (fits_not p.0 q.1)
    only (Ok Stopped) x (Ok Stopped) y p q = ap (answered (Ok Stopped)) (p.2 ∙ sym q.2)
    only (Ok Stopped) x (Ok Unlinked) y p q = absurd (won_not q.0 q.1 p.1)
    only (Ok Stopped) x (Ok Skip) y p q = absurd (won_not q.0 q.1 p.1)
    only (Ok Stopped) x (Ok (Token id start bytes)) y p q = absurd (won_not q.0 q.1 p.1)
    only (Ok Unlinked) x (Err BrokenSheet) y p q = absurd q
    only (Ok Unlinked) x (Err TextMismatch) y p q = absurd q
    only (Ok Unlinked) x (Err BrokenRun) y p q = absurd q
    only (Ok Unlinked) x (Ok Done) y p q = absurd (p.1.fitting.before q.0)
    only (Ok Unlinked) x (Err RowMismatch) y p q = absurd (fits_not p.1.fitting q.1)
    only (Ok Unlinked) x (Ok Stopped) y p q = absurd (won_not p.0 p.1 q.1)
    only (Ok Unlinked) x (Ok Unlinked) y p q = ap (answered (Ok Unlinked)) (p.5 ∙ sym q.5)
    only (Ok Unlinked) x (Ok Skip) y p q = absurd (name_not q.0 p.0 q.1 p.1 q.2 p.2 p.3)
    only (Ok Unlinked) x (Ok (Token id start bytes)) y (v, pv, n, nv, nobody, ev) (w, qw, k, nw, (j, e, at, is, id_is), from, long, ew) =
        absurd (nobody id (j, e, at, is ∙ sym (same_name v w pv qw n k nv nw), id_is))
    only (Ok Skip) x (Err BrokenSheet) y p q = absurd q
    only (Ok Skip) x (Err TextMismatch) y p q = absurd q
    only (Ok Skip) x (Err BrokenRun) y p q = absurd q
    only (Ok Skip) x (Ok Done) y p q = absurd (p.1.fitting.before q.0)
    only (Ok Skip) x (Err RowMismatch) y p q = absurd (fits_not p.1.fitting q.1)
    only (Ok Skip) x (Ok Stopped) y p q = absurd (won_not p.0 p.1 q.1)
    only (Ok Skip) x (Ok Unlinked) y p q = absurd (name_not p.0 q.0 p.1 q.1 p.2 q.2 q.3)
    only (Ok Skip) x (Ok Skip) y p q = ap (answered (Ok Skip)) (moved_same p.0 q.0 p.1 q.1 x y p.3 q.3)
    only (Ok Skip) x (Ok (Token id start bytes)) y p q = absurd (name_not p.0 q.0 p.1 q.1 p.2 q.2 q.3)
    only (Ok (Token id start bytes)) x (Err BrokenSheet) y p q = absurd q
    only (Ok (Token id start bytes)) x (Err TextMismatch) y p q = absurd q
    only (Ok (Token id start bytes)) x (Err BrokenRun) y p q = absurd q
    only (Ok (Token id start bytes)) x (Ok Done) y p q = absurd (p.1.fitting.before q.0)
    only (Ok (Token id start bytes)) x (Err RowMismatch) y p q = absurd (fits_not p.1.fitting q.1)
    only (Ok (Token id start bytes)) x (Ok Stopped) y p q = absurd (won_not p.0 p.1 q.1)
    only (Ok (Token id start bytes)) x (Ok Unlinked) y (w, qw, k, nw, (j, e, at, is, id_is), from, long, ew) (v, pv, n, nv, nobody, ev) =
        absurd (nobody id (j, e, at, is ∙ sym (same_name v w pv qw n k nv nw), id_is))
    only (Ok (Token id start bytes)) x (Ok Skip) y p q = absurd (name_not q.0 p.0 q.1 p.1 q.2 p.2 p.3)
    only (Ok (Token id start bytes)) x (Ok (Token id2 start2 bytes2)) y (v, pv, n, nv, (j, e, at, is, id_is), from, long, ev)
        (w, qw, k, nw, en, from2, long2, ew) =
        let ids : id ≡ id2 = distinct.one k id id2 (j, e, at, is ∙ same_name v w pv qw n k nv nw, id_is) en in
        let starts : start ≡ start2 = from ∙ sym from2 in
        let lengths : bytes ≡ bytes2 = long ∙ ap (λ (z : Winner). z.bytes) (same_winner v w pv qw) ∙ sym long2 in
        let nexts : x ≡ y = moved_same v w pv qw x y ev ew in
        λ j. answered (Ok (Token (ids j) (starts j) (lengths j))) (nexts j)
