-- The walks over a reader: it is a parameter, and a scanner moves it on. The functions over scanners differ in the scanner alone, and in whether it takes
-- the flags; so the walks of their MIR are two laws over it: the scanner is called on the slice and the offset, and the offset that it answers is stored
-- in the struct. All that is known of the scanner is that it meets its contract. The struct is Copy: what it owns is had twice. Of one copy what the
-- slice owns goes to the scanner, and the other, with the new offset in the place of the old, is what the result owns.
use mathlib.Core.Path.{◌≡◌, refl, ap}
use mathlib.Core.List.{List, [], ◌∷◌}
use Prim.Native.Nat.{ℕ, ◌≤◌}
use lib.ListN.{length}
use seplogic.Ra.Ura.{Ura}
use base.Fraction.{full_share}
use mir.Syntax.{Callee, Fn, local, value_local, ty_int, ty_ref, imm, named, erased, w8, w64, place, field, copy, rv_opd, assign, call, seq, return}
use mir.Val.{Val}
use base.Logic.{ent}
use base.Fml.{Fml, fat}
use prog.Wp.{Calls, Loops, Tables, WpFn}
use types.Logic.{Logic}
use contract.Lifetimes.{Lfts, Shares}
use contract.Monad.{fact}
use types.Kit.{Item, Goal, Step, step, ‵, raw, given, ◌⊛◌, ◌$◌, ◌∵◌, !, qed, move, keep, use1, use2, split, learn, rewrite, fsplit, fjoin, suffices, frame, done}
use types.Run.{look, init, stop, fld, from, load, of_opd, no_more, assigns, land, returns, enter, params1, pass0, free0}
use types.Part.{whole, sub, look_in, store_in}
use sound.WpLaws.{FmC, fm_of}
use denote.RattleType.{RattleType, mirs, flat}
use denote.Laws.{Typed, Is, shows}
use denote.Plain.{uint_Makes, uint_vals, uint_Lawful}
use denote.Builtin.{u8, u64, usize}
use denote.Ref.{NamedLft}
use denote.Signature.{plain, shr_slice, named_lft, types_at}
use denote.Slice.{slice_ty, shr_slice_vals}
use denote.Steps.{only, owned, facts, heard}
use denote.Struct.Declared.{Declared}
use denote.Struct.Laws as StructLaws
use denote.Struct.Rest.{all_own, own_open, own_put}
use denote.Struct.Values.{Values}
use denote.Triple.Clauses.{Clauses, Ended, closing}
use denote.Triple.Entry.{Args, Vals, on_entry}
use denote.Triple.Spec.{Meets, triple_of}
use denote.Triple.Statement.{Contract, Triple}
use denote.Triple.Walked.{says, needs, Stays, stay_dropped, Goes-dropped, walk_of, ends_at}
use denote.Exit.{yes}
use Rattle.characters.specs.Walk.{Between}
use Rattle.section.specs.Reader.{reader_at, reader_moved, reader_moved_by}
use Rattle.section.specs.declared.reader.Reader.{Reader}
use Rattle.borrow_proofs.proofs.Walking.{parts, tokens, together, have_nothings, allocated, param, arg, release, called}
use Rattle.borrow_proofs.proofs.Parameters.{Param, Params, number, stays, machine, meets_by}
use Rattle.section.specs.contracts.reader.Reader as ReaderType
use Rattle.section.proofs.reader.Reader.TheLaws as ReaderLaws

-- the struct's type over the lifetimes of a signature
abbrev pub held : Lfts 1 → RattleType
held κs = ReaderType.the_row (named_lft 1 0 tt κs)

-- a reader that is passed: nothing has to be had of it
abbrev pub reader : Param {n = 1} (plain held) yes
reader = record {
  stay = stay_dropped (plain held) yes;
  goes = λ 𝓛. Goes-dropped 𝓛 1 (plain held) yes (λ κs x f. refl);
  vals = λ κs. StructLaws.vals (ReaderType.the_type (named_lft 1 0 tt κs)) (ReaderLaws.the_laws (named_lft 1 0 tt κs));
  only_vals = λ κs. StructLaws.tells (ReaderType.the_type (named_lft 1 0 tt κs)) (ReaderLaws.the_laws (named_lft 1 0 tt κs));
  lawful = λ 𝓛 κs. StructLaws.lawful (ReaderType.the_type (named_lft 1 0 tt κs)) (ReaderLaws.the_laws (named_lft 1 0 tt κs)) 𝓛;
}

-- ---- a scanner, and the function that moves a reader by it; both may take the flags

abbrev pub scanner : Ended
scanner = record {
  signature = record { lifetimes = 1; outlives = []; params = shr_slice 0 tt (λ _. u8) ∷ plain (λ _. usize) ∷ []; result = plain (λ _. usize) };
  kept = (yes, (yes, tt));
}

abbrev pub flagged_scanner : Ended
flagged_scanner = record {
  signature = record { lifetimes = 1; outlives = []; params = shr_slice 0 tt (λ _. u8) ∷ plain (λ _. u64) ∷ plain (λ _. usize) ∷ []; result = plain (λ _. usize) };
  kept = (yes, (yes, (yes, tt)));
}

abbrev pub mover : Ended
mover = record { signature = record { lifetimes = 1; outlives = []; params = plain held ∷ []; result = plain held }; kept = (yes, tt) }

abbrev pub flagged_mover : Ended
flagged_mover = record { signature = record { lifetimes = 1; outlives = []; params = plain held ∷ plain (λ _. u64) ∷ []; result = plain held }; kept = (yes, (yes, tt)) }

abbrev params : Params mover.signature.params mover.kept
params = (reader, tt)

abbrev flagged_params : Params flagged_mover.signature.params flagged_mover.kept
flagged_params = (reader, (number, tt))

abbrev stayed : Stays mover.signature.params mover.kept
stayed = stays mover.signature.params mover.kept params

abbrev flagged_stayed : Stays flagged_mover.signature.params flagged_mover.kept
flagged_stayed = stays flagged_mover.signature.params flagged_mover.kept flagged_params

-- the MIR: `let k = g(r.source, r.offset); r.offset = k; r`
abbrev moves_fn : Callee → Fn
moves_fn g = record {
  lifetimes = 1;
  outlives = [];
  ty_params = [];
  givens = 0;
  params = 1;
  locals = local (ReaderLaws.mir (named 0)) value_local ∷ local (ReaderLaws.mir (named 0)) value_local ∷ local (ty_int w64) value_local
      ∷ local (slice_ty (ty_ref erased imm (ty_int w8))) value_local ∷ local (ty_int w64) value_local ∷ [];
  body = seq (assign (place 3 []) (rv_opd (copy (place 1 (field 0 ∷ []))))) (seq (assign (place 4 []) (rv_opd (copy (place 1 (field 1 ∷ [])))))
      (seq (call g (copy (place 3 []) ∷ copy (place 4 []) ∷ []) (place 2 [])) (seq (assign (place 1 (field 1 ∷ [])) (rv_opd (copy (place 2 []))))
      (seq (assign (place 0 []) (rv_opd (copy (place 1 [])))) return))));
}

-- the MIR: `let k = g(r.source, flags, r.offset); r.offset = k; r`
abbrev flagged_fn : Callee → Fn
flagged_fn g = record {
  lifetimes = 1;
  outlives = [];
  ty_params = [];
  givens = 0;
  params = 2;
  locals = local (ReaderLaws.mir (named 0)) value_local ∷ local (ReaderLaws.mir (named 0)) value_local ∷ local (ty_int w64) value_local ∷ local (ty_int w64) value_local
      ∷ local (slice_ty (ty_ref erased imm (ty_int w8))) value_local ∷ local (ty_int w64) value_local ∷ [];
  body = seq (assign (place 4 []) (rv_opd (copy (place 1 (field 0 ∷ []))))) (seq (assign (place 5 []) (rv_opd (copy (place 1 (field 1 ∷ [])))))
      (seq (call g (copy (place 4 []) ∷ copy (place 2 []) ∷ copy (place 5 []) ∷ []) (place 3 [])) (seq (assign (place 1 (field 1 ∷ [])) (rv_opd (copy (place 3 []))))
      (seq (assign (place 0 []) (rv_opd (copy (place 1 [])))) return))));
}

-- the reader is within its source
abbrev pub Inside : Reader → Type 0
Inside r = r.offset ≤ length r.source.now

module _ {M : Type 1} (𝓤 : Ura M) where
  -- the clauses of a scanner, and of the function that moves a reader by it
  abbrev pub scans : (List ℕ → ℕ → ℕ) → Clauses 𝓤 scanner
  scans scan κs a = record {
    ghost = Unit {0};
    requires = λ _. fact 𝓤 (a.1.0 ≤ length a.0.now);
    ensures = λ _ n _. fact 𝓤 (Between a.1.0 (length a.0.now) (scan a.0.now a.1.0) n);
  }

  abbrev pub moves : (List ℕ → ℕ → ℕ) → Clauses 𝓤 mover
  moves scan κs a = record {
    ghost = Unit {0};
    requires = λ _. fact 𝓤 (Inside a.0);
    ensures = λ _ r _. fact 𝓤 (r ≡ reader_moved scan a.0);
  }

  -- the same with the flags
  abbrev pub scans_flagged : (List ℕ → ℕ → ℕ → ℕ) → Clauses 𝓤 flagged_scanner
  scans_flagged scan κs a = record {
    ghost = Unit {0};
    requires = λ _. fact 𝓤 (a.1.1.0 ≤ length a.0.now);
    ensures = λ _ n _. fact 𝓤 (Between a.1.1.0 (length a.0.now) (scan a.0.now a.1.0 a.1.1.0) n);
  }

  abbrev pub moves_flagged : (List ℕ → ℕ → ℕ → ℕ) → Clauses 𝓤 flagged_mover
  moves_flagged scan κs a = record {
    ghost = Unit {0};
    requires = λ _. fact 𝓤 (Inside a.0);
    ensures = λ _ r _. fact 𝓤 (r ≡ reader_moved_by scan a.1.0 a.0);
  }

module _ {M : Type 1} {𝓤 : Ura M} (𝓛 : Logic 𝓤) where
  abbrev Scans : (List ℕ → ℕ → ℕ) → Contract 𝓤
  Scans scan = triple_of 𝓛 scanner.signature (closing 𝓛 scanner (scans 𝓤 scan))

  abbrev ScansFlagged : (List ℕ → ℕ → ℕ → ℕ) → Contract 𝓤
  ScansFlagged scan = triple_of 𝓛 flagged_scanner.signature (closing 𝓛 flagged_scanner (scans_flagged 𝓤 scan))

module _ {M : Type 1} {𝓤 : Ura M} (𝓛 : Logic 𝓤) (κs : Lfts 1) (qs : Shares 1) (d : Reader) where
  open 𝓛 use {H}

  abbrev α : NamedLft
  α = named_lft 1 0 tt κs

  -- the struct's type and laws, and its fields' values
  abbrev D : Declared
  D = ReaderType.the_type α

  abbrev L : StructLaws.Laws D
  L = ReaderLaws.the_laws α

  abbrev fields : Values D.parts
  fields = (ReaderType.struct α).as_values d

  -- what the struct owns, and the struct with another offset
  abbrev Own : Fml
  Own = (held κs).own_val d (ReaderLaws.lowered d ∷ [])

  abbrev at : ℕ → Reader
  at n = reader_at d.source n

  module _ {K : Type 0} {Γ : List (Item 𝓤)} {G : Goal 𝓤 H} where
    -- what the struct owns is had twice, the one time as what its fields own
    opened : K → Step K 𝓛 (‵ (all_own D.parts L fields) ∷ ‵ Own ∷ Γ) G (‵ Own ∷ Γ) G
    opened t = step (λ s.
        use1 𝓛 (‵ Own ⊛ ‵ Own) ((StructLaws.copy D (ReaderLaws.the_copy α) 𝓛).twice d (ReaderLaws.lowered d ∷ [])) $ split t $
        use1 𝓛 (given (ReaderLaws.lowered d ∷ [] ≡ ReaderLaws.lowered d ∷ []) (‵ (all_own D.parts L fields))) (own_open 𝓛 D L fields (ReaderLaws.lowered d)) $ learn t (λ _. s))

    -- with another offset, it is what the struct with that offset owns
    stored : K → (n : ℕ) → Is usize n (uint_vals w64 n) → Step K 𝓛 (‵ ((held κs).own_val (at n) (ReaderLaws.lowered (at n) ∷ [])) ∷ Γ) G (‵ Own ∷ Γ) G
    stored t n is = step (λ s. owned t usize (Is usize) (uint_Makes 𝓛 w64) n _ is $ move t (1 ∷ 0 ∷ []) $
        use2 𝓛 (‵ ((held κs).own_val (at n) (ReaderLaws.lowered (at n) ∷ []))) (own_put 𝓛 D L 1 fields n (ReaderLaws.lowered d)) $ s)

  module _ (scan : List ℕ → ℕ → ℕ) where
    abbrev Ts : List RattleType
    Ts = types_at mover.signature.params κs

    abbrev vals : Vals mover.signature κs
    vals = machine mover.signature.params mover.kept params κs (d, tt)

    abbrev y : (walk_of 𝓛 mover stayed (moves 𝓤 scan)).Ghost
    y = ((κs, qs, tt, (d, tt), vals), tt)

    -- what the scanner's triple binds
    abbrev to : (Scans 𝓛 scan).Ghost
    to = ((κs, qs, tt, (d.source, (d.offset, tt)), (shr_slice_vals d.source, (uint_vals w64 d.offset, tt))), tt)

    module _ (C : Calls 𝓤 H) (Λ : Loops 𝓤 H) (fm : FmC 𝓤 H 𝓛.laws C) (g : Callee) (known : Triple 𝓤 (C g) (Scans 𝓛 scan)) where
      walk : Inside d → Typed (mirs Ts) (flat Ts vals) → ent 𝓤 (on_entry 𝓛 mover.signature κs qs (d, tt) vals) (WpFn 𝓤 H C Λ (moves_fn g) (flat Ts vals) ((walk_of 𝓛 mover stayed (moves 𝓤 scan)).post y))
      walk asked t =
          qed 𝓛 (‵ (together (tokens 1 κs qs)) ∷ ‵ (together (parts Ts (d, tt) vals)) ∷ []) ∵ enter ! C Λ (moves_fn g) (flat Ts vals) _ $
          allocated ! (moves_fn g).locals (λ l0 l1 l2 l3 l4. params1 ! $ param ! 6 refl t.0 $ pass0 ! $
          -- [_4; …; to _0; …; the token; what the struct owns]
          assigns ! (of_opd ! (load ! (from ! (fld ! refl (stop !))) (look_in ! 6 (sub ! 0 refl (whole !))))) (from ! (stop !)) (init ! 2 refl (tt, t.0.1.0)) $
          assigns ! (of_opd ! (load ! (from ! (fld ! refl (stop !))) (look_in ! 6 (sub ! 1 refl (whole !))))) (from ! (stop !)) (init ! 0 refl (tt, t.0.1.1.0)) $
          move ! (11 ∷ []) $ fsplit ! $ opened ! $
          -- [what the fields own; what the struct owns; nothing; _4; …]: the call
          move ! (13 ∷ 0 ∷ []) $ use2 𝓛 (raw ((Scans 𝓛 scan).pre to)) (qed 𝓛 (‵ (together (tokens 1 κs qs)) ∷ ‵ (all_own D.parts L fields) ∷ []) ∵ says ! asked $ frame ! $ done !) $
          called ! fm scanner (scans 𝓤 scan) known to (arg ! 5 refl (arg ! 3 refl (no_more !))) (λ w n ws.
          facts ! usize (Is usize) (shows 𝓛 usize) n (w ∷ []) (λ is. move ! (2 ∷ []) $ heard ! (Between d.offset (length d.source.now) (scan d.source.now d.offset) n) (λ said.
          -- [the token; last values; what the struct owns; nothing; _4; …]: the offset is stored, and the struct returned
          land ! (from ! (stop !)) (init ! 8 refl ((uint_Lawful 𝓛 w64).typed n _ is).0) $ rewrite ! 8 (λ (u : Val). ‵ (fat full_share (ty_int w64) l2 0 u)) (ap only is.0) refl $
          assigns ! (of_opd ! (load ! (from ! (stop !)) (look ! 8 refl))) (from ! (fld ! refl (stop !))) (store_in ! 10 (sub ! 1 refl (whole !)) (tt, record { fits = is.1 })) $
          assigns ! (of_opd ! (load ! (from ! (stop !)) (look ! 10 refl))) (from ! (stop !)) (init ! 12 refl (tt, (t.0.1.0, (record { fits = is.1 }, tt)))) $
          returns ! (look ! 12 refl) $ release ! 12 refl refl $ release ! 10 refl refl $ release ! 8 refl refl $ release ! 6 refl refl $ release ! 4 refl refl $ free0 ! $ keep ! (0 ∷ 2 ∷ []) $
          -- [the token; what the struct owns]
          suffices ! _ (ends_at 𝓛 mover stayed (moves 𝓤 scan) y (ReaderLaws.lowered (at n)) (at n) (tt, tt) (tt, tt)) $ says ! (ap at said.is) $ frame ! $
          stored ! n (refl, is.1) $ have_nothings ! 1 $ done !))))

  -- with the flags, a number more
  module _ (scan : List ℕ → ℕ → ℕ → ℕ) (flags : ℕ) where
    abbrev Ts_flagged : List RattleType
    Ts_flagged = types_at flagged_mover.signature.params κs

    abbrev a_flagged : Args flagged_mover.signature κs
    a_flagged = (d, (flags, tt))

    abbrev vals_flagged : Vals flagged_mover.signature κs
    vals_flagged = machine flagged_mover.signature.params flagged_mover.kept flagged_params κs a_flagged

    abbrev y_flagged : (walk_of 𝓛 flagged_mover flagged_stayed (moves_flagged 𝓤 scan)).Ghost
    y_flagged = ((κs, qs, tt, a_flagged, vals_flagged), tt)

    -- the scanner's types, its arguments and what its triple binds
    abbrev Scanned : List RattleType
    Scanned = types_at flagged_scanner.signature.params κs

    abbrev b_flagged : Args flagged_scanner.signature κs
    b_flagged = (d.source, (flags, (d.offset, tt)))

    abbrev us_flagged : Vals flagged_scanner.signature κs
    us_flagged = (shr_slice_vals d.source, (uint_vals w64 flags, (uint_vals w64 d.offset, tt)))

    abbrev to_flagged : (ScansFlagged 𝓛 scan).Ghost
    to_flagged = ((κs, qs, tt, b_flagged, us_flagged), tt)

    module _ (C : Calls 𝓤 H) (Λ : Loops 𝓤 H) (fm : FmC 𝓤 H 𝓛.laws C) (g : Callee) (known : Triple 𝓤 (C g) (ScansFlagged 𝓛 scan)) where
      flagged_walk : Inside d → Typed (mirs Ts_flagged) (flat Ts_flagged vals_flagged)
          → ent 𝓤 (on_entry 𝓛 flagged_mover.signature κs qs a_flagged vals_flagged) (WpFn 𝓤 H C Λ (flagged_fn g) (flat Ts_flagged vals_flagged) ((walk_of 𝓛 flagged_mover flagged_stayed (moves_flagged 𝓤 scan)).post y_flagged))
      flagged_walk asked t =
          qed 𝓛 (‵ (together (tokens 1 κs qs)) ∷ ‵ (together (parts Ts_flagged a_flagged vals_flagged)) ∷ []) ∵ enter ! C Λ (flagged_fn g) (flat Ts_flagged vals_flagged) _ $
          allocated ! (flagged_fn g).locals (λ l0 l1 l2 l3 l4 l5. params1 ! $ param ! 8 refl t.0 $ param ! 6 refl t.1.0 $ pass0 ! $
          -- [_5; …; to _0; …; the token; what the struct and the flags own]
          assigns ! (of_opd ! (load ! (from ! (fld ! refl (stop !))) (look_in ! 8 (sub ! 0 refl (whole !))))) (from ! (stop !)) (init ! 2 refl (tt, t.0.1.0)) $
          assigns ! (of_opd ! (load ! (from ! (fld ! refl (stop !))) (look_in ! 8 (sub ! 1 refl (whole !))))) (from ! (stop !)) (init ! 0 refl (tt, t.0.1.1.0)) $
          move ! (13 ∷ []) $ fsplit ! $ opened ! $
          -- [what the fields own; what the struct owns; what the flags own; _5; …]: the flags go between the fields
          fsplit ! $ move ! (3 ∷ []) $ fsplit ! $ move ! (0 ∷ 3 ∷ []) $ fjoin ! $ move ! (2 ∷ 0 ∷ []) $ fjoin ! $
          -- [what the arguments own; nothing; what the struct owns; _5; …]: the call
          move ! (15 ∷ 0 ∷ []) $ use2 𝓛 (raw ((ScansFlagged 𝓛 scan).pre to_flagged)) (qed 𝓛 (‵ (together (tokens 1 κs qs)) ∷ ‵ (together (parts Scanned b_flagged us_flagged)) ∷ []) ∵ says ! asked $ frame ! $ done !) $
          called ! fm flagged_scanner (scans_flagged 𝓤 scan) known to_flagged (arg ! 5 refl (arg ! 9 refl (arg ! 3 refl (no_more !)))) (λ w n ws.
          facts ! usize (Is usize) (shows 𝓛 usize) n (w ∷ []) (λ is. move ! (2 ∷ []) $ heard ! (Between d.offset (length d.source.now) (scan d.source.now flags d.offset) n) (λ said.
          -- [the token; last values; nothing; what the struct owns; _5; …]: the offset is stored, and the struct returned
          land ! (from ! (stop !)) (init ! 8 refl ((uint_Lawful 𝓛 w64).typed n _ is).0) $ rewrite ! 8 (λ (u : Val). ‵ (fat full_share (ty_int w64) l3 0 u)) (ap only is.0) refl $
          assigns ! (of_opd ! (load ! (from ! (stop !)) (look ! 8 refl))) (from ! (fld ! refl (stop !))) (store_in ! 12 (sub ! 1 refl (whole !)) (tt, record { fits = is.1 })) $
          assigns ! (of_opd ! (load ! (from ! (stop !)) (look ! 12 refl))) (from ! (stop !)) (init ! 14 refl (tt, (t.0.1.0, (record { fits = is.1 }, tt)))) $
          returns ! (look ! 14 refl) $ release ! 14 refl refl $ release ! 12 refl refl $ release ! 10 refl refl $ release ! 8 refl refl $ release ! 6 refl refl $ release ! 4 refl refl $ free0 ! $ keep ! (0 ∷ 3 ∷ []) $
          -- [the token; what the struct owns]
          suffices ! _ (ends_at 𝓛 flagged_mover flagged_stayed (moves_flagged 𝓤 scan) y_flagged (ReaderLaws.lowered (at n)) (at n) (tt, (tt, tt)) (tt, (tt, tt))) $ says ! (ap at said.is) $ frame ! $
          stored ! n (refl, is.1) $ have_nothings ! 2 $ done !))))

module _ {M : Type 1} {𝓤 : Ura M} (𝓛 : Logic 𝓤) where
  open 𝓛 use {H}

  pub moves_reader : (scan : List ℕ → ℕ → ℕ) (g : Callee) (𝓣 : Tables 𝓤 H) → Triple 𝓤 (𝓣.C g) (Scans 𝓛 scan)
      → Meets 𝓛 mover.signature (WpFn 𝓤 H 𝓣.C 𝓣.Λ (moves_fn g)) (closing 𝓛 mover (moves 𝓤 scan))
  moves_reader scan g 𝓣 known =
      meets_by 𝓛 mover params (moves 𝓤 scan) (moves_fn g) 𝓣 (λ κs qs bounds a _ t. needs 𝓤 (Inside a.0) _
      (λ asked. walk 𝓛 κs qs a.0 scan 𝓣.C 𝓣.Λ (fm_of 𝓤 H 𝓛.laws 𝓣) g known asked t))

  pub moves_reader_flagged : (scan : List ℕ → ℕ → ℕ → ℕ) (g : Callee) (𝓣 : Tables 𝓤 H) → Triple 𝓤 (𝓣.C g) (ScansFlagged 𝓛 scan)
      → Meets 𝓛 flagged_mover.signature (WpFn 𝓤 H 𝓣.C 𝓣.Λ (flagged_fn g)) (closing 𝓛 flagged_mover (moves_flagged 𝓤 scan))
  moves_reader_flagged scan g 𝓣 known =
      meets_by 𝓛 flagged_mover flagged_params (moves_flagged 𝓤 scan) (flagged_fn g) 𝓣 (λ κs qs bounds a _ t. needs 𝓤 (Inside a.0) _
      (λ asked. flagged_walk 𝓛 κs qs a.0 scan a.1.0 𝓣.C 𝓣.Λ (fm_of 𝓤 H 𝓛.laws 𝓣) g known asked t))
