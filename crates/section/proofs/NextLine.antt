-- The walk of a function that finds the next line with one reader, which goes to the line's start and on to its end: each call's reader is held in a
-- local. All that is known of the callees is that each meets its contract. What the reader owns goes from call to call; its offsets are read from the
-- locals, whose values say them.
-- MIR erases the lifetime of the struct's type in a local, so a reader is shown to have the type at `erased`: what it owns does not say the name.
use mathlib.Core.Path.{◌≡◌, refl, sym, ap, subst, ◌∙◌}
use mathlib.Core.List.{List, [], ◌∷◌}
use Prim.Native.Nat.{ℕ, ◌≤◌}
use lib.ListN.{length}
use seplogic.Ra.Ura.{Ura}
use base.Fraction.{full_share}
use mir.Syntax.{Callee, Fn, local, value_local, ty_int, ty_ref, imm, named, erased, w8, w64, place, field, copy, rv_opd, aggregate, assign, call, seq, return}
use mir.Val.{Val}
use base.Logic.{SProp, ent}
use base.Fml.{fat}
use prog.Memory.{Memory}
use prog.Routine.{Routine}
use prog.Wp.{Calls, Loops, Tables, WpFn}
use types.Logic.{Logic}
use contract.Lifetimes.{Lfts, Shares}
use contract.Monad.{Fun, fact}
use types.Kit.{‵, raw, ◌$◌, ◌∵◌, !, qed, move, keep, use2, use3, join, rewrite, fsplit, fjoin, suffices, frame, done}
use types.Run.{look, init, stop, fld, from, load, of_opd, and_then, no_more, assigns, land, returns, enter, params1, pass0, free0}
use types.Part.{agg, whole, sub, look_in}
use sound.WpLaws.{FmC, fm_of}
use denote.RattleType.{RattleType, mirs, flat}
use denote.Laws.{Typed, Is, shows}
use denote.Builtin.{u8, u64, usize}
use denote.Plain.{uint_vals}
use denote.Ref.{Bor, NamedLft}
use denote.Signature.{plain, shr_slice, types_at}
use denote.Slice.{slice_ty, shr_slice_vals}
use denote.Steps.{only, owned, facts, peeks, heard}
use denote.Struct.Laws as StructLaws
use denote.Triple.Clauses.{Clauses, Ended, closing}
use denote.Triple.Entry.{Args, Vals, on_entry}
use denote.Triple.Spec.{Meets, triple_of}
use denote.Triple.Statement.{Contract, Triple}
use denote.Triple.Walked.{says, needs, Stays, walk_of, ends_at}
use denote.Exit.{yes}
use Rattle.characters.specs.Walk.{Between}
use Rattle.characters.specs.Whitespace.{at_line_end}
use Rattle.text.specs.Scan.{line_end}
use Rattle.section.specs.Reader.{reader_at, reader_moved, reader_moved_by, NextLine}
use Rattle.section.specs.declared.reader.Reader.{Reader}
use Rattle.section.specs.declared.reader.Line.{Line}
use Rattle.section.proofs.Lines.{first_between}
use Rattle.borrow_proofs.proofs.Walking.{parts, tokens, together, have_nothings, allocated, param, arg, release, called}
use Rattle.borrow_proofs.proofs.Parameters.{Params, number, slice, stays, machine, meets_by}
use Rattle.section.proofs.Reading.{held, flagged_mover, moves_flagged, Inside}
use Rattle.section.specs.contracts.reader.Reader as ReaderType
use Rattle.section.proofs.reader.Reader.TheLaws as ReaderLaws
use Rattle.section.specs.contracts.reader.Line as LineType
use Rattle.section.proofs.reader.Line.TheLaws as LineLaws
use Rattle.section.specs.contracts.reader.Reader.at as reader_at
use Rattle.section.proofs.reader.Reader.at.Symbol.{name as #reader-at}
use Rattle.section.specs.contracts.reader.Reader.move_to_line_end as to_end
use Rattle.section.proofs.reader.Reader.move_to_line_end.Symbol.{name as #to-end}

abbrev pub finder : Ended
finder = record {
  signature = record { lifetimes = 1; outlives = []; params = shr_slice 0 tt (λ _. u8) ∷ plain (λ _. u64) ∷ plain (λ _. usize) ∷ []; result = plain (λ _. LineType.the_row) };
  kept = (yes, (yes, (yes, tt)));
}

abbrev params : Params finder.signature.params finder.kept
params = (slice 0 tt, (number, (number, tt)))

abbrev stayed : Stays finder.signature.params finder.kept
stayed = stays finder.signature.params finder.kept params

-- the MIR: `let r = g(Reader::at(src, i), flags); let q = r.move_to_line_end(); Line { start: r.offset, end: q.offset }`
abbrev finds_fn : Callee → Fn
finds_fn g = record {
  lifetimes = 1;
  outlives = [];
  ty_params = [];
  givens = 0;
  params = 3;
  locals = local LineLaws.mir value_local ∷ local (slice_ty (ty_ref (named 0) imm (ty_int w8))) value_local ∷ local (ty_int w64) value_local ∷ local (ty_int w64) value_local
      ∷ local (ReaderLaws.mir erased) value_local ∷ local (ReaderLaws.mir erased) value_local ∷ local (ReaderLaws.mir erased) value_local ∷ local (ReaderLaws.mir erased) value_local
      ∷ local (ty_int w64) value_local ∷ local (ty_int w64) value_local ∷ [];
  body = seq (call #reader-at (copy (place 1 []) ∷ copy (place 3 []) ∷ []) (place 6 [])) (seq (call g (copy (place 6 []) ∷ copy (place 2 []) ∷ []) (place 4 []))
      (seq (assign (place 7 []) (rv_opd (copy (place 4 [])))) (seq (call #to-end (copy (place 7 []) ∷ []) (place 5 []))
      (seq (assign (place 8 []) (rv_opd (copy (place 4 (field 1 ∷ []))))) (seq (assign (place 9 []) (rv_opd (copy (place 5 (field 1 ∷ [])))))
      (seq (assign (place 0 []) (aggregate (copy (place 8 []) ∷ copy (place 9 []) ∷ []))) return))))));
}

-- the scanner finds a place from i on, within the text
abbrev pub Bounded : (List ℕ → ℕ → ℕ → ℕ) → Type 0
Bounded scan = (s : List ℕ) (flags i : ℕ) → i ≤ length s → Between i (length s) (scan s flags i) (scan s flags i)

module _ {M : Type 1} {𝓤 : Ura M} (𝓛 : Logic 𝓤) (mem : Memory → SProp 𝓤) (run : Routine → Fun 𝓤) (scan : List ℕ → ℕ → ℕ → ℕ) (bounded : Bounded scan) where
  open 𝓛 use {H}

  abbrev finds : Clauses 𝓤 finder
  finds κs a = record {
    ghost = Unit {0};
    requires = λ _. fact 𝓤 (a.1.1.0 ≤ length a.0.now);
    ensures = λ _ x _. fact 𝓤 (NextLine a.0.now (scan a.0.now a.1.0) a.1.1.0 x);
  }

  -- the contracts that the walk cites
  abbrev Makes : Contract 𝓤
  Makes = triple_of 𝓛 reader_at.signature (reader_at.spec 𝓛 mem run)

  abbrev Moves : Contract 𝓤
  Moves = triple_of 𝓛 flagged_mover.signature (closing 𝓛 flagged_mover (moves_flagged 𝓤 scan))

  abbrev Ends : Contract 𝓤
  Ends = triple_of 𝓛 to_end.signature (to_end.spec 𝓛 mem run)

  module _ (κs : Lfts 1) (qs : Shares 1) (src : Bor (List ℕ)) (flags i : ℕ) where
    abbrev Ts : List RattleType
    Ts = types_at finder.signature.params κs

    abbrev a : Args finder.signature κs
    a = (src, (flags, (i, tt)))

    abbrev vals : Vals finder.signature κs
    vals = machine finder.signature.params finder.kept params κs a

    abbrev y : (walk_of 𝓛 finder stayed finds).Ghost
    y = ((κs, qs, tt, a, vals), tt)

    -- the lifetime as a local of the body has it
    abbrev α : NamedLft
    α = record { mir = erased; lft = κs.0 }

    abbrev L : StructLaws.Laws (ReaderType.the_type α)
    L = ReaderLaws.the_laws α

    -- what the callees' triples bind
    abbrev Made : List RattleType
    Made = types_at (reader_at.signature).params κs

    abbrev b : Args reader_at.signature κs
    b = (src, (i, tt))

    abbrev us : Vals reader_at.signature κs
    us = (shr_slice_vals src, (uint_vals w64 i, tt))

    abbrev to_start : Reader → Val → Moves.Ghost
    to_start r w = ((κs, qs, tt, (r, (flags, tt)), (w ∷ [], (uint_vals w64 flags, tt))), tt)

    abbrev to : Reader → Val → Ends.Ghost
    to r w = ((κs, qs, tt, (r, tt), (w ∷ [], tt)), tt)

    -- the line between the offsets of two readers
    abbrev between : Reader → Reader → Line
    between r q = record { start = r.offset; end = q.offset }

    line_found : (r q : Reader) → i ≤ length src.now → r ≡ reader_moved_by scan flags (reader_at src i) → q ≡ reader_moved line_end r → NextLine src.now (scan src.now flags) i (between r q)
    line_found r q h e f =
        subst (λ (x : Line). NextLine src.now (scan src.now flags) i x) (sym (λ k. between (e k) ((f ∙ ap (reader_moved line_end) e) k)))
        (record { starts = bounded src.now flags i h; ends = first_between (at_line_end src.now) (scan src.now flags i) (length src.now) (bounded src.now flags i h).to })

    module _ (C : Calls 𝓤 H) (Λ : Loops 𝓤 H) (fm : FmC 𝓤 H 𝓛.laws C) (g : Callee)
        (makes : Triple 𝓤 (C #reader-at) Makes) (moves : Triple 𝓤 (C g) Moves) (ends : Triple 𝓤 (C #to-end) Ends) where
      walk : i ≤ length src.now → Typed (mirs Ts) (flat Ts vals) → ent 𝓤 (on_entry 𝓛 finder.signature κs qs a vals) (WpFn 𝓤 H C Λ (finds_fn g) (flat Ts vals) ((walk_of 𝓛 finder stayed finds).post y))
      walk asked t =
          qed 𝓛 (‵ (together (tokens 1 κs qs)) ∷ ‵ (together (parts Ts a vals)) ∷ []) ∵ enter ! C Λ (finds_fn g) (flat Ts vals) _ $
          allocated ! (finds_fn g).locals (λ l0 l1 l2 l3 l4 l5 l6 l7 l8 l9. params1 ! $ param ! 16 refl t.0 $ param ! 14 refl t.1.0 $ param ! 12 refl t.1.1.0 $ pass0 ! $
          -- [_9; …; to _0; …; the token; what the parameters own]: what the flags own is taken out
          move ! (21 ∷ []) $ fsplit ! $ move ! (1 ∷ []) $ fsplit ! $ move ! (2 ∷ 1 ∷ []) $ fjoin ! $
          -- [what the source and the offset own; what the flags own; _9; …]: `reader_at`
          move ! (22 ∷ 0 ∷ []) $ use2 𝓛 (raw (Makes.pre ((κs, qs, tt, b, us), tt))) (qed 𝓛 (‵ (together (tokens 1 κs qs)) ∷ ‵ (together (parts Made b us)) ∷ []) ∵ join ! $ frame ! $ done !) $
          called ! fm reader_at.ended (reader_at.clauses 𝓛 mem run) makes ((κs, qs, tt, b, us), tt) (arg ! 18 refl (arg ! 14 refl (no_more !))) (λ w₀ r₀ _.
          move ! (3 ∷ []) $ heard ! (r₀ ≡ reader_at src i) (λ e₀. peeks ! (held κs) (Is (held κs)) (shows 𝓛 (held κs)) r₀ (w₀ ∷ []) (λ is₀.
          -- [what the reader owns; the token; …; what the flags own; _9; …]: to the line's start
          land ! (from ! (stop !)) (init ! 10 refl ((StructLaws.lawful (ReaderType.the_type α) L 𝓛).typed r₀ _ is₀).0) $
          move ! (1 ∷ 0 ∷ 3 ∷ []) $ use3 𝓛 (raw (Moves.pre (to_start r₀ w₀))) (qed 𝓛 (‵ (together (tokens 1 κs qs)) ∷ ‵ ((held κs).own_val r₀ (w₀ ∷ [])) ∷ ‵ (u64.own_val flags (uint_vals w64 flags)) ∷ []) ∵
          says ! (subst Inside (sym e₀) asked) $ frame ! $ have_nothings ! 0 $ move ! (2 ∷ 0 ∷ []) $ fjoin ! $ move ! (1 ∷ 0 ∷ []) $ fjoin ! $ done !) $
          called ! fm flagged_mover (moves_flagged 𝓤 scan) moves (to_start r₀ w₀) (arg ! 8 refl (arg ! 16 refl (no_more !))) (λ w₁ r₁ _.
          move ! (3 ∷ []) $ heard ! (r₁ ≡ reader_moved_by scan flags r₀) (λ e₁. let f₁ = e₁ ∙ ap (reader_moved_by scan flags) e₀ in peeks ! (held κs) (Is (held κs)) (shows 𝓛 (held κs)) r₁ (w₁ ∷ []) (λ is₁.
          -- [what the reader owns; the token; …; …; _9; …]: on to its end
          land ! (from ! (stop !)) (init ! 14 refl ((StructLaws.lawful (ReaderType.the_type α) L 𝓛).typed r₁ _ is₁).0) $
          assigns ! (of_opd ! (load ! (from ! (stop !)) (look ! 14 refl))) (from ! (stop !)) (init ! 8 refl ((StructLaws.lawful (ReaderType.the_type α) L 𝓛).typed r₁ _ is₁).0) $
          move ! (1 ∷ 0 ∷ []) $ use2 𝓛 (raw (Ends.pre (to r₁ w₁))) (qed 𝓛 (‵ (together (tokens 1 κs qs)) ∷ ‵ ((held κs).own_val r₁ (w₁ ∷ [])) ∷ []) ∵
          says ! (subst Inside (sym f₁) (bounded src.now flags i asked).to) $ frame ! $ have_nothings ! 0 $ move ! (1 ∷ 0 ∷ []) $ fjoin ! $ done !) $
          called ! fm to_end.ended (to_end.clauses 𝓛 mem run) ends (to r₁ w₁) (arg ! 7 refl (no_more !)) (λ w₂ r₂ _.
          facts ! (held κs) (Is (held κs)) (shows 𝓛 (held κs)) r₂ (w₂ ∷ []) (λ is₂. move ! (2 ∷ []) $ heard ! (r₂ ≡ reader_moved line_end r₁) (λ e₂.
          let was₁ = StructLaws.owed (ReaderType.the_type α) L r₁ _ is₁ in let was₂ = StructLaws.owed (ReaderType.the_type α) L r₂ _ is₂ in
          -- [the token; …; …; …; _9; …]: the two offsets are read, and the line is put together
          land ! (from ! (stop !)) (init ! 12 refl ((StructLaws.lawful (ReaderType.the_type α) L 𝓛).typed r₂ _ is₂).0) $
          rewrite ! 14 (λ (u : Val). ‵ (fat full_share (ReaderLaws.mir erased) l4 0 u)) (ap only (StructLaws.tells (ReaderType.the_type α) L r₁ _ is₁)) refl $
          rewrite ! 12 (λ (u : Val). ‵ (fat full_share (ReaderLaws.mir erased) l5 0 u)) (ap only (StructLaws.tells (ReaderType.the_type α) L r₂ _ is₂)) refl $
          assigns ! (of_opd ! (load ! (from ! (fld ! refl (stop !))) (look_in ! 14 (sub ! 1 refl (whole !))))) (from ! (stop !)) (init ! 6 refl (tt, record { fits = was₁.1.0.1 })) $
          assigns ! (of_opd ! (load ! (from ! (fld ! refl (stop !))) (look_in ! 12 (sub ! 1 refl (whole !))))) (from ! (stop !)) (init ! 4 refl (tt, record { fits = was₂.1.0.1 })) $
          assigns ! (agg ! (and_then ! (load ! (from ! (stop !)) (look ! 6 refl)) (and_then ! (load ! (from ! (stop !)) (look ! 4 refl)) (no_more !)))) (from ! (stop !))
          (init ! 22 refl (tt, (record { fits = was₁.1.0.1 }, (record { fits = was₂.1.0.1 }, tt)))) $
          returns ! (look ! 22 refl) $ release ! 22 refl refl $ release ! 20 refl refl $ release ! 18 refl refl $ release ! 16 refl refl $ release ! 14 refl refl $ release ! 12 refl refl $ release ! 10 refl refl $
          release ! 8 refl refl $ release ! 6 refl refl $ release ! 4 refl refl $ free0 ! $ keep ! (0 ∷ []) $
          suffices ! _ (ends_at 𝓛 finder stayed finds y (LineLaws.lowered (between r₁ r₂)) (between r₁ r₂) (tt, (tt, (tt, tt))) (tt, (tt, (tt, tt)))) $ says ! (line_found r₁ r₂ asked f₁ e₂) $ frame ! $
          owned ! LineType.the_row (Is LineType.the_row) (StructLaws.makes LineType.the_type LineLaws.the_plain 𝓛) (between r₁ r₂) _
          (StructLaws.owes LineType.the_type LineLaws.the_laws (between r₁ r₂) (was₁.1.0, (was₂.1.0, tt))) $ have_nothings ! 3 $ done !))))))))))

  pub finds_line : (g : Callee) (𝓣 : Tables 𝓤 H) → Triple 𝓤 (𝓣.C #reader-at) Makes → Triple 𝓤 (𝓣.C g) Moves → Triple 𝓤 (𝓣.C #to-end) Ends
      → Meets 𝓛 finder.signature (WpFn 𝓤 H 𝓣.C 𝓣.Λ (finds_fn g)) (closing 𝓛 finder finds)
  finds_line g 𝓣 makes moves ends =
      meets_by 𝓛 finder params finds (finds_fn g) 𝓣 (λ κs qs bounds a _ t. needs 𝓤 (a.1.1.0 ≤ length a.0.now) _
      (λ asked. walk κs qs a.0 a.1.0 a.1.1.0 𝓣.C 𝓣.Λ (fm_of 𝓤 H 𝓛.laws 𝓣) g makes moves ends asked t))
