-- A file from its start: what it comes to, from what state 0, the declarations, the rules and the last fault come to. Each way through the
-- code has a law.
use mathlib.Core.Path.{◌≡◌, refl, sym, ap, subst, ◌∙◌}
use mathlib.Core.Bool.{Bool, true, false, cond, not}
use mathlib.Core.List.{List, [], ◌∷◌}
use mathlib.Core.Option.{none, some}
use mathlib.Core.Option as Math
use Prim.Native.Nat.{ℕ, ◌+◌, ◌*◌, ◌≤◌}
use native.Mathlib.Omega.{arith}
use borrow.Author.Rules.{rules}
use borrow.Author.Tests.{eq-eqb, ne_eqb, eqb-true}
use lib.Dec.{eqb}
use lib.ListN.{length}
use Rattle.std.specs.Prelude.{Option, Some, None, Result, Ok, Err, is_some}
use Rattle.text.specs.Scan.{skip_blanks}
use Rattle.characters.specs.Class.{is_blank}
use Rattle.characters.specs.Whitespace.{byte}
use Rattle.text.specs.Range.{lookahead_is}
use Rattle.characters.proofs.Walks.{first_to}
use Rattle.area.specs.declared.State.{State}
use Rattle.area.specs.declared.Fault.{Fault as FaultSpan}
use Rattle.area.specs.declared.AreaFull.{AreaFull}
use Rattle.area.specs.declared.AreaName.{AreaName}
use Rattle.area.specs.declared.AreaName.TheVariants as N
use Rattle.area.specs.Bytes.{zeros}
use Rattle.area.specs.Areas.{Pushed}
use Rattle.area.specs.Records.{state_width, most_states, state_bytes}
use Rattle.area.specs.Contents.{list_of, contents, state_format, rule_format, entry_format, text_format, expected_format, fault_format, append, left_by, Grows, Held}
use Rattle.area.proofs.Contents.{state_sound, rule_sound, entry_sound, text_sound, expected_sound, fault_sound, held_empty, held_push, contents-length}
use Rattle.area.proofs.Elements.{each_none}
use Rattle.fault.specs.declared.Stop.{Stop}
use Rattle.fault.specs.declared.Stop.TheVariants.{Fault, Full}
use Rattle.fault.specs.declared.kinds.LexError.{LexError}
use Rattle.fault.specs.Kinds.{kind_number}
use Rattle.fault.specs.Step.{Out, go, bad, full, next, onto, written, loop, outcome, Does}
use Rattle.fault.specs.Faults.{PrematureEnd, add_fault, HeldFaults, GrowsFaults}
use Rattle.fault.proofs.Steps.{IsFault, does_full, bad_goes, full_goes, onto_err, was_ok, holds_ok, holds_err}
use Rattle.names.specs.Names.{DistinctNames}
use Rattle.names.specs.Marks.{EndsInside, NamesInside}
use Rattle.names.proofs.Distinct.{distinct_none}
use Rattle.section.specs.declared.options.Options.{Options}
use Rattle.section.specs.Request.{Request}
use Rattle.section.specs.Section.{percents, in_section, to_declaration}
use Rattle.section.proofs.Lines.{ahead_within}
use Rattle.declarations.specs.declared.DeclarationCounts.{DeclarationCounts}
use Rattle.declarations.specs.Declarations.{Declared, declarations, next_declaration, end_declarations, state}
use Rattle.declarations.specs.Declarations as D
use Rattle.declarations.specs.Answers.{HeldDeclared, declared_in, caps_of}
use Rattle.rules_section.specs.RulesSection.{Ruled, rules_section}
use Rattle.rules_section.specs.declared.RuleCounts.{RuleCounts}
use Rattle.rules_section.specs.Answers.{ruled_in, HeldRuled, rule_caps_of}
use Rattle.parse.specs.declared.FileCounts.{FileCounts}
use Rattle.parse.specs.declared.ParseError.{ParseError}
use Rattle.parse.specs.declared.ParseError.TheVariants.{LongFile, UnknownFlag, InvalidUtf8, AreaFull as NoRoom, FaultyFile}
use Rattle.parse.specs.Parse.{Caps, Outcome, accepted, faulty, area_full, caps, closed, ending, judge, contents_of, rules_from}
use Rattle.parse.specs.Parse.{with_states, opening, file}
use Rattle.parse.specs.Answers.{stopped, Refuses, nothing_ruled, judged_by, contents_in, HeldFile, Parses, Zeroed}

-- ---- state 0 and the declarations

module _ (s : List ℕ) (options : Options) (l1 l5 l6 : List ℕ) (q : DeclarationCounts) (h : HeldDeclared l1 l5 l6 q) (p : Result ℕ AreaFull) {e1 : List ℕ}
    (pushed : Pushed N.States state_width most_states 1 (state_bytes (state 0 0 0)) l1 q.names.states p e1) where
  grown : Grows state_format (append state_format (length l1) (state 0 0 0 ∷ [])) l1 q.names.states p e1
  grown = held_push state_sound h.names.states (state 0 0 0) pushed

  abbrev Opened : List ℕ → List ℕ → List ℕ → Out DeclarationCounts → Type 0
  Opened v1 v5 v6 o =
      Does (HeldDeclared v1 v5 v6) (opening s options (caps_of (length l1) (length l5) (length l6))) (declared_in l1 l5 l6 q) (declared_in v1 v5 v6) o

  abbrev on : Math.Option (List State) → Out Declared
  on a = next (onto (with_states (declared_in l1 l5 l6 q)) (written N.States 0 a)) (declarations s options (caps_of (length l1) (length l5) (length l6)))

  is_opening : (a : Result ℕ AreaFull) → p ≡ a
      → opening s options (caps_of (length l1) (length l5) (length l6)) (declared_in l1 l5 l6 q) ≡ on (left_by state_format e1 a)
  unfolding opening
  is_opening a z = ap on (grown.says ∙ ap (left_by state_format e1) z)

  pub opening_full : {no_room : AreaFull} (m : DeclarationCounts) → p ≡ Err no_room → Opened e1 l5 l6 (outcome (Err (Full no_room.0)) m)
  opening_full {no_room} m z = rw (grown.names no_room z) (does_full (is_opening (Err no_room) z))

  module _ {n : ℕ} (z : p ≡ Ok n) where
    abbrev started : DeclarationCounts
    started = record { names = record { states = n; faults = q.names.faults }; expected = q.expected }

    pub opening_held : HeldDeclared e1 l5 l6 started
    opening_held = record { names = record { states = grown.held n z; faults = h.names.faults }; expected = h.expected }

    pub opening_on : {v1 v5 v6 : List ℕ} {o : Out DeclarationCounts}
        → Does (HeldDeclared v1 v5 v6) (declarations s options (caps_of (length e1) (length l5) (length l6)) 0) (declared_in e1 l5 l6 started)
        (declared_in v1 v5 v6) o → Opened v1 v5 v6 o
    opening_on d = record {
      says =
          is_opening (Ok n) z
          ∙ ap (λ (m : ℕ). declarations s options (caps_of m (length l5) (length l6)) 0 (declared_in e1 l5 l6 started)) (sym grown.long) ∙ d.says;
      goes = d.goes;
      ends = d.ends;
    }

pub ruleset opening_up = (rules, opening_held)

-- nothing is declared yet
abbrev pub nothing_declared : DeclarationCounts
nothing_declared = record { names = record { states = 0; faults = 0 }; expected = 0 }

-- that the counts are all zero, as those of `default`
abbrev pub AllZero : DeclarationCounts → Type 0
AllZero q = ((q.names.states ≡ 0) × (q.names.faults ≡ 0)) × (q.expected ≡ 0)

nothing_is : {q : DeclarationCounts} → AllZero q → q ≡ nothing_declared
nothing_is z = λ i. record { names = record { states = z.0.0 i; faults = z.0.1 i }; expected = z.1 i }

zero_faults : (l : List ℕ) → l ≡ zeros (length l) → HeldFaults l 0
unfolding contents list_of
zero_faults l z = record { held = held_empty fault_sound l z; numbered = record { low = λ j h. absurd (omega (arith, h)) } }

pub nothing_held : {l1 l2 l3 l4 l5 l6 : List ℕ} → Zeroed l1 l2 l3 l4 l5 l6 → {q : DeclarationCounts} → AllZero q → HeldDeclared l1 l5 l6 q
nothing_held {l1} {l5 = l5} {l6 = l6} z nothing =
    rw (nothing_is nothing)
    (record {
      names = record { states = held_empty state_sound l1 z.is1; faults = zero_faults l6 z.is6 };
      expected = held_empty expected_sound l5 z.is5;
    })

-- no rules yet, so no two with the same name, and no name that ends outside
module _ (s l : List ℕ) where
  pub none_distinct : DistinctNames s (contents rule_format l 0)
  unfolding contents list_of
  none_distinct = distinct_none s

  pub none_inside : NamesInside s (contents rule_format l 0)
  unfolding contents list_of
  none_inside = each_none (λ _ x. EndsInside s x) rule_format.blank

-- ---- where the rules start

module _ (s : List ℕ) (j : ℕ) (x : Declared) where
  end_inside : (i : ℕ) (d : Declared) → end_declarations s i d ≡ go j x → j ≤ length s
  unfolding end_declarations
  end_inside i d e = by (lookahead_is s percents i) refl e
    where
      by : (f : Option ℕ) → lookahead_is s percents i ≡ f → cond (is_some f) (go (skip_blanks s (i + 2)) d) (bad PrematureEnd i d) ≡ go j x → j ≤ length s
      by (Some m) q z =
          let h : i + 2 ≤ length s = omega (arith, ahead_within s percents i m q) in
          let same : skip_blanks s (i + 2) ≡ j = cc in
          omega (arith, same, first_to (λ k. not (is_blank (byte s k))) (i + 2) (length s) h)
      by None q z = absurd (bad_goes z)

  next_inside : (o : Out Declared) → next o (end_declarations s) ≡ go j x → j ≤ length s
  next_inside (go i d) e = end_inside i d e
  next_inside (bad kind at d) e = absurd (bad_goes e)
  next_inside (full name) e = absurd (full_goes e)

  declarations_inside : (options : Options) (k : D.Caps) (i : ℕ) (d : Declared) → declarations s options k i d ≡ go j x → j ≤ length s
  unfolding declarations
  declarations_inside options k i d e = next_inside (loop (length s) (in_section s) (next_declaration s options k) (to_declaration s options i) d) e

  opening_inside : (options : Options) (k : D.Caps) (d : Declared) → opening s options k d ≡ go j x → j ≤ length s
  unfolding opening
  opening_inside options k d e = by (append state_format k.c1 (state 0 0 0 ∷ []) d.states) e
    where
      by : (a : Math.Option (List State)) → next (onto (with_states d) (written N.States 0 a)) (declarations s options k) ≡ go j x → j ≤ length s
      by none z = absurd (full_goes z)
      by (some xs) z = declarations_inside options k 0 (with_states d xs) z

-- ---- answers

abbrev counted : DeclarationCounts → RuleCounts → FileCounts
counted d q = record { states = d.names.states; rules = q.sheet.rules; entries = q.sheet.entries; text = q.sheet.text; expected = d.expected }

pub judged_clean : (d : DeclarationCounts) (q : RuleCounts) → q.faults ≡ 0 → Ok (counted d q) ≡ judged_by d q
judged_clean d q z = rw (eq-eqb q.faults 0 z)

pub judged_faulty : (d : DeclarationCounts) (q : RuleCounts) → (q.faults ≡ 0 → ⊥) → Err (FaultyFile q.faults) ≡ judged_by d q
judged_faulty d q z = rw (ne_eqb q.faults 0 z)

pub ruleset judging = (rules, judged_clean, judged_faulty)

-- ---- what ends a parse

tag : ParseError → ℕ
tag LongFile = 0
tag UnknownFlag = 1
tag InvalidUtf8 = 2
tag (NoRoom name) = 3
tag (FaultyFile n) = 4

refuses_full : {o : Outcome} {l6 : List ℕ} {name : AreaName} → o ≡ area_full name → Refuses o l6 (NoRoom name)
unfolding tag
refuses_full e = record { says = e; faults = λ m z. absurd (omega (arith, ap tag z)) }

refuses_faulty : {o : Outcome} {l6 : List ℕ} {n : ℕ} → o ≡ faulty (contents fault_format l6 n) → Held fault_format l6 n → Refuses o l6 (FaultyFile n)
refuses_faulty {l6 = l6} {n} e h = record { says = e; faults = λ m z. subst (Held fault_format l6) (spans z) h }
  where
    spans : {m : ℕ} → FaultyFile n ≡ FaultyFile m → n ≡ m
    spans z = cc

module _ (cap : ℕ) (fs : List FaultSpan) (l6 : List ℕ) (stop : Stop) where
  pub close_full : (name : AreaName) → stop ≡ Full name → Refuses (stopped cap fs stop) l6 (NoRoom name)
  close_full name z = refuses_full (ap (stopped cap fs) z)

module _ (w6 : List ℕ) (faults : ℕ) (stop : Stop) (error : LexError) (z : stop ≡ Fault error) (p : Result ℕ AreaFull) {v6 : List ℕ}
    (g : GrowsFaults (add_fault (length w6) (kind_number error.kind) error.at error.at) w6 faults p v6) where
  abbrev ends : Outcome
  ends = stopped (length w6) (contents fault_format w6 faults) stop

  is : (a : Result ℕ AreaFull) → p ≡ a → ends ≡ closed (left_by fault_format v6 a)
  is a y = ap (stopped (length w6) (contents fault_format w6 faults)) z ∙ ap closed (g.says ∙ ap (left_by fault_format v6) y)

  pub close_fault : (n : ℕ) → p ≡ Ok n → Refuses ends v6 (FaultyFile n)
  unfolding closed
  close_fault n y = refuses_faulty (is (Ok n) y) (g.held n y).held

  pub close_no_room : (no_room : AreaFull) → p ≡ Err no_room → Refuses ends v6 (NoRoom no_room.0)
  unfolding closed
  close_no_room no_room y = refuses_full (is (Err no_room) y ∙ ap (λ (x : AreaFull). area_full x.0) (sym (g.names no_room y)))

pub ruleset closing = (rules, close_full, close_fault, close_no_room)

module _ {o : Outcome} {l1 l2 l3 l4 l5 l6 : List ℕ} where
  parses_refused : {x : ParseError} → Refuses o l6 x → Parses o l1 l2 l3 l4 l5 l6 (Err x)
  parses_refused {x} h = record { says = h.says; clean = λ q z. absurd (never z); faults = λ n z. h.faults n (same z) }
    where
      same : {y : ParseError} → ◌≡◌ {A = Result FileCounts ParseError} (Err x) (Err y) → x ≡ y
      same z = cc

      never : {q : FileCounts} → ◌≡◌ {A = Result FileCounts ParseError} (Err x) (Ok q) → ⊥
      never z =
          let q : ◌≡◌ {A = ℕ} 0 1 = cc in
          omega arith

  parses_clean : {q : FileCounts} → o ≡ accepted (contents_in l1 l2 l3 l4 l5 q) → HeldFile l1 l2 l3 l4 l5 l6 q → Parses o l1 l2 l3 l4 l5 l6 (Ok q)
  parses_clean {q} e h = record { says = e; clean = λ m z. subst (HeldFile l1 l2 l3 l4 l5 l6) (counts z) h; faults = λ n z. absurd (never z) }
    where
      counts : {m : FileCounts} → ◌≡◌ {A = Result FileCounts ParseError} (Ok q) (Ok m) → q ≡ m
      counts z = cc

      never : {x : ParseError} → ◌≡◌ {A = Result FileCounts ParseError} (Ok q) (Err x) → ⊥
      never z =
          let q : ◌≡◌ {A = ℕ} 0 1 = cc in
          omega arith

-- ---- the file

-- a section that stops ends the file
ending_err : {S : Type 0} (faults : S → List FaultSpan) (cap : ℕ) (s : S) (g : ℕ → S → Outcome) (y : Stop)
    → ending faults cap (outcome (Err y) s) g ≡ stopped cap (faults s) y
ending_err faults cap s g (Fault error) = refl
ending_err faults cap s g (Full name) = refl

is_fault : (y : Stop) (error : LexError) → y ≡ Fault error → IsFault y
is_fault y error e = subst IsFault (sym e) tt

module _ (asked : Request) (l1 l2 l3 l4 l5 l6 : List ℕ) (zero : Zeroed l1 l2 l3 l4 l5 l6) {start : DeclarationCounts} (nothing : AllZero start)
    (u1 u5 u6 : List ℕ) (r : Result ℕ Stop) (c : DeclarationCounts)
    (left : Does (HeldDeclared u1 u5 u6) (opening asked.source asked.options (caps_of (length l1) (length l5) (length l6))) (declared_in l1 l5 l6 start)
    (declared_in u1 u5 u6) (outcome r c)) {v1 v5 w6 : List ℕ} (is1 : v1 ≡ u1) (is5 : v5 ≡ u5) (is6 : w6 ≡ u6) where
  -- the declarations leave u1, u5 and u6; what is lent to them ends as just those bytes
  d : Does (HeldDeclared v1 v5 w6) (opening asked.source asked.options (caps_of (length l1) (length l5) (length l6))) (declared_in l1 l5 l6 start)
      (declared_in v1 v5 w6) (outcome r c)
  d = rw (is1, is5, is6) left

  ends_long : length u6 ≡ length l6 → length w6 ≡ length l6
  ends_long long = ap length is6 ∙ long

  abbrev sizes : Caps
  sizes = caps (length l1) (length l2) (length l3) (length l4) (length l5) (length l6)

  abbrev whole : Outcome
  whole = file asked sizes

  abbrev next_section : Out Declared → Outcome
  next_section x = ending (λ d. d.faults) (length l6) x (rules_from asked sizes)

  opened : whole ≡ next_section (onto (declared_in v1 v5 w6) (outcome r c))
  unfolding file contents list_of
  opened =
      ap (λ (q : DeclarationCounts). next_section (opening asked.source asked.options (caps_of (length l1) (length l5) (length l6)) (declared_in l1 l5 l6 q)))
      (sym (nothing_is nothing)) ∙ ap next_section d.says

  module _ (y : Stop) (z : r ≡ Err y) where
    pub opening_faults : (error : LexError) → y ≡ Fault error → HeldFaults w6 c.names.faults
    opening_faults error e = (holds_err r c d y z (is_fault y error e)).names.faults

    pub file_stops : length u6 ≡ length l6 → {v6 : List ℕ} {x : ParseError}
        → Refuses (stopped (length w6) (contents fault_format w6 c.names.faults) y) v6 x → Parses whole v1 l2 l3 l4 v5 v6 (Err x)
    file_stops long {v6} {x} h =
        parses_refused (subst (λ (o : Outcome). Refuses o v6 x)
        (ap (λ (k : ℕ). stopped k (contents fault_format w6 c.names.faults) y) (ends_long long)
        ∙ sym (opened ∙ ap (λ (k : Result ℕ Stop). next_section (onto (declared_in v1 v5 w6) (outcome k c))) z
        ∙ ap next_section (onto_err (declared_in v1 v5 w6) y c) ∙ ending_err (λ d. d.faults) (length l6) (declared_in v1 v5 w6 c) (rules_from asked sizes) y)) h)

  module _ {i : ℕ} (went : r ≡ Ok i) where
    kept : HeldDeclared v1 v5 w6 c
    kept = holds_ok r c d went

    pub rules_inside : i ≤ length asked.source
    unfolding contents list_of
    rules_inside =
        opening_inside asked.source i (declared_in v1 v5 w6 c) asked.options (caps_of (length l1) (length l5) (length l6)) (declared_in l1 l5 l6 start)
        (was_ok r c d went)

    pub states_fit : c.names.states * state_width ≤ length v1
    states_fit = kept.names.states.area.fits

    pub rules_held : HeldRuled l2 l3 l4 w6 (nothing_ruled c.names.faults)
    rules_held =
        record {
          sheet = record { rules = held_empty rule_sound l2 zero.is2; entries = held_empty entry_sound l3 zero.is3; text = held_empty text_sound l4 zero.is4 };
          faults = kept.names.faults;
        }

    -- the rules section has the states of area 1, as they were lent, and begins with no rules; areas 2, 3, 4 and 6 end as the bytes k2, k3, k4 and k6 that it leaves
    module _ (k2 k3 k4 k6 : List ℕ) (q : Result ℕ Stop) (m : RuleCounts) (xs : List State) (lent : xs ≡ contents state_format v1 c.names.states)
        (before : RuleCounts) (none_yet : before ≡ nothing_ruled c.names.faults)
        (rules_left : Does (HeldRuled k2 k3 k4 k6) (rules_section asked xs (rule_caps_of (length l2) (length l3) (length l4)) (length w6) i)
        (ruled_in l2 l3 l4 w6 before) (ruled_in k2 k3 k4 k6) (outcome q m))
        (long_left : length u6 ≡ length l6) {v2 v3 v4 x6 : List ℕ} (is2 : v2 ≡ k2) (is3 : v3 ≡ k3) (is4 : v4 ≡ k4) (rules_is6 : x6 ≡ k6) where
      g : Does (HeldRuled v2 v3 v4 x6) (rules_section asked xs (rule_caps_of (length l2) (length l3) (length l4)) (length w6) i)
          (ruled_in l2 l3 l4 w6 before) (ruled_in v2 v3 v4 x6) (outcome q m)
      g = rw (is2, is3, is4, rules_is6) rules_left

      long : length w6 ≡ length l6
      long = ends_long long_left

      abbrev last : ℕ → Ruled → Outcome
      last j x = judge (contents_of (declared_in v1 v5 w6 c) x)

      abbrev end_with : Out Ruled → Outcome
      end_with x = ending (λ x. x.faults) (length l6) x last

      ruled : whole ≡ end_with (onto (ruled_in v2 v3 v4 x6) (outcome q m))
      unfolding rules_from contents list_of
      ruled =
          opened
          ∙ ap (λ (k : Result ℕ Stop). next_section (onto (declared_in v1 v5 w6) (outcome k c))) went
          ∙ (λ j. end_with (rules_section asked (sym lent j) (rule_caps_of (length l2) (length l3) (length l4)) (sym long j) i (ruled_in l2 l3 l4 w6 (sym none_yet j))))
          ∙ ap end_with g.says

      module _ (y : Stop) (z : q ≡ Err y) where
        pub rules_faults : (error : LexError) → y ≡ Fault error → HeldFaults x6 m.faults
        rules_faults error e = (holds_err q m g y z (is_fault y error e)).faults

        pub rules_stop : length k6 ≡ length w6 → {y6 : List ℕ} {x : ParseError}
            → Refuses (stopped (length x6) (contents fault_format x6 m.faults) y) y6 x → Parses whole v1 v2 v3 v4 v5 y6 (Err x)
        rules_stop grew {y6} {x} h =
            parses_refused (subst (λ (o : Outcome). Refuses o y6 x)
            (ap (λ (k : ℕ). stopped k (contents fault_format x6 m.faults) y) (ap length rules_is6 ∙ grew ∙ long)
            ∙ sym (ruled ∙ ap (λ (k : Result ℕ Stop). end_with (onto (ruled_in v2 v3 v4 x6) (outcome k m))) z
            ∙ ap end_with (onto_err (ruled_in v2 v3 v4 x6) y m) ∙ ending_err (λ x. x.faults) (length l6) (ruled_in v2 v3 v4 x6 m) last y)) h)

      pub rules_judged : {j : ℕ} → q ≡ Ok j → (t : Result FileCounts ParseError) → t ≡ judged_by c m → Parses whole v1 v2 v3 v4 v5 x6 t
      unfolding judge contents list_of
      rules_judged {j} z t y = subst (Parses whole v1 v2 v3 v4 v5 x6) (sym y) (by (eqb m.faults 0) refl)
        where
          held : HeldRuled v2 v3 v4 x6 m
          held = holds_ok q m g z

          is : whole ≡ cond (eqb m.faults 0) (accepted (contents_of (declared_in v1 v5 w6 c) (ruled_in v2 v3 v4 x6 m)))
              (faulty (contents fault_format x6 m.faults))
          is = ruled ∙ ap (λ (k : Result ℕ Stop). end_with (onto (ruled_in v2 v3 v4 x6) (outcome k m))) z
              ∙ ap (λ (k : ℕ). cond (eqb k 0) (accepted (contents_of (declared_in v1 v5 w6 c) (ruled_in v2 v3 v4 x6 m)))
              (faulty (contents fault_format x6 m.faults))) (contents-length fault_sound held.faults.held)

          none_left : m.faults ≡ 0 → contents fault_format x6 m.faults ≡ []
          none_left e = ap (contents fault_format x6) e

          by : (b : Bool) → eqb m.faults 0 ≡ b → Parses whole v1 v2 v3 v4 v5 x6 (cond b (Ok (counted c m)) (Err (FaultyFile m.faults)))
          by true e =
              let z0 : m.faults ≡ 0 = eqb-true m.faults 0 e in
              parses_clean
              (is ∙ rw e (ap (λ (fs : List FaultSpan). accepted
              (record {
                states = contents state_format v1 c.names.states;
                rules = contents rule_format v2 m.sheet.rules;
                lists = contents entry_format v3 m.sheet.entries;
                text = contents text_format v4 m.sheet.text;
                expected = contents expected_format v5 c.expected;
                faults = fs;
              })) (none_left z0)))
              (record {
                states = kept.names.states;
                rules = held.sheet.rules;
                entries = held.sheet.entries;
                text = held.sheet.text;
                expected = kept.expected;
                faults = subst (Held fault_format x6) z0 held.faults.held;
              })
          by false e = parses_refused (refuses_faulty (is ∙ rw e) held.faults.held)
