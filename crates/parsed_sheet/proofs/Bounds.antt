-- What bounds the outcome of a file, whatever it is. State names are declared left to right, so where the declarations go on, all names together
-- have no more bytes than stand before that place; and whatever adds to the fault list asks for room in area 6. The rest is what an accepted
-- parse yields.
use Rattle.std.proofs.lemmas.Bool.{cond_both}
use Rattle.std.specs.Prelude.{Result, Ok, Err, is_some}
use Prim.Native.Nat.{ℕ, ◌+◌, ◌-◌, ◌≤◌}
use mathlib.Core.Path.{◌≡◌, refl, subst}
use mathlib.Core.Bool.{not}
use mathlib.Core.List.{List, [], ◌∷◌, ◌++◌}
use mathlib.Core.Option.{none, some}
use native.Mathlib.Nat.{le_refl}
use native.Mathlib.Omega.{arith}
use borrow.Author.Tests.{ltb-true}
use lib.Dec.{eqb, ltb}
use lib.ListN.{length, take, drop, length-append, length-take, length-drop}
use Rattle.characters.specs.Whitespace.{whitespace_len, at_whitespace, at_line_end}
use Rattle.text.specs.Range.{lookahead_is}
use Rattle.text.specs.Scan.{line_end, skip_whitespace, skip_blanks, find_whitespace, trim_end, trim_start, trim_end_unescaped}
use Rattle.characters.proofs.Walks.{first_from, first_to, repeat_keeps, skip_from}
use Rattle.characters.proofs.Spaces.{white_inside}
use Rattle.area.specs.declared.AreaName.TheVariants as Areas
use Rattle.area.specs.declared.State.{State}
use Rattle.area.specs.declared.Fault.{Fault}
use Rattle.area.specs.Areas.{room, insert_at}
use Rattle.area.specs.Records.{nth_fault, fault_width, most_others}
use Rattle.area.specs.Contents.{append, state_format, fault_format}
use Rattle.area.proofs.Rooms.{room_few, room_fits}
use Rattle.fault.specs.Step.{Out, go, bad, full, onto, written, loop}
use Rattle.fault.specs.Faults.{fault, next_number, fault_end, find_fault, add_fault, add_span, add_pair, repeat_at, add_repeat, DuplicateStartState, DuplicateName, PrematureEnd, RoutinesNotSupported, VerbatimNotSupported}
use Rattle.fault.proofs.Yielding.{Yields, yields_next, yields_onto, yields_loop}
use Rattle.section.specs.declared.options.Options.{Options}
use Rattle.section.specs.Request.{Request}
use Rattle.section.specs.Section.{percents, is_comment, past_comment, past_line, to_declaration, to_rule, in_section, has_routines}
use Rattle.declarations.specs.declared.Declaration.{Declaration}
use Rattle.declarations.specs.declared.Declaration.TheVariants.{States, Expecting, Unknown}
use Rattle.names.specs.Names.{is_state_name}
use Rattle.declarations.specs.Declarations.{range, Names, names, NameCaps, name_caps, Declared, Caps, state, trimmed, word_end, first_word, rest_of, is_inclusive, is_exclusive, is_expecting, states_of}
use Rattle.declarations.specs.Declarations.{declaration_of, behind_name, add_state, repeat_state, state_named, declare_state, state_names, expected_names, with_names, with_expected, then_at, declare_as, declaration, next_declaration, end_declarations, declarations}
use Rattle.declarations.proofs.Lines.{names_within}
use Rattle.fault.specs.declared.kinds.LexError.{LexError}
use Rattle.rules.specs.declared.Heading.{Heading}
use Rattle.rules.specs.declared.Heading.TheVariants.{Repeated, Fresh}
use Rattle.rules.specs.Heading.{heading_of}
use Rattle.rules_section.specs.RulesSection.{Ruled, Sheet, sheet_of, with_sheet, with_faults, pattern, rule_as, rule, line, next_rule, rules, routines, rules_section}
use Rattle.rules_section.specs.RulesSection as R
use Rattle.parse.specs.Parse.{Contents, declaration_caps, rule_caps, Outcome, long_file, unknown_flag, invalid_utf8, area_full, faulty, accepted, closed, ending, judge, contents_of, no_rules, rules_from, undeclared, with_states, opening, file, outcome}
use Rattle.parse.specs.Parse as P
use Rattle.parsed_sheet.specs.Accepted.{Fits}
use Rattle.parsed_sheet.proofs.Appending.{room_holds, yields_append}
use Rattle.parsed_sheet.proofs.Places.{declaration_to, word_to}
use Rattle.parsed_sheet.proofs.Outcomes.{outcome_cases}
use Rattle.parsed_sheet.proofs.Declaring.{yields_then}
use Rattle.parsed_sheet.proofs.Totals.{name_bytes, names_none, names_more}

-- a fault list fits an area 6 of so many bytes
abbrev FaultsFit : ℕ → List Fault → Type 0
FaultsFit c6 fs = Fits fault_format c6 fs

-- ---- faults that are added

insert_length : (p : ℕ) (x : Fault) (fs : List Fault) → length (insert_at p x fs) ≡ length fs + 1
unfolding insert_at
insert_length p x fs = omega (arith, length-append (take p fs) (x ∷ drop p fs), length-take p fs, length-drop p fs)

module _ (P : ℕ → List Fault → Type 0) (c6 i : ℕ) (fs : List Fault) (fits : (gs : List Fault) → FaultsFit c6 gs → P i gs) where
  span_fits : (j a e : ℕ) → Yields P (written Areas.Faults i (add_span c6 j a e fs))
  unfolding add_span
  span_fits j a e =
      let n = (nth_fault fs j).number in
      let x = fault n (nth_fault fs j).kind a e in
      let gs = insert_at (fault_end fs n) x fs in
      let l : length gs ≡ length fs + 1 = insert_length (fault_end fs n) x fs in
      cond_both (room fault_width most_others c6 (length fs) 1) (some gs) none (λ o. Yields P (written Areas.Faults i o))
      (λ q. fits gs (record {
        few = rw l (room_few fault_width most_others c6 (length fs) 1 q);
        fits = rw l (room_fits fault_width most_others c6 (length fs) 1 q);
      })) (λ _. tt)

  fault_fits : (kind a e : ℕ) → Yields P (written Areas.Faults i (add_fault c6 kind a e fs))
  unfolding add_fault
  fault_fits kind a e = yields_append P fault_format c6 Areas.Faults i (fault (next_number fs) kind a e ∷ []) fs (fits _)

  repeat_fits : (kind c d a e : ℕ) → Yields P (written Areas.Faults i (add_repeat c6 kind c d a e fs))
  unfolding add_repeat repeat_at add_pair
  repeat_fits kind c d a e =
      cond_both (ltb (find_fault fs kind c d) (length fs)) (add_span c6 (find_fault fs kind c d) a e fs) (add_pair c6 kind c d a e fs) (λ o. Yields P (written Areas.Faults i o))
      (λ _. span_fits (find_fault fs kind c d) a e)
      (λ _. yields_append P fault_format c6 Areas.Faults i (fault (next_number fs) kind c d ∷ fault (next_number fs) kind a e ∷ []) fs (fits _))

-- ---- the names of states in a line

-- at the place j among the names up to t
record NamesRead (c6 t j : ℕ) (n : Names) : Type 0 where
  before : name_bytes n.states ≤ j
  within : name_bytes n.states ≤ t
  faults : FaultsFit c6 n.faults

module _ (s : List ℕ) (k : NameCaps) (t : ℕ) where
  abbrev Reads : ℕ → Names → Type 0
  Reads j n = NamesRead k.c6 t j n

  repeat_read : (x y : State) (n : Names) → x.start ≤ x.end → Reads x.start n → Yields Reads (repeat_state s k x y n)
  unfolding repeat_state behind_name
  repeat_read x y n l h =
      let WithFaults : ℕ → List Fault → Type 0 = λ j fs. Reads j (names n.states fs) in
      let faults = add_repeat k.c6 DuplicateStartState y.start y.end x.start x.end n.faults in
      yields_onto WithFaults Reads (names n.states) (written Areas.Faults (behind_name s x) faults)
      (repeat_fits WithFaults k.c6 (behind_name s x) n.faults
      (λ fs f. record { before = omega (arith, h.before); within = h.within; faults = f })
      DuplicateStartState y.start y.end x.start x.end) (λ _ _ g. g)

  add_read : (x : State) (n : Names) → x.start ≤ x.end → x.end ≤ t → Reads x.start n → Yields Reads (add_state s k x n)
  unfolding add_state behind_name
  add_read x n l m h =
      let z : name_bytes (n.states ++ (x ∷ [])) ≡ name_bytes n.states + (x.end - x.start) = names_more n.states x in
      let WithStates : ℕ → List State → Type 0 = λ j xs. Reads j (names xs n.faults) in
      let states = append state_format k.c1 (x ∷ []) n.states in
      yields_onto WithStates Reads (λ xs. names xs n.faults) (written Areas.States (behind_name s x) states)
      (yields_append WithStates state_format k.c1 Areas.States (behind_name s x) (x ∷ []) n.states
      (λ _. record { before = omega (arith, z, h.before); within = omega (arith, z, h.before); faults = h.faults })) (λ _ _ g. g)

  state_read : (x : State) (n : Names) → x.start ≤ x.end → x.end ≤ t → Reads x.start n → Yields Reads (declare_state s k x n)
  unfolding declare_state
  state_read x n l m h =
      cond_both (not (is_state_name s x.start x.end)) _ _ (Yields Reads) (λ _. tt)
      (λ _. cond_both (ltb (state_named s x n.states) (length n.states)) _ _ (Yields Reads) (λ _. repeat_read x _ n l h) (λ _. add_read x n l m h))

  names_read : (exclusive a : ℕ) (n : Names) → Reads a n → Yields Reads (state_names s k exclusive (range a t) n)
  unfolding state_names
  names_read exclusive a n h =
      yields_loop Reads (λ j. ltb j t) (λ j. declare_state s k (state j (find_whitespace s j t) exclusive))
      (λ j m e g.
      let name-ends : find_whitespace s j t ≤ t = first_to (at_whitespace s) j t (omega (arith, ltb-true j t e)) in
      state_read (state j (find_whitespace s j t) exclusive) m (first_from (at_whitespace s) j t) name-ends g) (length s) a n h

-- ---- a declaration

-- the names that a line declares stand behind i
abbrev Behind : ℕ → Declaration → Type 0
Behind i (States exclusive r) = (i ≤ r.start) × (r.start ≤ r.end)
Behind i (Expecting w) = Unit {0}
Behind i Unknown = Unit {0}

module _ (s : List ℕ) (i e : ℕ) (h : i ≤ e) where
  states_behind : (exclusive r : ℕ) → i ≤ r → Behind i (states_of exclusive (trimmed s (range r e)))
  unfolding states_of trimmed trim_start trim_end
  states_behind exclusive r g =
      cond_both (eqb (trim_start s r e) (trim_end s (trim_start s r e) e)) Unknown _ (Behind i) (λ _. tt)
      (λ _. (omega (arith, skip_from (whitespace_len s) (length s) (white_inside s) r), first_from _ (trim_start s r e) e))

  rest_behind : i ≤ (rest_of s (range i e)).start
  unfolding rest_of word_end
  rest_behind = cond_both (eqb (word_end s (range i e)) (trim_end s i e)) e (word_end s (range i e)) (λ r. i ≤ r) (λ _. h) (λ _. first_from (at_whitespace s) i e)

  line_behind : Behind i (declaration_of s (range i e))
  unfolding declaration_of rest_of
  line_behind =
      cond_both (is_inclusive s (first_word s (range i e))) _ _ (Behind i) (λ _. states_behind 0 (rest_of s (range i e)).start rest_behind)
      (λ _. cond_both (is_exclusive s (first_word s (range i e))) _ _ (Behind i) (λ _. states_behind 1 (rest_of s (range i e)).start rest_behind)
      (λ _. cond_both (is_expecting s (first_word s (range i e))) _ _ (Behind i) (λ _. tt) (λ _. tt)))

-- lines are skipped forward
declaration_from : (s : List ℕ) (options : Options) (i : ℕ) → i ≤ to_declaration s options i
unfolding to_declaration past_line past_comment
declaration_from s options i =
    repeat_keeps (λ k. i ≤ k) (past_line s options)
    (λ k l.
    let m = skip_whitespace s k in
    let f : k ≤ m = skip_from (whitespace_len s) (length s) (white_inside s) k in
    let ends_behind : m ≤ line_end s m = first_from (at_line_end s) m (length s) in
    cond_both (is_comment s options.comments m) (line_end s m) m (λ j. i ≤ j) (λ _. omega (arith, ends_behind)) (λ _. omega arith)) (length s) i (le_refl i)

-- ---- the declarations

record DeclaredRead (s : List ℕ) (c6 i : ℕ) (d : Declared) : Type 0 where
  place : i ≤ length s
  names : name_bytes d.states ≤ i
  faults : FaultsFit c6 d.faults

module _ (s : List ℕ) (options : Options) (k : Caps) where
  abbrev Read : ℕ → Declared → Type 0
  Read i d = DeclaredRead s k.c6 i d

  as_read : (i e : ℕ) → i ≤ e → e ≤ length s → (x : Declaration) → declaration_of s (range i e) ≡ x → (d : Declared) → Read i d
      → Yields Read (declare_as s k (range i e) x d)
  unfolding declare_as
  as_read i e a l (States exclusive r) q d h =
      let f : (i ≤ r.start) × (r.start ≤ r.end) = subst (Behind i) q (line_behind s i e a) in
      let g : r.end ≤ e = (names_within s i e (declaration_of s (range i e)) refl a exclusive r q).1 in
      let caps = name_caps k.c1 k.c6 in
      let before = names d.states d.faults in
      let start : NamesRead k.c6 r.end r.start before = record {
        before = omega (arith, f.0, h.names);
        within = omega (arith, f.0, f.1, h.names);
        faults = h.faults;
      } in
      yields_then (NamesRead k.c6 r.end) Read e (with_names d) (state_names s caps exclusive r before)
      (names_read s caps r.end exclusive r.start before start)
      (λ _ n w. record { place = l; names = omega (arith, w.within); faults = w.faults })
  as_read i e a l (Expecting w) q d h = any_read (expected_names s k.c5 (range i e) w d.expected)
    where
      any_read : (o : Out _) → Yields Read (then_at e (onto (with_expected d) o))
      any_read (go j xs) = record { place = l; names = omega (arith, h.names); faults = h.faults }
      any_read (bad kind at xs) = tt
      any_read (full name) = tt
  as_read i e a l Unknown q d h = tt

  -- lines that are skipped keep it
  skip_read : (i : ℕ) (d : Declared) → Read i d → Read (to_declaration s options i) d
  skip_read i d h = record {
    place = declaration_to s options i h.place;
    names = omega (arith, declaration_from s options i, h.names);
    faults = h.faults;
  }

  declaration_read : (i : ℕ) (d : Declared) → Read i d → Yields Read (next_declaration s options k i d)
  unfolding next_declaration declaration
  declaration_read i d h =
      let e = line_end s i in
      yields_next Read Read (declaration s k i e d) (λ j t. go (to_declaration s options j) t)
      (as_read i e (first_from (at_line_end s) i (length s)) (first_to (at_line_end s) i (length s) h.place) (declaration_of s (range i e)) refl d h)
      skip_read

  end_read : (i : ℕ) (d : Declared) → Read i d → Yields Read (end_declarations s i d)
  unfolding end_declarations
  end_read i d h =
      cond_both (is_some (lookahead_is s percents i)) (go (skip_blanks s (i + 2)) d) (bad PrematureEnd i d) (Yields Read)
      (λ q.
      let f : i + 2 ≤ skip_blanks s (i + 2) = first_from _ (i + 2) (length s) in
      record { place = first_to _ (i + 2) (length s) (word_to s percents i h.place q); names = omega (arith, f, h.names); faults = h.faults }) (λ _. tt)

  declarations_read : (i : ℕ) (d : Declared) → Read i d → Yields Read (declarations s options k i d)
  unfolding declarations
  declarations_read i d h =
      let start = to_declaration s options i in
      yields_next Read Read (loop (length s) (in_section s) (next_declaration s options k) start d) (end_declarations s)
      (yields_loop Read (in_section s) (next_declaration s options k) (λ j t _ g. declaration_read j t g) (length s) start d (skip_read i d h)) end_read

-- ---- the rules

module _ (asked : Request) (xs : List State) (k : R.Caps) (c6 : ℕ) where
  abbrev Ruling : ℕ → Ruled → Type 0
  Ruling i r = FaultsFit c6 r.faults

  -- a rule's own areas leave the faults
  sheet_fits : (r : Ruled) (o : Out Sheet) → FaultsFit c6 r.faults → Yields Ruling (onto (with_sheet r) o)
  sheet_fits r (go j w) h = h
  sheet_fits r (bad kind at w) h = tt
  sheet_fits r (full name) h = tt

  heading_fits : (i e : ℕ) (x : Result Heading LexError) (r : Ruled) → FaultsFit c6 r.faults → Yields Ruling (rule_as asked xs k c6 i e x r)
  unfolding rule_as
  heading_fits i e (Err error) r h = tt
  heading_fits i e (Ok (Repeated first again)) r h =
      yields_onto (λ _ fs. FaultsFit c6 fs) Ruling (with_faults r)
      (written Areas.Faults e (add_repeat c6 DuplicateName first.start first.end again.start again.end r.faults))
      (repeat_fits (λ _ fs. FaultsFit c6 fs) c6 e r.faults (λ _ f. f) DuplicateName first.start first.end again.start again.end) (λ _ _ f. f)
  heading_fits i e (Ok (Fresh b hd)) r h = sheet_fits r (pattern asked k i e hd (trim_end_unescaped asked.source i b) xs (sheet_of r)) h

  line_fits : (i e : ℕ) (r : Ruled) → FaultsFit c6 r.faults → Yields Ruling (line asked xs k c6 i e r)
  unfolding line rule
  line_fits i e r h =
      let o = written Areas.Faults e (add_fault c6 VerbatimNotSupported i e r.faults) in
      cond_both (at_whitespace asked.source i) (onto (with_faults r) o) (rule asked xs k c6 i e r) (Yields Ruling)
      (λ _. yields_onto (λ _ fs. FaultsFit c6 fs) Ruling (with_faults r) o
      (fault_fits (λ _ fs. FaultsFit c6 fs) c6 e r.faults (λ _ f. f) VerbatimNotSupported i e) (λ _ _ f. f))
      (λ _. heading_fits i e (heading_of asked.source i (trim_end asked.source i e) xs r.rules) r h)

  rule_fits : (i : ℕ) (r : Ruled) → FaultsFit c6 r.faults → Yields Ruling (next_rule asked xs k c6 i r)
  unfolding next_rule
  rule_fits i r h =
      let e = line_end asked.source i in
      yields_next Ruling Ruling (line asked xs k c6 i e r) (λ _ t. go (to_rule asked.source asked.options e) t)
      (line_fits i e r h) (λ _ _ f. f)

  routines_fit : (i : ℕ) (r : Ruled) → FaultsFit c6 r.faults → Yields Ruling (routines asked.source i r)
  unfolding routines
  routines_fit i r h = cond_both (has_routines asked.source i) (bad RoutinesNotSupported i r) (go i r) (Yields Ruling) (λ _. tt) (λ _. h)

  rules_fit : (i : ℕ) (r : Ruled) → FaultsFit c6 r.faults → Yields Ruling (rules_section asked xs k c6 i r)
  unfolding rules_section rules
  rules_fit i r h =
      yields_next Ruling Ruling (rules asked xs k c6 i r) (routines asked.source)
      (yields_loop Ruling (in_section asked.source) (next_rule asked xs k c6) (λ j t _ f. rule_fits j t f)
      (length asked.source) (to_rule asked.source asked.options i) r h) routines_fit

-- ---- a file

-- the faults that an outcome has fit area 6, and the names of the states that it has are together no longer than the file
abbrev pub Bounded : List ℕ → ℕ → Outcome → Type 0
Bounded s c6 long_file = Unit {0}
Bounded s c6 unknown_flag = Unit {0}
Bounded s c6 invalid_utf8 = Unit {0}
Bounded s c6 (area_full name) = Unit {0}
Bounded s c6 (faulty fs) = FaultsFit c6 fs
Bounded s c6 (accepted c) = name_bytes c.states ≤ length s

module _ (s : List ℕ) (c6 : ℕ) where
  -- the fault that ends parsing is appended as any other
  closed_bounded : (kind at : ℕ) (fs : List Fault) → Bounded s c6 (closed (add_fault c6 kind at at fs))
  unfolding closed add_fault append
  closed_bounded kind at fs =
      let ys = fault (next_number fs) kind at at ∷ [] in
      cond_both (room fault_width most_others c6 (length fs) 1) (some (fs ++ ys)) none (λ o. Bounded s c6 (closed o))
      (λ q. room_holds fault_format c6 fs ys q) (λ _. tt)

  ending_bounded : {S : Type 0} (Q : ℕ → S → Type 0) (faults : S → List Fault) (o : Out S) (g : ℕ → S → Outcome) → Yields Q o
      → ((i : ℕ) (t : S) → Q i t → Bounded s c6 (g i t)) → Bounded s c6 (ending faults c6 o g)
  ending_bounded Q faults (go i t) g h f = f i t h
  ending_bounded Q faults (bad kind at t) g h f = closed_bounded kind at (faults t)
  ending_bounded Q faults (full name) g h f = tt

  judge_bounded : (c : Contents) → FaultsFit c6 c.faults → name_bytes c.states ≤ length s → Bounded s c6 (judge c)
  unfolding judge
  judge_bounded c f h = cond_both (eqb (length c.faults) 0) (accepted c) (faulty c.faults) (Bounded s c6) (λ _. h) (λ _. f)

module _ (asked : Request) (k : P.Caps) where
  abbrev AllRead : ℕ → Declared → Type 0
  AllRead i d = DeclaredRead asked.source k.c6 i d

  rules_bounded : (i : ℕ) (d : Declared) → AllRead i d → Bounded asked.source k.c6 (rules_from asked k i d)
  unfolding rules_from
  rules_bounded i d h =
      ending_bounded asked.source k.c6 (λ _ r. FaultsFit k.c6 r.faults) (λ r. r.faults)
      (rules_section asked d.states (rule_caps k) k.c6 i (no_rules d)) (λ j r. judge (contents_of d r))
      (rules_fit asked d.states (rule_caps k) k.c6 i (no_rules d) h.faults)
      (λ j r f. judge_bounded asked.source k.c6 (contents_of d r) f (omega (arith, h.names, h.place)))

  opening_read : Yields AllRead (opening asked.source asked.options (declaration_caps k) undeclared)
  unfolding opening
  opening_read =
      let Opened : ℕ → List State → Type 0 = λ i xs. AllRead i (with_states undeclared xs) in
      let no-faults-fit : FaultsFit k.c6 [] = record { few = omega arith; fits = omega arith } in
      let o = written Areas.States 0 (append state_format k.c1 (state 0 0 0 ∷ []) []) in
      yields_next AllRead AllRead (onto (with_states undeclared) o) (declarations asked.source asked.options (declaration_caps k))
      (yields_onto Opened AllRead (with_states undeclared) o
      (yields_append Opened state_format k.c1 Areas.States 0 (state 0 0 0 ∷ []) []
      (λ _. record { place = omega arith; names = omega (arith, names_none, names_more [] (state 0 0 0)); faults = no-faults-fit }))
      (λ i xs h. h))
      (λ i d h. declarations_read asked.source asked.options (declaration_caps k) i d h)

  -- whatever becomes of a file
  pub outcome_bounded : Bounded asked.source k.c6 (outcome asked k)
  unfolding file
  outcome_bounded =
      outcome_cases asked k (Bounded asked.source k.c6) tt tt tt
      (λ _ _. ending_bounded asked.source k.c6 AllRead (λ d. d.faults)
      (opening asked.source asked.options (declaration_caps k) undeclared) (rules_from asked k) opening_read rules_bounded)
