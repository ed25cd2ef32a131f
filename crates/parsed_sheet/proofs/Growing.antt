-- Larger areas change nothing but where an area was full, and that is one of the six: one law for each way to join steps, one line for each
-- definition. So an accepted outcome is the file's meaning, whatever the areas had.
use Rattle.std.proofs.lemmas.Bool.{and_parts}
use Rattle.std.specs.Prelude.{Result, Ok, Err, is_some}
use Prim.Native.Nat.{ℕ, zero, suc, ◌+◌, ◌*◌, ◌-◌}
use mathlib.Core.Path.{◌≡◌, refl, ap, subst, subst⁻¹}
use mathlib.Core.Bool.{Bool, true, false, cond, not, ◌&&◌}
use mathlib.Core.List.{List, [], ◌∷◌, ◌++◌}
use mathlib.Core.Option.{Option, none, some}
use native.Mathlib.Nat.{mul-le-mul_right}
use borrow.Author.Tests.{le-leb, leb-true}
use lib.Dec.{eqb, leb, ltb}
use lib.ListN.{length}
use Rattle.characters.specs.Utf8.{utf8}
use Rattle.area.specs.declared.AreaName.{AreaName}
use Rattle.area.specs.declared.AreaName.TheVariants as Areas
use Rattle.area.specs.declared.State.{State}
use Rattle.area.specs.declared.Rule.{Rule}
use Rattle.area.specs.declared.Expected.{Expected}
use Rattle.area.specs.declared.Fault.{Fault}
use Rattle.area.specs.Areas.{room}
use Rattle.area.specs.Records.{fault_width, most_others}
use Rattle.text.specs.Scan.{line_end}
use Rattle.characters.specs.Whitespace.{at_whitespace}
use Rattle.escape.specs.Escape.{unescaped}
use Rattle.text.specs.Range.{lookahead_is}
use Rattle.section.specs.declared.options.Options.{Options}
use Rattle.section.specs.Request.{Request}
use Rattle.section.specs.Section.{percents, to_declaration, to_rule, has_routines}
use Rattle.area.specs.Contents.{Format, append, state_format, rule_format, entry_format, text_format, expected_format, fault_format}
use Rattle.fault.specs.Step.{Out, go, bad, full, next, onto, written, loop}
use Rattle.fault.specs.Kinds.{kind_number}
use Rattle.fault.specs.Faults.{find_fault, UnknownDeclaration, InvalidName, UnknownStartState, DuplicateStartState, InvalidStartState, InvalidStartStateName, DuplicateName, RegexError, VerbatimNotSupported, add_fault, add_span, add_pair, repeat_at, add_repeat}
use Rattle.declarations.specs.declared.Declaration.{Declaration}
use Rattle.declarations.specs.declared.Declaration.TheVariants.{States, Expecting, Unknown}
use Rattle.names.specs.Names.{is_state_name}
use Rattle.declarations.specs.Declarations.{Range, Names, names, name_caps, state, Declared, with_names, with_expected, expected, is_quoted, behind_name}
use Rattle.declarations.specs.Declarations.{add_state, repeat_state, state_named, declare_state, state_names, declare_expected, expected_names, declare_as, declaration, next_declaration, end_declarations, declarations}
use Rattle.rules.specs.declared.Head.{Head}
use Rattle.fault.specs.declared.kinds.LexError.{LexError}
use Rattle.rules.specs.declared.Heading.{Heading}
use Rattle.rules.specs.declared.Heading.TheVariants.{Repeated, Fresh}
use Rattle.rules.specs.declared.Body.{Body}
use Rattle.rules.specs.declared.Body.TheVariants.{Unclosed, Listed, Rewritten, Plain}
use Rattle.rules.specs.Heading.{body_of}
use Rattle.rules.specs.Rules.{refuses, entry_end, entry_id, next_entry, entries, record_rule}
use Rattle.rules_section.specs.RulesSection.{Sheet, sheet, Ruled, sheet_of, with_sheet, with_faults, with_rule, listed_rule, rewritten_rule, pattern, rule_as, rule, line, next_rule, rules, routines, rules_section}
use Rattle.area.specs.declared.RuleText.{RuleText}
use Rattle.rules_section.specs.declared.pattern.StateList.{StateList}
use Rattle.rules_section.proofs.Patterns.{pattern_is_unclosed, pattern_is_listed, pattern_is_rewritten, pattern_is_plain}
use Rattle.parse.specs.Parse.{Contents, Caps, Outcome, long_file, unknown_flag, invalid_utf8, area_full, faulty, accepted, closed, ending, judge, contents_of, rules_from, opening, file, outcome, declaration_caps, rule_caps, undeclared, with_states, no_rules}
use Rattle.parsed_sheet.specs.Meaning.{whole, limits, meaning}

-- ---- areas

-- what has room in c bytes has room in d
pub record Roomier {A : Type 0} (F : Format A) (c d : ℕ) : Type 0 where
  pub room : (n m : ℕ) → room F.width F.most c n m ≡ true → room F.width F.most d n m ≡ true

-- an area as long as its limit allows is long enough
at_limit : {A : Type 0} (F : Format A) (c : ℕ) → Roomier F c (whole F)
unfolding room
at_limit F c = record { room = λ n m e. by n m (and_parts (leb (n + m) F.most) _ e).0 }
  where
    by : (n m : ℕ) → leb (n + m) F.most ≡ true → leb (n + m) F.most && leb ((n + m) * F.width) (whole F) ≡ true
    by n m e = rw (e, le-leb ((n + m) * F.width) (whole F) (mul-le-mul_right F.width (leb-true (n + m) F.most e))) refl

-- each area
pub record Wider (k l : Caps) : Type 0 where
  pub w1 : Roomier state_format k.c1 l.c1
  pub w2 : Roomier rule_format k.c2 l.c2
  pub w3 : Roomier entry_format k.c3 l.c3
  pub w4 : Roomier text_format k.c4 l.c4
  pub w5 : Roomier expected_format k.c5 l.c5
  pub w6 : Roomier fault_format k.c6 l.c6

pub limits_wide : (k : Caps) → Wider k limits
limits_wide k = record {
  w1 = at_limit state_format k.c1;
  w2 = at_limit rule_format k.c2;
  w3 = at_limit entry_format k.c3;
  w4 = at_limit text_format k.c4;
  w5 = at_limit expected_format k.c5;
  w6 = at_limit fault_format k.c6;
}

-- ---- the ways to join steps

abbrev GrownAs : {A : Type 0} → Option A → Option A → Type 0
GrownAs none b = Unit {0}
GrownAs (some x) b = b ≡ some x

-- the list a is b, unless it did not fit
record Grown {A : Type 0} (a b : Option A) : Type 0 where
  kept : GrownAs a b

abbrev StaysAs : {S : Type 0} → Out S → Out S → Type 0
StaysAs (go i s) p = p ≡ go i s
StaysAs (bad kind at s) p = p ≡ bad kind at s
StaysAs (full name) p = Unit {0}

-- the outcome o is p, unless an area was full
record Stays {S : Type 0} (o p : Out S) : Type 0 where
  kept : StaysAs o p

grown_if : {A : Type 0} (t u : Bool) (x : A) → (t ≡ true → u ≡ true) → Grown (cond t (some x) none) (cond u (some x) none)
grown_if true u x f = rw (f refl) (record { kept = refl })
grown_if false u x f = record { kept = tt }

grown_append : {A : Type 0} (F : Format A) (c d : ℕ) → Roomier F c d → (ys xs : List A) → Grown (append F c ys xs) (append F d ys xs)
unfolding append
grown_append F c d h ys xs = grown_if _ _ (xs ++ ys) (h.room (length xs) (length ys))

grown_either : {A : Type 0} (t : Bool) {x y u v : Option A} → Grown x u → Grown y v → Grown (cond t x y) (cond t u v)
grown_either true p q = p
grown_either false p q = q

stays_go : {S : Type 0} (i : ℕ) (s : S) → Stays (go i s) (go i s)
stays_go i s = record { kept = refl }

stays_bad : {S : Type 0} (kind at : ℕ) (s : S) → Stays (bad kind at s) (bad kind at s)
stays_bad kind at s = record { kept = refl }

stays_if : {S : Type 0} (t : Bool) {x y u v : Out S} → Stays x u → Stays y v → Stays (cond t x y) (cond t u v)
stays_if true p q = p
stays_if false p q = q

stays_next : {S : Type 0} {o p : Out S} {f g : ℕ → S → Out S} → Stays o p → ((i : ℕ) (s : S) → Stays (f i s) (g i s)) → Stays (next o f) (next p g)
stays_next {o = go i s} {f = f} h k = rw h.kept (k i s)
stays_next {o = bad kind at s} {g = g} h k = record { kept = ap (λ x. next x g) h.kept }
stays_next {o = full name} h k = record { kept = tt }

stays_onto : {S T : Type 0} (f : S → T) {o p : Out S} → Stays o p → Stays (onto f o) (onto f p)
stays_onto f {o = go i s} h = record { kept = ap (onto f) h.kept }
stays_onto f {o = bad kind at s} h = record { kept = ap (onto f) h.kept }
stays_onto f {o = full name} h = record { kept = tt }

stays_written : {S : Type 0} (name : AreaName) (i : ℕ) {a b : Option S} → Grown a b → Stays (written name i a) (written name i b)
stays_written name i {a = none} h = record { kept = tt }
stays_written name i {a = some s} h = record { kept = ap (written name i) h.kept }

stays_loop : {S : Type 0} (test : ℕ → Bool) (f g : ℕ → S → Out S) → ((i : ℕ) (s : S) → Stays (f i s) (g i s))
    → (n i : ℕ) (s : S) → Stays (loop n test f i s) (loop n test g i s)
unfolding loop
stays_loop test f g h zero i s = stays_go i s
stays_loop test f g h (suc n) i s = stays_if (test i) (stays_next (h i s) (λ j t. stays_loop test f g h n j t)) (stays_go i s)

-- ---- faults

module _ (c d : ℕ) (w : Roomier fault_format c d) where
  grown_fault : (kind a e : ℕ) (fs : List Fault) → Grown (add_fault c kind a e fs) (add_fault d kind a e fs)
  unfolding add_fault
  grown_fault kind a e fs = grown_append fault_format c d w _ fs

  grown_span : (j a e : ℕ) (fs : List Fault) → Grown (add_span c j a e fs) (add_span d j a e fs)
  unfolding add_span
  grown_span j a e fs = grown_if (room fault_width most_others c (length fs) 1) (room fault_width most_others d (length fs) 1) _ (w.room (length fs) 1)

  grown_pair : (kind x y a e : ℕ) (fs : List Fault) → Grown (add_pair c kind x y a e fs) (add_pair d kind x y a e fs)
  unfolding add_pair
  grown_pair kind x y a e fs = grown_append fault_format c d w _ fs

  grown_repeat : (kind x y a e : ℕ) (fs : List Fault) → Grown (add_repeat c kind x y a e fs) (add_repeat d kind x y a e fs)
  unfolding add_repeat repeat_at
  grown_repeat kind x y a e fs = grown_either (ltb (find_fault fs kind x y) (length fs)) (grown_span (find_fault fs kind x y) a e fs) (grown_pair kind x y a e fs)

-- ---- declarations

module _ (k l : Caps) (w : Wider k l) (s : List ℕ) where
  grow_state : (x : State) (n : Names) → Stays (declare_state s (name_caps k.c1 k.c6) x n) (declare_state s (name_caps l.c1 l.c6) x n)
  unfolding declare_state repeat_state add_state
  grow_state x n =
      stays_if (not (is_state_name s x.start x.end)) (stays_bad InvalidStartStateName x.start n)
      (stays_if (ltb (state_named s x n.states) (length n.states))
      (stays_onto (names n.states) (stays_written Areas.Faults (behind_name s x)
      (grown_repeat k.c6 l.c6 w.w6 DuplicateStartState _ _ x.start x.end n.faults)))
      (stays_onto (λ xs. names xs n.faults) (stays_written Areas.States (behind_name s x)
      (grown_append state_format k.c1 l.c1 w.w1 (x ∷ []) n.states))))

  grow_names : (exclusive : ℕ) (r : Range) (n : Names)
      → Stays (state_names s (name_caps k.c1 k.c6) exclusive r n) (state_names s (name_caps l.c1 l.c6) exclusive r n)
  unfolding state_names
  grow_names exclusive r n = stays_loop _ _ _ (λ j m. grow_state _ m) (length s) r.start n

  grow_quoted : (line word : Range) (xs : List Expected) → Stays (declare_expected s k.c5 line word xs) (declare_expected s l.c5 line word xs)
  unfolding declare_expected
  grow_quoted line word xs =
      let x = expected (word.start + 1) (word.end - 1) in
      stays_if (is_quoted s word) (stays_written Areas.Expected _ (grown_append expected_format k.c5 l.c5 w.w5 (x ∷ []) xs))
      (stays_bad InvalidName line.start xs)

  grow_expected : (line : Range) (a : ℕ) (xs : List Expected) → Stays (expected_names s k.c5 line a xs) (expected_names s l.c5 line a xs)
  unfolding expected_names
  grow_expected line a xs = stays_loop _ _ _ (λ j ys. grow_quoted line _ ys) (length s) _ xs

  grow_declare : (line : Range) (x : Declaration) (d : Declared) → Stays (declare_as s (declaration_caps k) line x d) (declare_as s (declaration_caps l) line x d)
  unfolding declare_as
  grow_declare line (States exclusive r) d =
      stays_next (stays_onto (with_names d) (grow_names exclusive r (names d.states d.faults))) (λ j m. stays_go line.end m)
  grow_declare line (Expecting a) d = stays_next (stays_onto (with_expected d) (grow_expected line a d.expected)) (λ j m. stays_go line.end m)
  grow_declare line Unknown d = stays_bad UnknownDeclaration line.start d

  grow_declarations : (options : Options) (i : ℕ) (d : Declared)
      → Stays (declarations s options (declaration_caps k) i d) (declarations s options (declaration_caps l) i d)
  unfolding declarations next_declaration declaration end_declarations
  grow_declarations options i d =
      stays_next
      (stays_loop _ _ _ (λ j m. stays_next (grow_declare _ _ m) (λ p t. stays_go (to_declaration s options p) t)) (length s) _ d)
      (λ j m. stays_if (is_some (lookahead_is s percents j)) (stays_go _ m) (stays_bad _ _ m))

  -- ---- a list of states

  module _ (xs : List State) where
    grow_entry : (i g a : ℕ) (ids : List ℕ) → Stays (next_entry s k.c3 xs i g a ids) (next_entry s l.c3 xs i g a ids)
    unfolding next_entry
    grow_entry i g a ids =
        stays_if (leb (length xs) (entry_id s xs a (entry_end s g a))) (stays_bad UnknownStartState i ids)
        (stays_written Areas.Entries (entry_end s g a + 1) (grown_append entry_format k.c3 l.c3 w.w3 (entry_id s xs a (entry_end s g a) ∷ []) ids))

    grow_entries : (i g : ℕ) (ids : List ℕ) → Stays (entries s k.c3 xs i g ids) (entries s l.c3 xs i g ids)
    unfolding entries
    grow_entries i g ids = stays_loop _ _ _ (λ a ys. grow_entry i g a ys) (length s) _ ids

-- ---- rules

module _ (k l : Caps) (w : Wider k l) (asked : Request) (xs : List State) where
  grow_record : (i e : ℕ) (x : Rule) (rs : List Rule)
      → Stays (record_rule asked.verdicts k.c2 i e x rs) (record_rule asked.verdicts l.c2 i e x rs)
  unfolding record_rule
  grow_record i e x rs =
      stays_if (refuses asked.verdicts (length rs)) (stays_bad RegexError i rs)
      (stays_written Areas.Rules e (grown_append rule_format k.c2 l.c2 w.w2 (x ∷ []) rs))

  module _ (i e : ℕ) (h : Head) (c : ℕ) where
    grow_with : (t : RuleText) (list : StateList) (v : Sheet)
        → Stays (with_rule asked (rule_caps k) i e h t list v) (with_rule asked (rule_caps l) i e h t list v)
    unfolding with_rule
    grow_with t list v = stays_onto (λ rs. sheet rs v.lists v.text) (grow_record i e _ v.rules)

    grow_listed : (g : ℕ) (v : Sheet) → Stays (listed_rule asked (rule_caps k) i e h c xs g v) (listed_rule asked (rule_caps l) i e h c xs g v)
    unfolding listed_rule
    grow_listed g v =
        stays_next (stays_onto (λ ids. sheet v.rules ids v.text) (grow_entries k l w asked.source xs i g v.lists))
        (λ _ u. grow_with _ _ u)

    grow_rewritten : (v : Sheet) → Stays (rewritten_rule asked (rule_caps k) i e h c v) (rewritten_rule asked (rule_caps l) i e h c v)
    unfolding rewritten_rule
    grow_rewritten v =
        let text = unescaped asked.source asked.options.posix_escapes i c in
        stays_next
        (stays_onto (λ t. sheet v.rules v.lists t)
        (stays_written Areas.Text e (grown_append text_format k.c4 l.c4 w.w4 text v.text)))
        (λ _ u. grow_with _ _ u)

    grow_pattern : (v : Sheet) → Stays (pattern asked (rule_caps k) i e h c xs v) (pattern asked (rule_caps l) i e h c xs v)
    grow_pattern v = by (body_of asked.source i c) refl
      where
        both : {o p x y : Out Sheet} → o ≡ x → p ≡ y → Stays x y → Stays o p
        both {p = p} {x = x} e f q = subst⁻¹ (λ (z : Out Sheet). Stays z p) e (subst⁻¹ (Stays x) f q)

        by : (b : Body) → body_of asked.source i c ≡ b
            → Stays (pattern asked (rule_caps k) i e h c xs v) (pattern asked (rule_caps l) i e h c xs v)
        by Unclosed q =
            both (pattern_is_unclosed asked (rule_caps k) i e h c xs v q) (pattern_is_unclosed asked (rule_caps l) i e h c xs v q)
            (stays_bad InvalidStartState i v)
        by (Listed g) q =
            both (pattern_is_listed asked (rule_caps k) i e h c xs v g q) (pattern_is_listed asked (rule_caps l) i e h c xs v g q)
            (grow_listed g v)
        by Rewritten q =
            both (pattern_is_rewritten asked (rule_caps k) i e h c xs v q) (pattern_is_rewritten asked (rule_caps l) i e h c xs v q)
            (grow_rewritten v)
        by Plain q =
            both (pattern_is_plain asked (rule_caps k) i e h c xs v q) (pattern_is_plain asked (rule_caps l) i e h c xs v q)
            (grow_with _ _ v)

  grow_rule : (i e : ℕ) (x : Result Heading LexError) (r : Ruled) → Stays (rule_as asked xs (rule_caps k) k.c6 i e x r) (rule_as asked xs (rule_caps l) l.c6 i e x r)
  unfolding rule_as
  grow_rule i e (Err error) r = stays_bad (kind_number error.kind) error.at r
  grow_rule i e (Ok (Repeated first again)) r =
      stays_onto (with_faults r) (stays_written Areas.Faults e (grown_repeat k.c6 l.c6 w.w6 DuplicateName first.start first.end again.start again.end r.faults))
  grow_rule i e (Ok (Fresh b h)) r = stays_onto (with_sheet r) (grow_pattern i e h _ (sheet_of r))

  grow_line : (i e : ℕ) (r : Ruled) → Stays (line asked xs (rule_caps k) k.c6 i e r) (line asked xs (rule_caps l) l.c6 i e r)
  unfolding line rule
  grow_line i e r =
      stays_if (at_whitespace asked.source i)
      (stays_onto (with_faults r) (stays_written Areas.Faults e (grown_fault k.c6 l.c6 w.w6 VerbatimNotSupported i e r.faults)))
      (grow_rule i e _ r)

  grow_rules : (i : ℕ) (r : Ruled) → Stays (rules_section asked xs (rule_caps k) k.c6 i r) (rules_section asked xs (rule_caps l) l.c6 i r)
  unfolding rules_section rules next_rule routines
  grow_rules i r =
      stays_next
      (stays_loop _ _ _
      (λ j t.
      let e = line_end asked.source j in
      stays_next (grow_line j e t) (λ p q. stays_go (to_rule asked.source asked.options e) q)) (length asked.source) _ r)
      (λ j t. stays_if (has_routines asked.source j) (stays_bad _ _ t) (stays_go _ t))

-- ---- the file

abbrev SettledAs : Outcome → Outcome → Type 0
SettledAs long_file p = p ≡ long_file
SettledAs unknown_flag p = p ≡ unknown_flag
SettledAs invalid_utf8 p = p ≡ invalid_utf8
SettledAs (area_full name) p = Unit {0}
SettledAs (faulty fs) p = p ≡ faulty fs
SettledAs (accepted c) p = p ≡ accepted c

-- the outcome o is p, unless an area was full
pub record Settled (o p : Outcome) : Type 0 where
  pub kept : SettledAs o p

settled_if : (t : Bool) {x y u v : Outcome} → Settled x u → Settled y v → Settled (cond t x y) (cond t u v)
settled_if true p q = p
settled_if false p q = q

settled_judge : (c : Contents) → Settled (judge c) (judge c)
unfolding judge
settled_judge c = settled_if (eqb (length c.faults) 0) (record { kept = refl }) (record { kept = refl })

settled_closed : (a b : Option (List Fault)) → Grown a b → Settled (closed a) (closed b)
unfolding closed
settled_closed none b h = record { kept = tt }
settled_closed (some fs) b h = record { kept = ap closed h.kept }

settled_ending : {S : Type 0} (faults : S → List Fault) (c d : ℕ) → Roomier fault_format c d → {o p : Out S} {f g : ℕ → S → Outcome} → Stays o p
    → ((i : ℕ) (s : S) → Settled (f i s) (g i s)) → Settled (ending faults c o f) (ending faults d p g)
settled_ending faults c d w {o = go i s} h k = rw h.kept (k i s)
settled_ending faults c d w {o = bad kind at s} h k = rw h.kept (settled_closed _ _ (grown_fault c d w kind at at (faults s)))
settled_ending faults c d w {o = full name} h k = record { kept = tt }

module _ (k l : Caps) (w : Wider k l) (asked : Request) where
  abbrev opened : Caps → Out Declared
  opened caps = opening asked.source asked.options (declaration_caps caps) undeclared

  grow_opening : Stays (opened k) (opened l)
  unfolding opening
  grow_opening =
      stays_next
      (stays_onto (with_states undeclared)
      (stays_written Areas.States 0 (grown_append state_format k.c1 l.c1 w.w1 (state 0 0 0 ∷ []) undeclared.states)))
      (λ i d. grow_declarations k l w asked.source asked.options i d)

  grow_file : Settled (file asked k) (file asked l)
  unfolding file rules_from
  grow_file =
      settled_ending (λ d. d.faults) k.c6 l.c6 w.w6 grow_opening
      (λ i d. settled_ending (λ r. r.faults) k.c6 l.c6 w.w6 (grow_rules k l w asked d.states i (no_rules d))
      (λ j r. settled_judge (contents_of d r)))

  -- an outcome without a full area is the same in larger areas
  pub larger : Settled (outcome asked k) (outcome asked l)
  unfolding outcome
  larger =
      settled_if (ltb 65535 (length asked.source)) (record { kept = refl })
      (settled_if asked.unknown_flags (record { kept = refl }) (settled_if (utf8 asked.source) grow_file (record { kept = refl })))

-- whatever the areas had, an accepted outcome is the file's meaning
pub accepted_meaning : (asked : Request) (k : Caps) (c : Contents) → outcome asked k ≡ accepted c → meaning asked ≡ accepted c
unfolding meaning
accepted_meaning asked k c e = (subst (λ (o : Outcome). Settled o (outcome asked limits)) e (larger k limits (limits_wide k) asked)).kept
