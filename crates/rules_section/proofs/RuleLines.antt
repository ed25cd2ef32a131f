-- A line of the rules section, and the loop over the lines: a law for each way through, as for the declarations.
use mathlib.Core.Path.{◌≡◌, refl, sym, ap, subst, ◌∙◌}
use mathlib.Core.Bool.{Bool, true, false}
use mathlib.Core.List.{List}
use mathlib.Core.Option as Math
use Prim.Native.Nat.{ℕ, ◌-◌, ◌≤◌, ◌<◌}
use native.Mathlib.Omega.{arith}
use borrow.Author.Rules.{rules as usual}
use lib.ListN.{length, take}
use Rattle.std.specs.Prelude.{Result, Ok, Err}
use Rattle.characters.specs.Walk.{Between}
use Rattle.characters.specs.Whitespace.{at_whitespace, line_end_len}
use Rattle.text.specs.Scan.{line_end, trim_end, trim_end_unescaped}
use Rattle.area.specs.declared.AreaName.TheVariants as Areas
use Rattle.area.specs.declared.State.{State}
use Rattle.area.specs.declared.Rule.{Rule}
use Rattle.area.specs.declared.Fault.{Fault as FaultSpan}
use Rattle.area.specs.declared.AreaFull.{AreaFull}
use Rattle.area.specs.Contents.{contents, fault_format, rule_format, Held}
use Rattle.area.proofs.Lent.{same_area, same_area_on}
use Rattle.fault.specs.declared.Span.{Span}
use Rattle.fault.specs.declared.Stop.{Stop}
use Rattle.fault.specs.declared.Stop.TheVariants.{Fault, Full}
use Rattle.fault.specs.Kinds.{error_at}
use Rattle.fault.specs.declared.kinds.LexErrorKind.TheVariants as Kind
use Rattle.fault.specs.Step.{Out, go, next, onto, written, outcome, Does}
use Rattle.fault.specs.Faults.{add_fault, add_repeat, DuplicateName, VerbatimNotSupported, GrowsFaults}
use Rattle.fault.proofs.Steps.{Loops, loops_stop, loops_next, loops_err, going_start, does_go, does_bad, does_full, does_err, does_onto, onto_outcome}
use Rattle.fault.proofs.Steps.{holds_ok, holds_err, written_next, written_full, then_ok, then_err, next_err}
use Rattle.names.specs.Names.{DistinctNames}
use Rattle.names.specs.Marks.{Marked, NamesInside, NamesHeld}
use Rattle.section.specs.Request.{Request}
use Rattle.section.specs.Section.{in_section, to_rule, has_routines}
use Rattle.section.specs.Reader.{NextLine}
use Rattle.section.specs.declared.reader.Line.{Line}
use Rattle.section.proofs.Lines.{in_section_inside, line_has_byte, rule_starts}
use Rattle.fault.specs.declared.kinds.LexError.{LexError}
use Rattle.rules.specs.declared.Head.{Head}
use Rattle.rules.specs.declared.Heading.{Heading}
use Rattle.rules.specs.declared.Heading.TheVariants.{Repeated, Fresh}
use Rattle.rules.specs.Heading.{heading_of}
use Rattle.rules.proofs.Heads.{fresh_from, fresh_to}
use Rattle.rules_section.specs.RulesSection.{Ruled, Caps, with_sheet, with_faults, pattern, rule_as, rule, line, next_rule, rules, routines, rules_section}
use Rattle.rules_section.specs.declared.RuleCounts.{RuleCounts}
use Rattle.rules_section.specs.Answers.{rules_sheet_in, HeldSheet, ruled_in, HeldRuled, rule_counts, rule_caps_of}
use Rattle.rules_section.specs.declared.areas.RuleAreas.{RuleAreas}
use Rattle.rules_section.specs.Areas.{SameAreas, caps_in, rules_in, ruled_held_in, RuledHeld}
use Rattle.rules_section.proofs.Extending.{rules_kept, names_kept, inside_kept}

-- ---- a rule

-- a step whose outcome is that the faults grow by g
module _ (f : Ruled → Out Ruled) (g : List FaultSpan → Math.Option (List FaultSpan)) {l2 l3 l4 l6 v6 : List ℕ} {q : RuleCounts} (h : HeldRuled l2 l3 l4 l6 q)
    (e : ℕ) (p : Result ℕ AreaFull)
    (is : f (ruled_in l2 l3 l4 l6 q) ≡ onto (with_faults (ruled_in l2 l3 l4 l6 q)) (written Areas.Faults e (g (contents fault_format l6 q.faults))))
    (d : GrowsFaults g l6 q.faults p v6) where
  abbrev Grown : Result ℕ Stop → RuleCounts → Type 0
  Grown r n = Does (HeldRuled l2 l3 l4 v6) f (ruled_in l2 l3 l4 l6 q) (ruled_in l2 l3 l4 v6) (outcome r n)

  faults_grown : {m : ℕ} → p ≡ Ok m → Grown (Ok e) (rule_counts q.sheet m)
  faults_grown {m} z =
      does_go (is ∙ ap (onto (with_faults (ruled_in l2 l3 l4 l6 q))) (written_next fault_format Areas.Faults e _ v6 p d.says z))
      (record { sheet = h.sheet; faults = d.held m z })

  faults_full : (n : RuleCounts) {full : AreaFull} → p ≡ Err full → Grown (Err (Full full.0)) n
  faults_full n {full} z =
      rw (d.names full z) (does_full (is ∙ ap (onto (with_faults (ruled_in l2 l3 l4 l6 q))) (written_full fault_format Areas.Faults e _ v6 p d.says z)))

pub fresh_inside : (s : List ℕ) (i e t : ℕ) (xs : List State) (rs : List Rule) → Between i e (trim_end s i e) t → (x : Result Heading LexError)
    → x ≡ heading_of s i t xs rs → {z : Heading} → x ≡ Ok z → (k : ℕ) (h : Head) → z ≡ Fresh k h → e ≤ length s → k ≤ length s
fresh_inside s i e t xs rs b x is was k h y l = omega (arith, fresh_to s i t xs rs x is was k h y, b.to)

module _ (asked : Request) (xs : List State) (i e : ℕ) (l2 l3 l4 l6 : List ℕ) (q : RuleCounts) (h : HeldRuled l2 l3 l4 l6 q) where
  abbrev caps : Caps
  caps = rule_caps_of (length l2) (length l3) (length l4)

  abbrev before : Ruled
  before = ruled_in l2 l3 l4 l6 q

  -- the heading is read among the rules that area 2 holds, as they were lent
  module _ (t : ℕ) (b : Between i e (trim_end asked.source i e) t) (x : Result Heading LexError) (lent named : List Rule)
      (held : lent ≡ contents rule_format l2 q.sheet.rules) (same : named ≡ lent) (is : x ≡ heading_of asked.source i t xs named) where
    abbrev Done : List ℕ → List ℕ → List ℕ → List ℕ → Result ℕ Stop → RuleCounts → Type 0
    Done v2 v3 v4 v6 r p = Does (HeldRuled v2 v3 v4 v6) (rule asked xs caps (length l6) i e) before (ruled_in v2 v3 v4 v6) (outcome r p)

    read : x ≡ heading_of asked.source i t xs (contents rule_format l2 q.sheet.rules)
    read = is ∙ ap (heading_of asked.source i t xs) (same ∙ held)

    step : (y : Result Heading LexError) → x ≡ y → rule asked xs caps (length l6) i e before ≡ rule_as asked xs caps (length l6) i e y before
    unfolding rule
    step y z = rw (← b.is) (ap (λ (k : Result Heading LexError). rule_as asked xs caps (length l6) i e k before) (sym read ∙ z))

    pub rule_wrong : (error : LexError) → x ≡ Err error → Done l2 l3 l4 l6 (Err (Fault error)) q
    unfolding rule_as
    rule_wrong error z = does_bad (step (Err error) z) h

    module _ {heading : Heading} (was : x ≡ Ok heading) where
      module _ (first again : Span) (z : heading ≡ Repeated first again) (p : Result ℕ AreaFull) {v6 : List ℕ}
          (g : GrowsFaults (add_repeat (length l6) DuplicateName first.start first.end again.start again.end) l6 q.faults p v6) where
        repeats : rule asked xs caps (length l6) i e before
            ≡ onto (with_faults before)
            (written Areas.Faults e (add_repeat (length l6) DuplicateName first.start first.end again.start again.end (contents fault_format l6 q.faults)))
        unfolding rule_as
        repeats = step (Ok (Repeated first again)) (was ∙ ap Ok z)

        pub rule_repeated : {m : ℕ} → p ≡ Ok m → Done l2 l3 l4 v6 (Ok e) (rule_counts q.sheet m)
        rule_repeated y = faults_grown (rule asked xs caps (length l6) i e) (add_repeat (length l6) DuplicateName first.start first.end again.start again.end) h e p repeats g y

        pub rule_no_room : (n : RuleCounts) {full : AreaFull} → p ≡ Err full → Done l2 l3 l4 v6 (Err (Full full.0)) n
        rule_no_room n y = faults_full (rule asked xs caps (length l6) i e) (add_repeat (length l6) DuplicateName first.start first.end again.start again.end) h e p repeats g n y

      module _ (k : ℕ) (hd : Head) (z : heading ≡ Fresh k hd) (c : ℕ) (m : Between i (length asked.source) (trim_end_unescaped asked.source i k) c)
          {v2 v3 v4 v6 : List ℕ} (r : Result ℕ Stop) (p : RuleCounts) (bytes : v6 ≡ l6) (count : p.faults ≡ q.faults)
          (d : Does (HeldSheet v2 v3 v4) (pattern asked caps i e hd c xs) (rules_sheet_in l2 l3 l4 q.sheet) (rules_sheet_in v2 v3 v4) (outcome r p.sheet)) where
        fresh : Done v2 v3 v4 l6 r (rule_counts p.sheet q.faults)
        unfolding rule_as
        fresh =
            subst (Does (HeldRuled v2 v3 v4 l6) (rule asked xs caps (length l6) i e) before (ruled_in v2 v3 v4 l6))
            (onto_outcome (λ n. rule_counts n q.faults) r p.sheet)
            (does_onto (with_sheet before) (λ n. rule_counts n q.faults) (ruled_in v2 v3 v4 l6)
            (step (Ok (Fresh k hd)) (was ∙ ap Ok z) ∙ rw (← m.is))
            (λ n. refl) (λ n g. record { sheet = g; faults = h.faults }) (outcome r p.sheet) d)

        pub rule_fresh : Done v2 v3 v4 v6 r p
        rule_fresh =
            subst (λ (n : ℕ). Done v2 v3 v4 v6 r (rule_counts p.sheet n)) (sym count)
            (subst (λ (y : List ℕ). Done v2 v3 v4 y r (rule_counts p.sheet q.faults)) (sym bytes) fresh)

  -- ---- a line

  module _ (t : Bool) (is : t ≡ at_whitespace asked.source i) where
    abbrev Lined : List ℕ → List ℕ → List ℕ → List ℕ → Result ℕ Stop → RuleCounts → Type 0
    Lined v2 v3 v4 v6 r p = Does (HeldRuled v2 v3 v4 v6) (line asked xs caps (length l6) i e) before (ruled_in v2 v3 v4 v6) (outcome r p)

    module _ (z : t ≡ true) (p : Result ℕ AreaFull) {v6 : List ℕ} (g : GrowsFaults (add_fault (length l6) VerbatimNotSupported i e) l6 q.faults p v6) where
      verbatim : line asked xs caps (length l6) i e before
          ≡ onto (with_faults before) (written Areas.Faults e (add_fault (length l6) VerbatimNotSupported i e (contents fault_format l6 q.faults)))
      unfolding line
      verbatim = rw (← is, z)

      pub line_verbatim : {m : ℕ} → p ≡ Ok m → Lined l2 l3 l4 v6 (Ok e) (rule_counts q.sheet m)
      line_verbatim y = faults_grown (line asked xs caps (length l6) i e) (add_fault (length l6) VerbatimNotSupported i e) h e p verbatim g y

      pub line_no_room : (n : RuleCounts) {full : AreaFull} → p ≡ Err full → Lined l2 l3 l4 v6 (Err (Full full.0)) n
      line_no_room n y = faults_full (line asked xs caps (length l6) i e) (add_fault (length l6) VerbatimNotSupported i e) h e p verbatim g n y

    pub line_rule : t ≡ false → {v2 v3 v4 v6 : List ℕ} {o : Out RuleCounts}
        → Does (HeldRuled v2 v3 v4 v6) (rule asked xs caps (length l6) i e) before (ruled_in v2 v3 v4 v6) o
        → Does (HeldRuled v2 v3 v4 v6) (line asked xs caps (length l6) i e) before (ruled_in v2 v3 v4 v6) o
    unfolding line
    line_rule z d = record { says = rw (← is, z) d.says; goes = d.goes; ends = d.ends }

pub ruleset ruling = (usual, fresh_from, fresh_inside)

pub ruleset lining = (usual, line_rule)

-- ---- the loop over the lines

same_areas : (a : RuleAreas) → SameAreas a a
same_areas a = record { rules = same_area a.rules; entries = same_area a.entries; text = same_area a.text; faults = same_area a.faults }

same_areas_on : {a b c : RuleAreas} → SameAreas a b → SameAreas b c → SameAreas a c
same_areas_on x y = record {
  rules = same_area_on x.rules y.rules;
  entries = same_area_on x.entries y.entries;
  text = same_area_on x.text y.text;
  faults = same_area_on x.faults y.faults;
}

-- the sizes of areas 2, 3, 4 and 6
record Sizes : Type 0 where
  caps : Caps
  six : ℕ

abbrev sizes : List ℕ → List ℕ → List ℕ → List ℕ → Sizes
sizes l2 l3 l4 l6 = record { caps = rule_caps_of (length l2) (length l3) (length l4); six = length l6 }

abbrev body : Request → List State → Sizes → ℕ → Ruled → Out Ruled
body asked xs c i r = next_rule asked xs c.caps c.six i r

abbrev sizes_in : RuleAreas → Sizes
sizes_in a = sizes a.rules.now a.entries.now a.text.now a.faults.now

-- the loop has come to the line x, at whose start no line end stands, and what a search may use of the rules so far holds
pub record Rules (whole : Out Ruled) (asked : Request) (xs : List State) (start : RuleAreas) (x : Line) (a : RuleAreas) (marks : List Bool) : Type 0 where
  pub held : RuledHeld a
  pub names : NamesHeld asked.source (rules_in a) marks
  pub within : x.start ≤ length asked.source
  pub ends : Between x.start (length asked.source) (line_end asked.source x.start) x.end
  pub starts : line_end_len asked.source x.start ≡ 0
  pub same : SameAreas start a
  pub loops : Loops whole (in_section asked.source) (body asked xs) (length asked.source) (sizes_in start) (sizes_in a) x.start (ruled_held_in a)

pub rules_start : (asked : Request) (xs : List State) (i : ℕ) (x : Line) (a : RuleAreas) → RuledHeld a
    → NextLine asked.source (to_rule asked.source asked.options) i x
    → (marks : List Bool) → Marked asked.source (rules_in a) marks → DistinctNames asked.source (rules_in a)
    → NamesInside asked.source (rules_in a)
    → Rules (rules asked xs (caps_in a) (length a.faults.now) i (ruled_held_in a)) asked xs a x a marks
unfolding rules
rules_start asked xs i x a h b marks m d n = record {
  held = h;
  names = record { marked = m; inside = n; distinct = d };
  within = b.starts.to;
  ends = b.ends;
  starts = rw b.starts.is (rule_starts asked.source asked.options i);
  same = same_areas a;
  loops = record {
    going = rw (← b.starts.is)
        (going_start (in_section asked.source) (next_rule asked xs (caps_in a) (length a.faults.now)) (length asked.source)
        x.start (ruled_held_in a) (length asked.source) (omega arith));
    same = refl;
  };
}

module _ {whole : Out Ruled} {asked : Request} {xs : List State} {start : RuleAreas} {here : Line} (a : RuleAreas) {marks : List Bool}
    (x : Rules whole asked xs start here a marks) (t : Bool) (tested : t ≡ in_section asked.source here.start) (pass : t ≡ true)
    (v : RuleAreas) (r : Result ℕ Stop)
    (d : Does (HeldRuled v.rules.now v.entries.now v.text.now v.faults.now) (line asked xs (caps_in a) (length a.faults.now) here.start here.end)
    (ruled_held_in a) (ruled_in v.rules.now v.entries.now v.text.now v.faults.now) (outcome r v.counts)) where
  abbrev i : ℕ
  i = here.start

  abbrev e : ℕ
  e = here.end

  inside : i < length asked.source
  inside = in_section_inside asked.source i t tested pass x.within

  is_next : body asked xs (sizes_in a) i (ruled_held_in a)
      ≡ next (line asked xs (caps_in a) (length a.faults.now) i e (ruled_held_in a))
      (λ _ y. go (to_rule asked.source asked.options e) y)
  unfolding next_rule
  is_next = rw (← x.ends.is)

  module _ {j : ℕ} (z : r ≡ Ok j) where
    module _ (y : Line) (c : NextLine asked.source (to_rule asked.source asked.options) e y) where
      went : Does (HeldRuled v.rules.now v.entries.now v.text.now v.faults.now) (body asked xs (sizes_in a) i) (ruled_held_in a)
          (ruled_in v.rules.now v.entries.now v.text.now v.faults.now) (go y.start v.counts)
      went = rw c.starts.is (then_ok (λ _. to_rule asked.source asked.options e) is_next r v.counts d z)

      forward : i < y.start
      forward = omega (arith, line_has_byte asked.source i inside x.starts, x.ends.is, c.starts.from)

      pub rules_less : length asked.source - y.start < length asked.source - i
      rules_less = omega (arith, forward, c.starts.to)

      pub rules_next : SameAreas a v → (marks' : List Bool) → Marked asked.source (rules_in v) marks' → Rules whole asked xs start y v marks'
      rules_next s marks' m = record {
        held = holds_ok r v.counts d z;
        names = record {
          marked = m;
          inside = inside_kept asked xs (caps_in a) (length a.faults.now) i e x.held r v.counts d z (x.ends.from, x.ends.to) x.names.inside;
          distinct = names_kept asked xs (caps_in a) (length a.faults.now) i e x.held r v.counts d z x.names.distinct;
        };
        within = c.starts.to;
        ends = c.ends;
        starts = rw c.starts.is (rule_starts asked.source asked.options e);
        same = same_areas_on x.same s;
        loops =
            loops_next x.loops (sym tested ∙ pass) inside went (sizes_in v) refl forward
            (λ i. record { caps = record { c2 = s.rules.long i; c3 = s.entries.long i; c4 = s.text.long i }; six = s.faults.long i });
      }

    pub rules_read : Held rule_format v.rules.now v.counts.sheet.rules
    rules_read = (holds_ok r v.counts d z).sheet.rules

    -- the marks are those of the first rules after the line
    pub rules_marked : Marked asked.source (take a.counts.sheet.rules (rules_in v)) marks
    rules_marked =
        subst (λ (ys : List Rule). Marked asked.source ys marks)
        (sym (rules_kept asked xs (caps_in a) (length a.faults.now) i e x.held r v.counts d z)) x.names.marked

  whole_err : (y : Stop) → r ≡ Err y → whole ≡ outcome (Err y) (ruled_held_in v)
  whole_err y z =
      loops_err x.loops (sym tested ∙ pass) inside (Err y) v.counts (then_err (λ _. to_rule asked.source asked.options e) is_next r v.counts d y z) y refl

-- the section as a whole began at i₀ with the state r₀
module _ (asked : Request) (xs : List State) (k : Caps) (c6 i₀ : ℕ) (r₀ : Ruled) {start : RuleAreas} {here : Line} (a : RuleAreas) {marks : List Bool}
    (x : Rules (rules asked xs k c6 i₀ r₀) asked xs start here a marks) (t : Bool)
    (tested : t ≡ in_section asked.source here.start) where
  abbrev Ended : RuleAreas → Result ℕ Stop → Type 0
  Ended v r =
      Does (HeldRuled v.rules.now v.entries.now v.text.now v.faults.now) (rules_section asked xs k c6 i₀) r₀
      (ruled_in v.rules.now v.entries.now v.text.now v.faults.now) (outcome r v.counts)

  module _ (stop : t ≡ false) (m : Bool) (is : m ≡ has_routines asked.source here.start) where
    at_end : rules_section asked xs k c6 i₀ r₀ ≡ routines asked.source here.start (ruled_held_in a)
    unfolding rules_section
    at_end = ap (λ (o : Out Ruled). next o (routines asked.source)) (loops_stop x.loops (sym tested ∙ stop))

    pub rules_end : m ≡ false → Ended a (Ok here.start)
    unfolding routines
    rules_end z = does_go (at_end ∙ rw (← is, z)) x.held

    pub rules_routines : m ≡ true → Ended a (Err (Fault (error_at Kind.RoutinesNotSupported here.start)))
    unfolding routines
    rules_routines z = does_bad (at_end ∙ rw (← is, z)) x.held

  pub rules_err : (pass : t ≡ true) (v : RuleAreas) (r : Result ℕ Stop)
      (d : Does (HeldRuled v.rules.now v.entries.now v.text.now v.faults.now) (line asked xs (caps_in a) (length a.faults.now) here.start here.end)
      (ruled_held_in a) (ruled_in v.rules.now v.entries.now v.text.now v.faults.now) (outcome r v.counts)) (y : Stop) → r ≡ Err y → Ended v (Err y)
  unfolding rules_section
  rules_err pass v r d y z =
      does_err y _
      (ap (λ (o : Out Ruled). next o (routines asked.source)) (whole_err a x t tested pass v r d y z) ∙ next_err y (ruled_held_in v) (routines asked.source))
      (holds_err r v.counts d y z)

pub ruleset sectioning = (usual, rules_start, rules_end)
