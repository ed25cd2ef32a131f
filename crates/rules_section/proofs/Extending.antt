-- What a line makes of the rules before it: where a step goes on, they stand first among the rules then. Only the record of a rule adds to them, by
-- an append, and its name is one that no rule has and ends inside the source: so names stay distinct, and inside.
use mathlib.Core.Path.{◌≡◌, refl, sym, ap, subst, subst⁻¹, ◌∙◌}
use mathlib.Core.List.{List, [], ◌∷◌, ◌++◌}
use mathlib.Core.Option.{Option, none, some}
use Prim.Native.Nat.{ℕ, ◌+◌, ◌≤◌}
use native.Mathlib.Omega.{arith}
use lib.ListN.{length, take}
use Rattle.std.proofs.lemmas.Bool.{cond_both}
use Rattle.std.specs.Prelude.{Result, Ok, Err}
use lib.Seq.{take-length, take-append_seam}
use Rattle.characters.specs.Whitespace.{at_whitespace}
use Rattle.characters.proofs.Walks.{first_to}
use Rattle.text.specs.Scan.{trim_end, trim_end_unescaped}
use Rattle.area.specs.declared.AreaName.TheVariants as Areas
use Rattle.area.specs.declared.State.{State}
use Rattle.area.specs.declared.Rule.{Rule}
use Rattle.area.specs.declared.Fault.{Fault}
use Rattle.area.specs.Areas.{room}
use Rattle.area.specs.Contents.{append, contents, rule_format, text_format}
use Rattle.area.proofs.Contents.{rule_sound, contents-length}
use Rattle.area.proofs.Elements.{each_snoc}
use Rattle.fault.specs.declared.Stop.{Stop}
use Rattle.fault.specs.Step.{Out, go, bad, full, next, onto, written, outcome, Does}
use Rattle.fault.specs.Faults.{add_fault, add_repeat, DuplicateName, RegexError, VerbatimNotSupported}
use Rattle.fault.proofs.Steps.{was_ok}
use Rattle.fault.proofs.Yielding.{Yields, yields_onto}
use Rattle.names.specs.Names.{DistinctNames}
use Rattle.names.specs.Marks.{EndsInside, NamesInside}
use Rattle.names.proofs.Distinct.{Unused, distinct_more}
use Rattle.section.specs.Request.{Request}
use Rattle.escape.specs.Escape.{unescaped}
use Rattle.rules.specs.declared.Head.{Head}
use Rattle.rules.specs.declared.Heading.{Heading}
use Rattle.rules.specs.declared.Heading.TheVariants.{Repeated, Fresh}
use Rattle.fault.specs.declared.kinds.LexError.{LexError}
use Rattle.rules.specs.Heading.{heading_of, named_field, name_fields}
use Rattle.rules.specs.Rules.{entries, refuses, record_rule}
use Rattle.area.specs.declared.RuleText.{RuleText}
use Rattle.rules_section.specs.declared.pattern.StateList.{StateList}
use Rattle.rules_section.specs.RulesSection.{Sheet, Caps, sheet, rule_of, source_text, text_since, no_list, list_since, with_rule}
use Rattle.rules_section.specs.RulesSection.{listed_rule, rewritten_rule, pattern, Ruled, sheet_of, with_sheet, with_faults, rule_as, rule, line}
use Rattle.rules_section.proofs.Patterns.{pattern_cases}
use Rattle.rules.proofs.Heads.{fresh_unused, fresh_name_inside}
use Rattle.rules_section.specs.declared.RuleCounts.{RuleCounts}
use Rattle.rules_section.specs.Answers.{ruled_in, HeldRuled}

-- what a line makes of the rules xs: the same rules, or one more, whose name none of them has and ends inside the source, if the line does (B)
pub data Extends (s : List ℕ) (B : Type 0) (xs ys : List Rule) : Type 0 where
  same : ys ≡ xs → Extends s B xs ys
  more : (x : Rule) → Unused s xs x.named x.name_from x.name_length → (B → EndsInside s x) → ys ≡ xs ++ (x ∷ []) → Extends s B xs ys

-- so what holds of the rules before it, and of them with such a rule behind them, holds of the rules after it
extends_keeps : {s : List ℕ} {B : Type 0} {xs ys : List Rule} (P : List Rule → Type 0) → P xs
    → ((x : Rule) → Unused s xs x.named x.name_from x.name_length → (B → EndsInside s x) → P (xs ++ (x ∷ []))) → Extends s B xs ys → P ys
extends_keeps P h f (same q) = subst⁻¹ P q h
extends_keeps P h f (more x u n q) = subst⁻¹ P q (f x u n)

-- where the step goes on, the rules in its state extend the rules xs
abbrev YieldsExtended : {S : Type 0} → List ℕ → Type 0 → List Rule → (S → List Rule) → Out S → Type 0
YieldsExtended s B xs rules o = Yields (λ _ t. Extends s B xs (rules t)) o

-- the line from i to e lies inside the source
abbrev pub Inside : List ℕ → ℕ → ℕ → Type 0
Inside s i e = (i ≤ e) × (e ≤ length s)

-- ---- the record

module _ (asked : Request) (k : Caps) (i e : ℕ) (h : Head) (w : Sheet)
    (unused : Unused asked.source w.rules (named_field h.name) (name_fields h.name).from (name_fields h.name).length)
    {B : Type 0} (inside : B → (name_fields h.name).from + (name_fields h.name).length ≤ length asked.source) where
  abbrev Sheets : Out Sheet → Type 0
  Sheets o = YieldsExtended asked.source B w.rules (λ v. v.rules) o

  -- the record of a rule with this head, whatever the list entries and the text
  with_extends : (t : RuleText) (l : StateList) (ids text : List ℕ) → Sheets (with_rule asked k i e h t l (sheet w.rules ids text))
  unfolding with_rule record_rule append
  with_extends t l ids text =
      let rs = w.rules in
      let x = rule_of h (length rs) t l in
      let made : Out (List Rule) → Out Sheet = onto (λ ys. sheet ys ids text) in
      cond_both (refuses asked.verdicts (length rs)) (bad RegexError i rs) (written Areas.Rules e (append rule_format k.c2 (x ∷ []) rs)) (λ o. Sheets (made o))
      (λ _. tt)
      (λ _. cond_both (room rule_format.width rule_format.most k.c2 (length rs) 1) (some (rs ++ (x ∷ []))) none (λ o. Sheets (made (written Areas.Rules e o)))
      (λ _. more x unused inside refl) (λ _. tt))

  -- the rule follows a step that writes list entries, or text
  list_extends : (o : Out (List ℕ)) (t : RuleText) (l : Sheet → StateList)
      → Sheets (next (onto (λ ids. sheet w.rules ids w.text) o) (λ _ v. with_rule asked k i e h t (l v) v))
  list_extends (go j ids) t l = with_extends t (l (sheet w.rules ids w.text)) ids w.text
  list_extends (bad kind at ids) t l = tt
  list_extends (full n) t l = tt

  text_extends : (o : Out (List ℕ)) (t : Sheet → RuleText) (l : StateList)
      → Sheets (next (onto (λ u. sheet w.rules w.lists u) o) (λ _ v. with_rule asked k i e h (t v) l v))
  text_extends (go j u) t l = with_extends (t (sheet w.rules w.lists u)) l w.lists u
  text_extends (bad kind at u) t l = tt
  text_extends (full n) t l = tt

  pattern_extends : (c : ℕ) (xs : List State) → Sheets (pattern asked k i e h c xs w)
  unfolding listed_rule rewritten_rule
  pattern_extends c xs =
      pattern_cases asked k i e h c xs w Sheets tt
      (λ g _ _. list_extends (entries asked.source k.c3 xs i g w.lists) (source_text (g + 1) c) (list_since w))
      (text_extends (written Areas.Text e (append text_format k.c4 (unescaped asked.source asked.options.posix_escapes i c) w.text)) (text_since w) (no_list w))
      (with_extends (source_text i c) (no_list w) w.lists w.text)

-- ---- a line

module _ (asked : Request) (xs : List State) (k : Caps) (c6 i e : ℕ) (r : Ruled) where
  abbrev Lines : Out Ruled → Type 0
  Lines o = YieldsExtended asked.source (Inside asked.source i e) r.rules (λ t. t.rules) o

  -- a step that writes faults only
  faults_extend : (o : Option (List Fault)) → Lines (onto (with_faults r) (written Areas.Faults e o))
  faults_extend none = tt
  faults_extend (some fs) = same refl

  as_extends : (x : Result Heading LexError) → heading_of asked.source i (trim_end asked.source i e) xs r.rules ≡ x → Lines (rule_as asked xs k c6 i e x r)
  unfolding rule_as trim_end
  as_extends (Err error) q = tt
  as_extends (Ok (Repeated first again)) q = faults_extend (add_repeat c6 DuplicateName first.start first.end again.start again.end r.faults)
  as_extends (Ok (Fresh b h)) q =
      let s = asked.source in
      let t = trim_end s i e in
      let unused = fresh_unused s i t xs r.rules b h q in
      let trimmed : i ≤ e → t ≤ e = first_to _ i e in
      let inside : Inside s i e → (name_fields h.name).from + (name_fields h.name).length ≤ length s =
      λ line. fresh_name_inside s i t xs r.rules (omega (arith, line.1, trimmed line.0)) b h q in
      let c = trim_end_unescaped s i b in
      yields_onto (λ _ w. Extends s (Inside s i e) r.rules w.rules) (λ _ t. Extends s (Inside s i e) r.rules t.rules) (with_sheet r) (pattern asked k i e h c xs (sheet_of r))
      (pattern_extends asked k i e h (sheet_of r) unused inside c xs) (λ _ _ x. x)

  line_extends : Lines (line asked xs k c6 i e r)
  unfolding line rule
  line_extends =
      cond_both (at_whitespace asked.source i) (onto (with_faults r) (written Areas.Faults e (add_fault c6 VerbatimNotSupported i e r.faults))) (rule asked xs k c6 i e r) Lines
      (λ _. faults_extend (add_fault c6 VerbatimNotSupported i e r.faults))
      (λ _. as_extends (heading_of asked.source i (trim_end asked.source i e) xs r.rules) refl)

-- ---- the areas before and after a line that goes on

module _ (asked : Request) (xs : List State) (k : Caps) (c6 i e : ℕ)
    {l2 l3 l4 l6 v2 v3 v4 v6 : List ℕ} {q : RuleCounts} (h : HeldRuled l2 l3 l4 l6 q)
    (r : Result ℕ Stop) (p : RuleCounts)
    (d : Does (HeldRuled v2 v3 v4 v6) (line asked xs k c6 i e) (ruled_in l2 l3 l4 l6 q) (ruled_in v2 v3 v4 v6) (outcome r p)) {j : ℕ} (z : r ≡ Ok j) where
  abbrev before : List Rule
  before = contents rule_format l2 q.sheet.rules

  abbrev after : List Rule
  after = contents rule_format v2 p.sheet.rules

  extended : Extends asked.source (Inside asked.source i e) before after
  extended =
      let ruled = ruled_in l2 l3 l4 l6 q in
      subst (Lines asked xs k c6 i e ruled) (was_ok r p d z) (line_extends asked xs k c6 i e ruled)

  -- the rules that were there before it are the first ones
  pub rules_kept : take q.sheet.rules after ≡ before
  rules_kept =
      ap (λ (n : ℕ). take n after) (sym (contents-length rule_sound h.sheet.rules))
      ∙ extends_keeps (λ (ys : List Rule). take (length before) ys ≡ before) (take-length before) (λ x _ _. take-append_seam before (x ∷ [])) extended

  -- distinct names stay distinct
  pub names_kept : DistinctNames asked.source before → DistinctNames asked.source after
  names_kept d = extends_keeps (DistinctNames asked.source) d (λ x u _. distinct_more asked.source before x d u) extended

  -- and names stay inside the source, where the line lies in it
  pub inside_kept : Inside asked.source i e → NamesInside asked.source before → NamesInside asked.source after
  inside_kept line names =
      extends_keeps (NamesInside asked.source) names
      (λ x _ n. each_snoc (λ _ y. EndsInside asked.source y) rule_format.blank before x names (n line)) extended
