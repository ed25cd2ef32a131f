-- The pattern of a rule and its record: a law for each way through. The record's step on the rules is the outcome for rules, list entries and
-- text together, with the counts that the list or the rewriting left.
use mathlib.Core.Path.{◌≡◌, refl, sym, ap, subst, ◌∙◌}
use mathlib.Core.List.{List}
use Prim.Native.Nat.{ℕ, ◌+◌, ◌-◌, ◌≤◌, ◌<◌}
use native.Mathlib.Omega.{arith}
use borrow.Author.Rules.{rules}
use lib.ListN.{length}
use Rattle.std.specs.Prelude.{Result, Ok, Err}
use Rattle.area.specs.declared.AreaName.TheVariants as Areas
use Rattle.area.specs.declared.State.{State}
use Rattle.area.specs.declared.Rule.{Rule}
use Rattle.area.specs.declared.AreaFull.{AreaFull}
use Rattle.area.specs.Contents.{append, contents, rule_format, entry_format, text_format, Grows, Held}
use Rattle.area.proofs.Contents.{contents-length, rule_sound, entry_sound, text_sound}
use Rattle.fault.specs.declared.Stop.{Stop}
use Rattle.fault.specs.declared.Stop.TheVariants.{Fault, Full}
use Rattle.fault.specs.Kinds.{error_at}
use Rattle.fault.specs.declared.kinds.LexErrorKind.TheVariants as Kind
use Rattle.fault.specs.Step.{Out, bad, next, onto, written, outcome, Does}
use Rattle.fault.specs.Faults.{InvalidStartState}
use Rattle.fault.proofs.Steps.{does_bad, does_full, does_err, does_onto, onto_outcome, was_ok, was_err, holds_ok, holds_err, next_err, onto_err}
use Rattle.fault.proofs.Steps.{written_next, written_full}
use Rattle.section.specs.Request.{Request}
use Rattle.escape.specs.Escape.{unescaped}
use Rattle.rules.specs.declared.Head.{Head}
use Rattle.rules.specs.declared.Body.{Body}
use Rattle.rules.specs.declared.Body.TheVariants.{Unclosed, Listed, Rewritten, Plain}
use Rattle.rules.specs.Heading.{body_of}
use Rattle.rules.proofs.Patterns.{listed_from, listed_to}
use Rattle.rules.specs.Rules.{entries, record_rule}
use Rattle.area.specs.declared.RuleText.{RuleText}
use Rattle.rules_section.specs.declared.pattern.StateList.{StateList}
use Rattle.rules_section.specs.RulesSection.{Sheet, sheet, Caps, rule_of, source_text, text_since, no_list, list_since, with_rule}
use Rattle.rules_section.specs.RulesSection.{listed_rule, rewritten_rule, pattern}
use Rattle.rules_section.specs.declared.SheetCounts.{SheetCounts}
use Rattle.rules_section.specs.Answers.{rules_sheet_in, HeldSheet, sheet_counts, rule_caps_of}

-- ---- what becomes of a pattern, by what it is

module _ (asked : Request) (k : Caps) (i e : ℕ) (h : Head) (c : ℕ) (xs : List State) (w : Sheet) where
  pub pattern_is_unclosed : body_of asked.source i c ≡ Unclosed → pattern asked k i e h c xs w ≡ bad InvalidStartState i w
  unfolding pattern
  pattern_is_unclosed q = rw (q, pattern)

  pub pattern_is_listed : (g : ℕ) → body_of asked.source i c ≡ Listed g → pattern asked k i e h c xs w ≡ listed_rule asked k i e h c xs g w
  unfolding pattern
  pattern_is_listed g q = rw (q, pattern)

  pub pattern_is_rewritten : body_of asked.source i c ≡ Rewritten → pattern asked k i e h c xs w ≡ rewritten_rule asked k i e h c w
  unfolding pattern
  pattern_is_rewritten q = rw (q, pattern)

  pub pattern_is_plain : body_of asked.source i c ≡ Plain → pattern asked k i e h c xs w ≡ with_rule asked k i e h (source_text i c) (no_list w) w
  unfolding pattern
  pattern_is_plain q = rw (q, pattern)

  -- what holds of each outcome holds of the pattern
  pub pattern_cases : (P : Out Sheet → Type 0) → P (bad InvalidStartState i w) → ((g : ℕ) → i ≤ g → g < c → P (listed_rule asked k i e h c xs g w))
      → P (rewritten_rule asked k i e h c w) → P (with_rule asked k i e h (source_text i c) (no_list w) w) → P (pattern asked k i e h c xs w)
  pattern_cases P unclosed listed rewritten plain = by (body_of asked.source i c) refl
    where
      by : (b : Body) → body_of asked.source i c ≡ b → P (pattern asked k i e h c xs w)
      by Unclosed q = subst P (sym (pattern_is_unclosed q)) unclosed
      by (Listed g) q =
          subst P (sym (pattern_is_listed g q))
          (listed g (listed_from asked.source i c (Listed g) (sym q) g refl) (listed_to asked.source i c (Listed g) (sym q) g refl))
      by Rewritten q = subst P (sym (pattern_is_rewritten q)) rewritten
      by Plain q = subst P (sym (pattern_is_plain q)) plain

-- ---- a list of states is closed within the pattern

module _ (s : List ℕ) (i c : ℕ) (b : Body) (is : b ≡ body_of s i c) (g : ℕ) (q : b ≡ Listed g) where
  pub list_to : c ≤ length s → g < length s
  list_to h = omega (arith, listed_to s i c b is g q)

  pub list_closed : g + 1 ≤ c
  list_closed = omega (arith, listed_to s i c b is g q)

-- ---- the ways through a pattern

module _ (asked : Request) (i e : ℕ) (h : Head) (c : ℕ) (xs : List State) (l2 l3 l4 : List ℕ) (q : SheetCounts) (held : HeldSheet l2 l3 l4 q)
    (b : Body) (is : b ≡ body_of asked.source i c) where
  abbrev caps : Caps
  caps = rule_caps_of (length l2) (length l3) (length l4)

  abbrev before : Sheet
  before = rules_sheet_in l2 l3 l4 q

  abbrev Done : List ℕ → List ℕ → List ℕ → Result ℕ Stop → SheetCounts → Type 0
  Done v2 v3 v4 r p = Does (HeldSheet v2 v3 v4) (pattern asked caps i e h c xs) before (rules_sheet_in v2 v3 v4) (outcome r p)

  -- the rule of a text and a list, behind what is written
  abbrev made : RuleText → StateList → Sheet → Out Sheet
  made t l v = with_rule asked caps i e h t l v

  -- on behind the list that is closed at g, and behind the rewritten text
  abbrev after_list : ℕ → Out (List ℕ) → Out Sheet
  after_list g o = next (onto (λ ids. sheet before.rules ids before.text) o) (λ _ v. made (source_text (g + 1) c) (list_since before v) v)

  abbrev after_text : Out (List ℕ) → Out Sheet
  after_text o = next (onto (λ t. sheet before.rules before.lists t) o) (λ _ v. made (text_since before v) (no_list before) v)

  is_listed : (g : ℕ) → b ≡ Listed g → pattern asked caps i e h c xs before ≡ after_list g (entries asked.source (length l3) xs i g before.lists)
  unfolding listed_rule
  is_listed g z = pattern_is_listed asked caps i e h c xs before g (sym is ∙ z)

  is_rewritten_lem : b ≡ Rewritten
      → pattern asked caps i e h c xs before ≡ after_text (written Areas.Text e
      (append text_format (length l4) (unescaped asked.source asked.options.posix_escapes i c) before.text))
  unfolding rewritten_rule
  is_rewritten_lem z = pattern_is_rewritten asked caps i e h c xs before (sym is ∙ z)

  rule_count : length (contents rule_format l2 q.rules) ≡ q.rules
  rule_count = contents-length rule_sound held.rules

  entry_count_lem : length (contents entry_format l3 q.entries) ≡ q.entries
  entry_count_lem = contents-length entry_sound held.entries

  text_count : length (contents text_format l4 q.text) ≡ q.text
  text_count = contents-length text_sound held.text

  pub pattern_unclosed : b ≡ Unclosed → Done l2 l3 l4 (Err (Fault (error_at Kind.InvalidStartState i))) q
  pattern_unclosed z = does_bad (pattern_is_unclosed asked caps i e h c xs before (sym is ∙ z)) held

  -- the record was made, of the rule x
  module _ (x : Rule) {v2 : List ℕ} (r : Result ℕ Stop) (m : ℕ)
      (d : Does (Held rule_format v2) (record_rule asked.verdicts (length l2) i e x) (contents rule_format l2 q.rules) (contents rule_format v2)
      (outcome r m)) where
    recorded : (l3' l4' : List ℕ) (n t : ℕ) → Held entry_format l3' n → Held text_format l4' t
        → pattern asked caps i e h c xs before ≡ onto (λ rs. sheet rs (contents entry_format l3' n) (contents text_format l4' t))
        (record_rule asked.verdicts (length l2) i e x (contents rule_format l2 q.rules))
        → Done v2 l3' l4' r (sheet_counts m n t)
    recorded l3' l4' n t he ht y =
        subst (Does (HeldSheet v2 l3' l4') (pattern asked caps i e h c xs) before (rules_sheet_in v2 l3' l4')) (onto_outcome (λ k. sheet_counts k n t) r m)
        (does_onto (λ rs. sheet rs (contents entry_format l3' n) (contents text_format l4' t)) (λ k. sheet_counts k n t) (rules_sheet_in v2 l3' l4') y (λ k. refl)
        (λ k g. record { rules = g; entries = he; text = ht }) (outcome r m) d)

    module _ (t : RuleText) (l : StateList) (is_rule : x ≡ rule_of h q.rules t l) where
      pub pattern_plain : b ≡ Plain → t ≡ source_text i c → l ≡ record { from = q.entries; count = q.entries - q.entries }
          → Done v2 l3 l4 r (sheet_counts m q.entries q.text)
      unfolding with_rule
      pattern_plain z is_text is_list =
          let none : q.entries - q.entries ≡ 0 = omega arith in
          recorded l3 l4 q.entries q.text held.entries held.text
          (pattern_is_plain asked caps i e h c xs before (sym is ∙ z) ∙ rw (rule_count, entry_count_lem, is_rule, is_text, is_list, none))

      module _ (g : ℕ) (z : b ≡ Listed g) {v3 : List ℕ} (o : Result ℕ Stop) (n : ℕ)
          (listed : Does (Held entry_format v3) (entries asked.source (length l3) xs i g) (contents entry_format l3 q.entries) (contents entry_format v3)
          (outcome o n)) {j : ℕ} (went : o ≡ Ok j) where
        pub pattern_listed : t ≡ source_text (g + 1) c → l ≡ record { from = q.entries; count = n - q.entries } → Done v2 v3 l4 r (sheet_counts m n q.text)
        unfolding with_rule
        pattern_listed is_text is_list =
            let more : length (contents entry_format v3 n) ≡ n = contents-length entry_sound (holds_ok o n listed went) in
            recorded v3 l4 n q.text (holds_ok o n listed went) held.text
            (is_listed g z ∙ ap (after_list g) (was_ok o n listed went) ∙ rw (more, rule_count, entry_count_lem, is_rule, is_text, is_list))

      module _ (z : b ≡ Rewritten) (o : Result ℕ AreaFull) {v4 : List ℕ}
          (grown : Grows text_format (append text_format (length l4) (unescaped asked.source asked.options.posix_escapes i c)) l4 q.text o v4) (n : ℕ) (went : o ≡ Ok n) where
        pub pattern_rewritten : t ≡ record { place = 1; from = q.text; length = n - q.text } → l ≡ record { from = q.entries; count = q.entries - q.entries }
            → Done v2 l3 v4 r (sheet_counts m q.entries n)
        unfolding with_rule
        pattern_rewritten is_text is_list =
            let more : length (contents text_format v4 n) ≡ n = contents-length text_sound (grown.held n went) in
            let none : q.entries - q.entries ≡ 0 = omega arith in
            recorded l3 v4 q.entries n held.entries (grown.held n went)
            (is_rewritten_lem z ∙ ap after_text (written_next text_format Areas.Text e _ v4 o grown.says went)
            ∙ rw (more, rule_count, entry_count_lem, text_count, is_rule, is_text, is_list, none))

  pub pattern_list_err : (g : ℕ) → b ≡ Listed g → {v3 : List ℕ} (o : Result ℕ Stop) (n : ℕ)
      → Does (Held entry_format v3) (entries asked.source (length l3) xs i g) (contents entry_format l3 q.entries) (contents entry_format v3) (outcome o n)
      → (y : Stop) → o ≡ Err y → Done l2 v3 l4 (Err y) (sheet_counts q.rules n q.text)
  pattern_list_err g z {v3} o n listed y ended =
      let ids = contents entry_format v3 n in
      let lift : List ℕ → Sheet = λ ids. sheet before.rules ids before.text in
      let on : ℕ → Sheet → Out Sheet = λ _ v. made (source_text (g + 1) c) (list_since before v) v in
      does_err y _
      (is_listed g z ∙ ap (after_list g) (was_err o n listed y ended) ∙ ap (λ (x : Out Sheet). next x on) (onto_err lift y ids) ∙ next_err y (lift ids) on)
      (λ f. record { rules = held.rules; entries = holds_err o n listed y ended f; text = held.text })

  pub pattern_text_full : b ≡ Rewritten → {v4 : List ℕ} (o : Result ℕ AreaFull)
      → Grows text_format (append text_format (length l4) (unescaped asked.source asked.options.posix_escapes i c)) l4 q.text o v4
      → (p : SheetCounts) {full : AreaFull} → o ≡ Err full → Done l2 l3 v4 (Err (Full full.0)) p
  pattern_text_full z {v4} o grown p {full} y =
      rw (grown.names full y) (does_full (is_rewritten_lem z ∙ ap after_text (written_full text_format Areas.Text e _ v4 o grown.says y)))

pub ruleset patterning = (rules, listed_from, list_to, list_closed, pattern_unclosed)
