-- What the rules section writes (01, Rules). The states are those of the declarations.
use Rattle.std.specs.Prelude.{Result, Ok, Err, ℕ, ◌+◌, ◌-◌, cond, List, length}
use Rattle.characters.specs.Whitespace.{at_whitespace}
use Rattle.text.specs.Scan.{line_end, trim_end, trim_end_unescaped}
use Rattle.area.specs.declared.AreaName.TheVariants as Areas
use Rattle.area.specs.declared.State.{State}
use Rattle.area.specs.declared.Rule.{Rule}
use Rattle.area.specs.declared.Fault.{Fault}
use Rattle.area.specs.Contents.{append, text_format}
use Rattle.fault.specs.Step.{Out, go, bad, next, onto, written, loop}
use Rattle.fault.specs.Kinds.{kind_number}
use Rattle.fault.specs.Faults.{add_fault, add_repeat, RoutinesNotSupported, InvalidStartState, DuplicateName, VerbatimNotSupported}
use Rattle.escape.specs.Escape.{unescaped}
use Rattle.section.specs.Request.{Request}
use Rattle.section.specs.Section.{to_rule, in_section, has_routines}
use Rattle.fault.specs.declared.kinds.LexError.{LexError}
use Rattle.rules.specs.declared.Head.{Head}
use Rattle.rules.specs.declared.Heading.{Heading}
use Rattle.rules.specs.declared.Heading.TheVariants.{Repeated, Fresh}
use Rattle.rules.specs.declared.Body.TheVariants.{Unclosed, Listed, Rewritten, Plain}
use Rattle.rules.specs.Heading.{heading_of, named_field, name_fields, operation_field, target_field, body_of}
use Rattle.rules.specs.Rules.{entries, record_rule}
use Rattle.area.specs.declared.RuleText.{RuleText}
use Rattle.rules_section.specs.declared.pattern.StateList.{StateList}

-- ---- what is written

-- rules, list entries and rewritten text
pub record Sheet : Type 0 where
  pub rules : List Rule
  pub lists : List ℕ
  pub text : List ℕ

-- how many bytes their areas have
pub record Caps : Type 0 where
  pub c2 : ℕ
  pub c3 : ℕ
  pub c4 : ℕ

-- the record Sheet of these lists
abbrev pub sheet : List Rule → List ℕ → List ℕ → Sheet
sheet rs ids t = record { rules = rs; lists = ids; text = t }

-- ---- the record

-- the rule at the position k: its id is k (01, Rules)
abbrev pub rule_of : Head → ℕ → RuleText → StateList → Rule
rule_of h k t l = record {
  has_id = 1;
  id = k;
  named = named_field h.name;
  span_start = h.name_span.start;
  span_end = h.name_span.end;
  name_from = (name_fields h.name).from;
  name_length = (name_fields h.name).length;
  place = t.place;
  text_from = t.from;
  text_length = t.length;
  list_from = l.from;
  list_count = l.count;
  operation = operation_field h.target_state;
  target = target_field h.target_state;
}

-- the source from a to c (01, Areas, 4)
abbrev pub source_text : ℕ → ℕ → RuleText
source_text a c = record { place = 0; from = a; length = c - a }

-- the rewritten text that v has and w has not (01, Areas, 4)
abbrev pub text_since : Sheet → Sheet → RuleText
text_since w v = record { place = 1; from = length w.text; length = length v.text - length w.text }

-- no list: it would begin behind the entries so far (01, Areas, 2)
abbrev pub no_list : Sheet → StateList
no_list w = record { from = length w.lists; count = 0 }

-- the list entries that v has and w has not (01, Areas, 2 and 3)
abbrev pub list_since : Sheet → Sheet → StateList
list_since w v = record { from = length w.lists; count = length v.lists - length w.lists }

-- ---- the pattern from i to c of the line from i to e, whose head is h

module _ (q : Request) (k : Caps) (i e : ℕ) (h : Head) where
  -- the verdict, and the record of the rule with this text and list (01, Rules)
  unfoldable pub with_rule : RuleText → StateList → Sheet → Out Sheet
  with_rule t l w =
      onto (λ rs. sheet rs w.lists w.text) (record_rule q.verdicts k.c2 i e (rule_of h (length w.rules) t l) w.rules)

  module _ (c : ℕ) where
    -- the rewritten text; then the rule (01, Rules)
    unfoldable pub rewritten_rule : Sheet → Out Sheet
    rewritten_rule w =
        next (onto (λ t. sheet w.rules w.lists t) (written Areas.Text e (append text_format k.c4 (unescaped q.source q.options.posix_escapes i c) w.text)))
        (λ _ v. with_rule (text_since w v) (no_list w) v)

    module _ (xs : List State) where
      -- the names of a list that is closed at g; then the rule, with the rest of the pattern as it stands (01, Rules)
      unfoldable pub listed_rule : ℕ → Sheet → Out Sheet
      listed_rule g w =
          next (onto (λ ids. sheet w.rules ids w.text) (entries q.source k.c3 xs i g w.lists))
          (λ _ v. with_rule (source_text (g + 1) c) (list_since w v) v)

      -- a list that is not closed is a fault at the line; a list; escapes to rewrite; or text as it stands (01, Rules)
      unfoldable pub pattern : Sheet → Out Sheet
      pattern w =
          elim (body_of q.source i c) [
            | Unclosed ↦ bad InvalidStartState i w
            | Listed g ↦ listed_rule g w
            | Rewritten ↦ rewritten_rule w
            | Plain ↦ with_rule (source_text i c) (no_list w) w
          ]

-- ---- what a line writes

-- what the section writes: the above, and faults
pub record Ruled : Type 0 where
  pub rules : List Rule
  pub lists : List ℕ
  pub text : List ℕ
  pub faults : List Fault

-- the rules, list entries and text alone
abbrev pub sheet_of : Ruled → Sheet
sheet_of r = sheet r.rules r.lists r.text

-- with other rules, list entries and text
abbrev pub with_sheet : Ruled → Sheet → Ruled
with_sheet r w = record { rules = w.rules; lists = w.lists; text = w.text; faults = r.faults }

-- with other faults
abbrev pub with_faults : Ruled → List Fault → Ruled
with_faults r fs = record { rules = r.rules; lists = r.lists; text = r.text; faults = fs }

-- ---- the lines of the section

-- the `%%` at i, if there is one, is a fault unless only whitespace follows it (01, Rules)
unfoldable pub routines : List ℕ → ℕ → Ruled → Out Ruled
routines s i r = cond (has_routines s i) (bad RoutinesNotSupported i r) (go i r)

module _ (q : Request) (xs : List State) (k : Caps) (c6 : ℕ) where
  -- what becomes of the line from i to e: a fault; a repeated name, whose pattern is not read; or a rule (01, Rules)
  unfoldable pub rule_as : ℕ → ℕ → Result Heading LexError → Ruled → Out Ruled
  rule_as i e (Err error) r = bad (kind_number error.kind) error.at r
  rule_as i e (Ok (Repeated first again)) r =
      onto (with_faults r) (written Areas.Faults e (add_repeat c6 DuplicateName first.start first.end again.start again.end r.faults))
  rule_as i e (Ok (Fresh b h)) r = onto (with_sheet r) (pattern q k i e h (trim_end_unescaped q.source i b) xs (sheet_of r))

  -- a rule, whose line is read without its trailing whitespace (01, Rules)
  unfoldable pub rule : ℕ → ℕ → Ruled → Out Ruled
  rule i e r = rule_as i e (heading_of q.source i (trim_end q.source i e) xs r.rules) r

  -- a line: one that starts with whitespace is a fault whose span is the line; any other is a rule (01, Rules)
  unfoldable pub line : ℕ → ℕ → Ruled → Out Ruled
  line i e r =
      cond (at_whitespace q.source i) (onto (with_faults r) (written Areas.Faults e (add_fault c6 VerbatimNotSupported i e r.faults))) (rule i e r)

  -- a line, and on from its end to the next (01, Rules)
  unfoldable pub next_rule : ℕ → Ruled → Out Ruled
  next_rule i r = next (line i (line_end q.source i) r) (λ _ t. go (to_rule q.source q.options (line_end q.source i)) t)

  -- the rules from i on (01, Rules)
  unfoldable pub rules : ℕ → Ruled → Out Ruled
  rules i r = loop (length q.source) (in_section q.source) next_rule (to_rule q.source q.options i) r

  -- the rules from i on, and what follows them (01, Rules)
  unfoldable pub rules_section : ℕ → Ruled → Out Ruled
  rules_section i r = next (rules i r) (routines q.source)
