-- What the rules section keeps: each rule's ranges lie within the source, the list entries and the rewritten text so far, which only grow; its id is
-- its position; each entry and each target is a declared state; and no two rules have the same name.
use Prim.Native.Nat.{ℕ, ◌+◌, ◌≤◌, ◌<◌}
use mathlib.Core.Path.{◌≡◌, refl}
use Rattle.std.proofs.lemmas.Bool.{cond_both}
use Rattle.std.specs.Prelude.{Result, Ok, Err}
use mathlib.Core.Bool.{Bool, true, false, cond}
use mathlib.Core.List.{List, [], ◌∷◌, ◌++◌}
use mathlib.Core.Option.{Option, none, some}
use native.Mathlib.Nat.{le_refl}
use native.Mathlib.Omega.{arith}
use borrow.Author.Tests.{leb-false}
use lib.Dec.{eqb, leb}
use lib.ListN.{length, length-append}
use Rattle.characters.specs.Whitespace.{at_whitespace, at_line_end}
use Rattle.text.specs.Scan.{line_end, trim_end, trim_end_unescaped}
use Rattle.characters.proofs.Walks.{first_from, first_to}
use Rattle.area.specs.declared.AreaName.TheVariants as Areas
use Rattle.area.specs.declared.State.{State}
use Rattle.area.specs.declared.Rule.{Rule}
use Rattle.area.specs.declared.Fault.{Fault}
use Rattle.area.specs.Records.{rule_of}
use Rattle.area.specs.Contents.{append, rule_format, entry_format, text_format}
use Rattle.fault.specs.Step.{Out, go, bad, next, onto, written}
use Rattle.fault.specs.Faults.{add_fault, add_repeat, UnknownStartState, DuplicateName, RegexError, RoutinesNotSupported, VerbatimNotSupported}
use Rattle.escape.specs.Escape.{unescaped}
use Rattle.names.proofs.Distinct.{Unused, distinct_more}
use Rattle.section.specs.Request.{Request}
use Rattle.section.specs.Section.{to_rule, in_section, has_routines}
use Rattle.fault.specs.declared.kinds.LexError.{LexError}
use Rattle.rules.specs.declared.Head.{Head}
use Rattle.rules.specs.declared.Heading.{Heading}
use Rattle.rules.specs.declared.Heading.TheVariants.{Repeated, Fresh}
use Rattle.rules.specs.Heading.{heading_of, named_field, name_fields}
use Rattle.rules.specs.Rules.{entry_end, entry_id, next_entry, entries, refuses, record_rule}
use Rattle.rules_section.specs.RulesSection.{Sheet, Caps, sheet, source_text, text_since, no_list, list_since, with_rule, listed_rule, rewritten_rule, pattern, Ruled, sheet_of, with_sheet, with_faults, rule_as, rule, line, next_rule, rules, routines, rules_section}
use Rattle.rules_section.specs.RulesSection as R
use Rattle.area.specs.declared.RuleText.{RuleText}
use Rattle.rules_section.specs.declared.pattern.StateList.{StateList}
use Rattle.rules.proofs.Heads.{fresh_from, fresh_to, fresh_unused}
use Rattle.rules_section.proofs.Patterns.{pattern_cases}
use Rattle.area.specs.Lists.{all}
use Rattle.parsed_sheet.specs.Accepted.{Fits, RuleHolds, EntryHolds, RulesHold, EntriesHold, TextHolds, is_byte}
use Rattle.fault.proofs.Yielding.{Yields, yields_next, yields_onto, yields_loop}
use Rattle.parsed_sheet.proofs.Appending.{yields_append}
use Rattle.area.proofs.Elements.{each_snoc, each_weaken}
use Rattle.parsed_sheet.proofs.Places.{rule_to, pattern_to}
use Rattle.parsed_sheet.proofs.ByteLists.{unescaped_bytes}
use Rattle.parsed_sheet.proofs.Headings.{HeadHolds, heading_holds}
use Rattle.area.proofs.All.{all_append}

-- ---- a rule more, and more entries and text behind the rules

module _ (s : List ℕ) (m a b cap : ℕ) (rs : List Rule) where
  rules_more : (x : Rule) → RulesHold s m a b cap rs → RuleHolds (length s) m a b (length rs) x
      → Unused s rs x.named x.name_from x.name_length → Fits rule_format cap (rs ++ (x ∷ [])) → RulesHold s m a b cap (rs ++ (x ∷ []))
  rules_more x h g u f = record {
    each = each_snoc (RuleHolds (length s) m a b) (rule_of (λ _. 0)) rs x h.each g;
    distinct = distinct_more s rs x h.distinct u;
    fits = f;
  }

  wider : (t : Bool) (n c d : ℕ) → c ≤ d → cond t c n ≤ cond t d n
  wider true n c d h = h
  wider false n c d h = le_refl n

  rules_weaken : (a' b' : ℕ) → a ≤ a' → b ≤ b' → RulesHold s m a b cap rs → RulesHold s m a' b' cap rs
  rules_weaken a' b' ha hb h = record {
    each = each_weaken (RuleHolds (length s) m a b) (rule_of (λ _. 0)) rs (RuleHolds (length s) m a' b') more h.each;
    distinct = h.distinct;
    fits = h.fits;
  }
    where
      more : (j : ℕ) (x : Rule) → j < length rs → RuleHolds (length s) m a b j x → RuleHolds (length s) m a' b' j x
      more j x _ g = record {
        has_id = g.has_id;
        id = g.id;
        named = g.named;
        place = g.place;
        ordered = g.ordered;
        inside = g.inside;
        name = g.name;
        text = omega (arith, g.text, wider (eqb x.place 1) (length s) b b' hb);
        list = omega (arith, g.list);
        operation = g.operation;
        target = g.target;
      }

-- ---- the list of states

-- the entries hold, and there are no fewer than n of them
record EntriesFrom (n m cap : ℕ) (ids : List ℕ) : Type 0 where
  longer : n ≤ length ids
  hold : EntriesHold m cap ids

module _ (s : List ℕ) (c3 n : ℕ) (xs : List State) where
  abbrev Listing : ℕ → List ℕ → Type 0
  Listing i ids = EntriesFrom n (length xs) c3 ids

  entry_kept : (i g a : ℕ) (ids : List ℕ) → Listing a ids → Yields Listing (next_entry s c3 xs i g a ids)
  unfolding next_entry
  entry_kept i g a ids h =
      let e = entry_end s g a in
      let j = entry_id s xs a e in
      cond_both (leb (length xs) j) (bad UnknownStartState i ids) (written Areas.Entries (e + 1) (append entry_format c3 (j ∷ []) ids)) (Yields Listing) (λ _. tt)
      (λ q. yields_append Listing entry_format c3 Areas.Entries (e + 1) (j ∷ []) ids
      (λ f. record {
        longer = omega (arith, h.longer, length-append ids (j ∷ []));
        hold = record { each = each_snoc (EntryHolds (length xs)) 0 ids j h.hold.each (leb-false (length xs) j q); fits = f };
      }))

  entries_kept : (i g : ℕ) (ids : List ℕ) → Listing 0 ids → Yields Listing (entries s c3 xs i g ids)
  unfolding entries
  entries_kept i g ids h =
      yields_loop Listing (λ a. leb a g) (next_entry s c3 xs i g) (λ a ys _ k. entry_kept i g a ys k) (length s) (i + 1) ids h

-- ---- the record

-- what holds of the rules, list entries and text, beside m states
pub record SheetHolds (s : List ℕ) (m : ℕ) (k : Caps) (w : Sheet) : Type 0 where
  pub rules : RulesHold s m (length w.lists) (length w.text) k.c2 w.rules
  pub lists : EntriesHold m k.c3 w.lists
  pub text : TextHolds k.c4 w.text

module _ (s : List ℕ) (m a b : ℕ) where
  record_kept : (verdicts : List ℕ) (c2 i e : ℕ) (x : Rule) (rs : List Rule) → RulesHold s m a b c2 rs → RuleHolds (length s) m a b (length rs) x
      → Unused s rs x.named x.name_from x.name_length → Yields (λ _ ys. RulesHold s m a b c2 ys) (record_rule verdicts c2 i e x rs)
  unfolding record_rule
  record_kept verdicts c2 i e x rs h g u =
      let AllRules : ℕ → List Rule → Type 0 = λ _ ys. RulesHold s m a b c2 ys in
      cond_both (refuses verdicts (length rs)) (bad RegexError i rs) (written Areas.Rules e (append rule_format c2 (x ∷ []) rs)) (Yields AllRules) (λ _. tt)
      (λ _. yields_append AllRules rule_format c2 Areas.Rules e (x ∷ []) rs (rules_more s m a b c2 rs x h g u))

  -- the record of a heading, with its text and its list
  rule_of_lem : (rs : List Rule) (h : Head) → HeadHolds s m h → (x : RuleText) (y : StateList) → x.place ≤ 1
      → x.from + x.length ≤ cond (eqb x.place 1) b (length s) → y.from + y.count ≤ a
      → RuleHolds (length s) m a b (length rs) (R.rule_of h (length rs) x y)
  rule_of_lem rs h g x y p t l = record {
    has_id = refl;
    id = refl;
    named = g.named;
    place = p;
    ordered = g.ordered;
    inside = g.inside;
    name = g.name;
    text = t;
    list = l;
    operation = g.operation;
    target = g.target;
  }

module _ (asked : Request) (xs : List State) (k : Caps) (i e : ℕ) where
  abbrev Sheets : ℕ → Sheet → Type 0
  Sheets j w = SheetHolds asked.source (length xs) k w

  module _ (w : Sheet) (holds : SheetHolds asked.source (length xs) k w) (h : Head) (head : HeadHolds asked.source (length xs) h)
      (unused : Unused asked.source w.rules (named_field h.name) (name_fields h.name).from (name_fields h.name).length) (c : ℕ) (cl : c ≤ length asked.source) where
    -- list entries and text that hold and are no fewer
    abbrev MoreEntries : ℕ → List ℕ → Type 0
    MoreEntries j ids = EntriesFrom (length w.lists) (length xs) k.c3 ids

    abbrev MoreText : ℕ → List ℕ → Type 0
    MoreText j t = (length w.text ≤ length t) × TextHolds k.c4 t

    -- the rule of a text and a list, behind such entries and text
    with_kept : (x : RuleText) (y : StateList) (ids t : List ℕ) → x.place ≤ 1
        → x.from + x.length ≤ cond (eqb x.place 1) (length t) (length asked.source) → y.from + y.count ≤ length ids
        → MoreEntries e ids → MoreText e t → Yields Sheets (with_rule asked k i e h x y (sheet w.rules ids t))
    unfolding with_rule
    with_kept x y ids t px tx ly g u =
        let a = length ids in
        let b = length t in
        let z = R.rule_of h (length w.rules) x y in
        let AllRules : ℕ → List Rule → Type 0 = λ _ rs. RulesHold asked.source (length xs) a b k.c2 rs in
        yields_onto AllRules Sheets (λ rs. sheet rs ids t) (record_rule asked.verdicts k.c2 i e z w.rules)
        (record_kept asked.source (length xs) a b asked.verdicts k.c2 i e z w.rules
        (rules_weaken asked.source (length xs) (length w.lists) (length w.text) k.c2 w.rules a b g.longer u.0 holds.rules)
        (rule_of_lem asked.source (length xs) a b w.rules h head x y px tx ly) unused)
        (λ _ rs r. record { rules = r; lists = g.hold; text = u.1 })

    same_entries : MoreEntries e w.lists
    same_entries = record { longer = le_refl (length w.lists); hold = holds.lists }

    same_text : MoreText e w.text
    same_text = (le_refl (length w.text), holds.text)

    -- the rule follows a step that writes list entries, or text
    then_kept : (P : ℕ → List ℕ → Type 0) (f : List ℕ → Sheet) (o : Out (List ℕ)) (g : ℕ → Sheet → Out Sheet) → Yields P o
        → ((j : ℕ) (ys : List ℕ) → P j ys → Yields Sheets (g j (f ys))) → Yields Sheets (next (onto f o) g)
    then_kept P f o g h then =
        yields_next (λ j v. Yields Sheets (g j v)) Sheets (onto f o) g (yields_onto P (λ j v. Yields Sheets (g j v)) f o h then) (λ _ _ y. y)

    listed_kept : (g : ℕ) → g < c → Yields Sheets (listed_rule asked k i e h c xs g w)
    unfolding listed_rule
    listed_kept g gc =
        let listed : List ℕ → Sheet = λ ids. sheet w.rules ids w.text in
        let text = source_text (g + 1) c in
        then_kept MoreEntries listed (entries asked.source k.c3 xs i g w.lists) (λ _ v. with_rule asked k i e h text (list_since w v) v)
        (entries_kept asked.source k.c3 (length w.lists) xs i g w.lists same_entries)
        (λ _ ids f. with_kept text (list_since w (listed ids)) ids w.text (omega arith) (omega arith) (omega (arith, f.longer)) f same_text)

    rewritten_kept : all is_byte asked.source ≡ true → Yields Sheets (rewritten_rule asked k i e h c w)
    unfolding rewritten_rule
    rewritten_kept source =
        let u = unescaped asked.source asked.options.posix_escapes i c in
        let rewritten : List ℕ → Sheet = λ t. sheet w.rules w.lists t in
        let its-bytes : all is_byte u ≡ true = unescaped_bytes asked.source asked.options.posix_escapes c source i in
        let all-bytes : all is_byte (w.text ++ u) ≡ true = all_append is_byte w.text u holds.text.bytes its-bytes in
        then_kept MoreText rewritten (written Areas.Text e (append text_format k.c4 u w.text))
        (λ _ v. with_rule asked k i e h (text_since w v) (no_list w) v)
        (yields_append MoreText text_format k.c4 Areas.Text e u w.text
        (λ f. (omega (arith, length-append w.text u), record { bytes = all-bytes; fits = f })))
        (λ _ t f. with_kept (text_since w (rewritten t)) (no_list w) w.lists t (omega arith) (omega (arith, f.0)) (omega arith) same_entries f)

    pattern_kept : all is_byte asked.source ≡ true → i ≤ length asked.source → Yields Sheets (pattern asked k i e h c xs w)
    pattern_kept source il =
        pattern_cases asked k i e h c xs w (Yields Sheets) tt (λ g _ gc. listed_kept g gc) (rewritten_kept source)
        (with_kept (source_text i c) (no_list w) w.lists w.text (omega arith) (omega arith) (omega arith) same_entries same_text)

-- ---- a line, and the section

module _ (asked : Request) (xs : List State) (stated : 0 < length xs) (source : all is_byte asked.source ≡ true) (k : Caps) (c6 : ℕ) where
  abbrev Lined : ℕ → Ruled → Type 0
  Lined i r = SheetHolds asked.source (length xs) k (sheet_of r)

  -- a step that writes faults only
  faults_kept : (e : ℕ) (r : Ruled) (o : Option (List Fault)) → Lined e r → Yields Lined (onto (with_faults r) (written Areas.Faults e o))
  faults_kept e r none h = tt
  faults_kept e r (some fs) h = h

  as_kept : (i e : ℕ) → i ≤ e → e ≤ length asked.source → (r : Ruled) → Lined i r → (x : Result Heading LexError)
      → heading_of asked.source i (trim_end asked.source i e) xs r.rules ≡ x → Yields Lined (rule_as asked xs k c6 i e x r)
  unfolding rule_as trim_end
  as_kept i e a l r h (Err error) q = tt
  as_kept i e a l r h (Ok (Repeated first again)) q =
      faults_kept e r (add_repeat c6 DuplicateName first.start first.end again.start again.end r.faults) h
  as_kept i e a l r h (Ok (Fresh b hd)) q =
      let t = trim_end asked.source i e in
      let tl : t ≤ e = first_to _ i e a in
      let bi : i ≤ b = fresh_from asked.source i t xs r.rules (heading_of asked.source i t xs r.rules) refl q b hd refl in
      let bt : b < t = fresh_to asked.source i t xs r.rules (heading_of asked.source i t xs r.rules) refl q b hd refl in
      let c = trim_end_unescaped asked.source i b in
      yields_onto (Sheets asked xs k i e) Lined (with_sheet r) (pattern asked k i e hd c xs (sheet_of r))
      (pattern_kept asked xs k i e (sheet_of r) h hd (heading_holds asked.source xs stated r.rules i t (omega arith) b hd q)
      (fresh_unused asked.source i t xs r.rules b hd q) c (pattern_to asked.source i b bi (omega arith)) source (omega arith))
      (λ _ w g. g)

  line_kept : (i e : ℕ) → i ≤ e → e ≤ length asked.source → (r : Ruled) → Lined i r → Yields Lined (line asked xs k c6 i e r)
  unfolding line rule
  line_kept i e a l r h =
      let faults = add_fault c6 VerbatimNotSupported i e r.faults in
      cond_both (at_whitespace asked.source i) (onto (with_faults r) (written Areas.Faults e faults)) (rule asked xs k c6 i e r) (Yields Lined)
      (λ _. faults_kept e r faults h)
      (λ _. as_kept i e a l r h (heading_of asked.source i (trim_end asked.source i e) xs r.rules) refl)

  -- between two lines, and at the section's end, the place is within the source
  abbrev Placed : ℕ → Ruled → Type 0
  Placed i r = (i ≤ length asked.source) × SheetHolds asked.source (length xs) k (sheet_of r)

  rule_kept : (i : ℕ) (r : Ruled) → Placed i r → Yields Placed (next_rule asked xs k c6 i r)
  unfolding next_rule
  rule_kept i r h =
      let e = line_end asked.source i in
      let l : e ≤ length asked.source = first_to (at_line_end asked.source) i (length asked.source) h.0 in
      let forward : i ≤ e = first_from (at_line_end asked.source) i (length asked.source) in
      yields_next Lined Placed (line asked xs k c6 i e r) (λ _ t. go (to_rule asked.source asked.options e) t)
      (line_kept i e forward l r h.1)
      (λ _ t g. (rule_to asked.source asked.options e l, g))

  routines_kept : (i : ℕ) (r : Ruled) → Placed i r → Yields Lined (routines asked.source i r)
  unfolding routines
  routines_kept i r h = cond_both (has_routines asked.source i) (bad RoutinesNotSupported i r) (go i r) (Yields Lined) (λ _. tt) (λ _. h.1)

  -- the section keeps what holds at its start
  pub rules_hold : (i : ℕ) (r : Ruled) → i ≤ length asked.source → SheetHolds asked.source (length xs) k (sheet_of r)
      → Yields (λ _ t. SheetHolds asked.source (length xs) k (sheet_of t)) (rules_section asked xs k c6 i r)
  unfolding rules_section rules
  rules_hold i r l h =
      let start = to_rule asked.source asked.options i in
      yields_next Placed Lined (rules asked xs k c6 i r) (routines asked.source)
      (yields_loop Placed (in_section asked.source) (next_rule asked xs k c6) (λ j t _ g. rule_kept j t g) (length asked.source) start r
      (rule_to asked.source asked.options i l, h))
      routines_kept
