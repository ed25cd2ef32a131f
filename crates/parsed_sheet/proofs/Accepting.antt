-- What an accepted parse yields. Of the ways in which a file can end only one accepts it, and there both sections went on; so what they keep holds
-- of the contents, and there are no faults.
use Prim.Native.Nat.{ℕ, ◌≤◌}
use mathlib.Core.Path.{◌≡◌, refl, subst}
use mathlib.Core.Bool.{true}
use mathlib.Core.List.{List, [], ◌∷◌}
use mathlib.Core.Option.{Option, none, some}
use native.Mathlib.Omega.{arith}
use borrow.Author.Tests.{eqb-true}
use lib.Dec.{eqb}
use lib.ListN.{length}
use Rattle.std.proofs.lemmas.Bool.{cond_both}
use Rattle.characters.specs.Utf8.{utf8}
use Rattle.area.specs.declared.AreaName.TheVariants as Areas
use Rattle.area.specs.declared.State.{State}
use Rattle.area.specs.declared.Fault.{Fault}
use Rattle.area.specs.Records.{state_of, expected_of, rule_of}
use Rattle.area.specs.Contents.{Format, append, state_format, rule_format, entry_format, text_format, expected_format}
use Rattle.fault.specs.Step.{Out, go, bad, full, onto, written}
use Rattle.fault.specs.Faults.{add_fault}
use Rattle.names.proofs.Distinct.{distinct_none}
use Rattle.section.specs.Request.{Request}
use Rattle.declarations.specs.Declarations.{Declared, declarations, state}
use Rattle.rules_section.specs.RulesSection.{sheet_of, rules_section}
use Rattle.parse.specs.Parse.{Contents, Caps, declaration_caps, rule_caps, Outcome, long_file, unknown_flag, invalid_utf8, area_full, faulty, accepted, closed, ending, judge, contents_of, no_rules, rules_from, undeclared, with_states, opening, file, outcome}
use Rattle.area.specs.Lists.{all}
use Rattle.parsed_sheet.specs.Accepted.{Fits, StateHolds, ExpectedHolds, EntryHolds, RuleHolds, StatesHold, ExpectedsHold, ContentsHold, is_byte}
use Rattle.fault.proofs.Yielding.{Yields, yields_next, yields_onto}
use Rattle.parsed_sheet.proofs.Appending.{yields_append}
use Rattle.area.proofs.Elements.{each_none, each_snoc}
use Rattle.parsed_sheet.proofs.ByteLists.{utf8_bytes}
use Rattle.parsed_sheet.proofs.Outcomes.{outcome_cases}
use Rattle.parsed_sheet.proofs.Declaring.{DeclaredHolds, declarations_hold}
use Rattle.parsed_sheet.proofs.Ruling.{SheetHolds, rules_hold}

-- ---- the ways that do not accept

-- an outcome that accepts has contents of which P holds
abbrev Accepts : (Contents → Type 0) → Outcome → Type 0
Accepts P long_file = Unit {0}
Accepts P unknown_flag = Unit {0}
Accepts P invalid_utf8 = Unit {0}
Accepts P (area_full name) = Unit {0}
Accepts P (faulty fs) = Unit {0}
Accepts P (accepted c) = P c

closed_accepts : (P : Contents → Type 0) (o : Option (List Fault)) → Accepts P (closed o)
unfolding closed
closed_accepts P none = tt
closed_accepts P (some fs) = tt

ending_accepts : {S : Type 0} (P : Contents → Type 0) (Q : ℕ → S → Type 0) (faults : S → List Fault) (cap : ℕ) (o : Out S) (g : ℕ → S → Outcome)
    → Yields Q o → ((i : ℕ) (s : S) → Q i s → Accepts P (g i s)) → Accepts P (ending faults cap o g)
ending_accepts P Q faults cap (go i s) g h f = f i s h
ending_accepts P Q faults cap (bad kind at s) g h f = closed_accepts P (add_fault cap kind at at (faults s))
ending_accepts P Q faults cap (full name) g h f = tt

no_elements : {A : Type 0} (xs : List A) → length xs ≡ 0 → xs ≡ []
no_elements [] e = refl
no_elements (x ∷ xs) e = absurd (omega arith)

judge_accepts : (P : Contents → Type 0) (c : Contents) → (c.faults ≡ [] → P c) → Accepts P (judge c)
unfolding judge
judge_accepts P c f =
    cond_both (eqb (length c.faults) 0) (accepted c) (faulty c.faults) (Accepts P)
    (λ e. f (no_elements c.faults (eqb-true (length c.faults) 0 e))) (λ _. tt)

-- ---- a file

nothing_fits : {A : Type 0} (F : Format A) (cap : ℕ) → Fits F cap []
nothing_fits F cap = record { few = omega arith; fits = omega arith }

module _ (asked : Request) (k : Caps) where
  -- what is kept of the declarations, and of the contents
  abbrev DeclaredKept : ℕ → Declared → Type 0
  DeclaredKept i d = DeclaredHolds asked.source (declaration_caps k) i d

  abbrev ContentsKept : Contents → Type 0
  ContentsKept c = ContentsHold asked.source k c

  no_rules_hold : (d : Declared) → SheetHolds asked.source (length d.states) (rule_caps k) (sheet_of (no_rules d))
  unfolding all
  no_rules_hold d = record {
    rules = record {
      each = each_none (RuleHolds (length asked.source) (length d.states) 0 0) (rule_of (λ _. 0));
      distinct = distinct_none asked.source;
      fits = nothing_fits rule_format k.c2;
    };
    lists = record { each = each_none (EntryHolds (length d.states)) 0; fits = nothing_fits entry_format k.c3 };
    text = record { bytes = refl; fits = nothing_fits text_format k.c4 };
  }

  rules_accept : all is_byte asked.source ≡ true → (i : ℕ) (d : Declared) → DeclaredKept i d → Accepts ContentsKept (rules_from asked k i d)
  unfolding rules_from
  rules_accept source i d h =
      ending_accepts ContentsKept (λ _ r. SheetHolds asked.source (length d.states) (rule_caps k) (sheet_of r)) (λ r. r.faults) k.c6
      (rules_section asked d.states (rule_caps k) k.c6 i (no_rules d)) (λ j r. judge (contents_of d r))
      (rules_hold asked d.states h.states.some source (rule_caps k) k.c6 i (no_rules d) h.place (no_rules_hold d))
      (λ j r g. judge_accepts ContentsKept (contents_of d r)
      (λ e. record { states = h.states; rules = g.rules; lists = g.lists; text = g.text; expected = h.expected; faults = e }))

  initial_holds : Fits state_format k.c1 (state 0 0 0 ∷ []) → StatesHold (length asked.source) k.c1 (state 0 0 0 ∷ [])
  initial_holds f =
      let n = length asked.source in
      let past_end = state_of (λ _. 0) in
      let state-holds : StateHolds n 0 (state 0 0 0) = record { ordered = omega arith; inside = omega arith; exclusive = omega arith } in
      record {
        some = omega arith;
        initial = refl;
        each = each_snoc (StateHolds n) past_end [] (state 0 0 0) (each_none (StateHolds n) past_end) state-holds;
        fits = f;
      }

  none_expected : ExpectedsHold (length asked.source) k.c5 []
  none_expected = record {
    each = each_none (ExpectedHolds (length asked.source)) (expected_of (λ _. 0));
    fits = nothing_fits expected_format k.c5;
  }

  abbrev Opened : ℕ → List State → Type 0
  Opened i xs = (i ≤ length asked.source) × StatesHold (length asked.source) k.c1 xs

  opening_holds : Yields DeclaredKept (opening asked.source asked.options (declaration_caps k) undeclared)
  unfolding opening
  opening_holds =
      let o = written Areas.States 0 (append state_format k.c1 (state 0 0 0 ∷ []) []) in
      yields_next DeclaredKept DeclaredKept (onto (with_states undeclared) o) (declarations asked.source asked.options (declaration_caps k))
      (yields_onto Opened DeclaredKept (with_states undeclared) o
      (yields_append Opened state_format k.c1 Areas.States 0 (state 0 0 0 ∷ []) [] (λ f. (omega arith, initial_holds f)))
      (λ i xs h. record { place = h.0; states = h.1; expected = none_expected }))
      (λ i d h. declarations_hold asked.source asked.options (declaration_caps k) i d h)

  file_accepts : all is_byte asked.source ≡ true → Accepts ContentsKept (file asked k)
  unfolding file
  file_accepts source =
      ending_accepts ContentsKept DeclaredKept (λ d. d.faults) k.c6
      (opening asked.source asked.options (declaration_caps k) undeclared) (rules_from asked k) opening_holds (rules_accept source)

  -- the tests before the file is read were passed
  record Passed (c : Contents) : Type 0 where
    short : length asked.source ≤ 65535
    text : utf8 asked.source ≡ true
    holds : ContentsHold asked.source k c

  passed : length asked.source ≤ 65535 → utf8 asked.source ≡ true → (o : Outcome) → Accepts ContentsKept o → Accepts Passed o
  passed l t (accepted c) h = record { short = l; text = t; holds = h }
  passed l t long_file h = tt
  passed l t unknown_flag h = tt
  passed l t invalid_utf8 h = tt
  passed l t (area_full name) h = tt
  passed l t (faulty fs) h = tt

  outcome_accepts : Accepts Passed (outcome asked k)
  outcome_accepts =
      outcome_cases asked k (Accepts Passed) tt tt tt
      (λ short text. passed short text (file asked k) (file_accepts (utf8_bytes asked.source text)))

  module _ (c : Contents) (is : outcome asked k ≡ accepted c) where
    -- what holds of the contents
    pub accepted_holds : ContentsHold asked.source k c
    accepted_holds = (subst (Accepts Passed) is outcome_accepts).holds

    -- the source is no longer than its offsets can tell
    pub accepted_short : length asked.source ≤ 65535
    accepted_short = (subst (Accepts Passed) is outcome_accepts).short

    pub accepted_utf8 : utf8 asked.source ≡ true
    accepted_utf8 = (subst (Accepts Passed) is outcome_accepts).text
