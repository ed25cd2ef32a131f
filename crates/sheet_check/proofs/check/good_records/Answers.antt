-- `sheet_check::check::good_records` meets its contract: the tests are asked one after the other, each where those before it pass.
use Rattle.std.proofs.Common.{◌≡◌, refl, ◌∙◌}
use mathlib.Core.Bool.{Bool, ◌&&◌}
use Rattle.area.specs.Lists.{all}
use Rattle.sheet_check.specs.declared.Sheet.{Sheet}
use Rattle.sheet_check.specs.SheetCheck.{decoded, sizes_of, declared, good_state, good_rule, good_expected, good_records}
use Rattle.sheet_check.specs.Phrases.{lent_sheet}
use Rattle.sheet_check.proofs.Judging.{next_asked, none_asked, records_asked}
use Rattle.sheet_check.proofs.check.good_records.Goals as goal
use Rattle.sheet_check.proofs.check.good_records.Goals.{then-good_states, else-good_states, then-rules_pass, else-rules_pass}
use Rattle.sheet_check.proofs.check.good_records.Goals.{Joined-good_states, Joined-rules_pass}

-- the tests of the states, of the rules and of the list entries
module _ (s : Sheet) where
  abbrev states_good : Bool
  states_good = all (good_state (sizes_of (lent_sheet s))) (decoded (lent_sheet s)).states

  abbrev rules_good : Bool
  rules_good = all (good_rule (sizes_of (lent_sheet s))) (decoded (lent_sheet s)).rules

  abbrev lists_good : Bool
  lists_good = all (declared (sizes_of (lent_sheet s)).states) (decoded (lent_sheet s)).lists

  abbrev names_good : Bool
  names_good = all (good_expected (sizes_of (lent_sheet s))) (decoded (lent_sheet s)).expected

two_asked : (c : Joined-good_states) → c.if-good_states.value ≡ (states_good c.args.sheet && rules_good c.args.sheet)
two_asked c =
    let states : c.good_states.result ≡ states_good c.args.sheet =
    c.good_states.ensures ∙ (λ i. all (good_state (c.sizes-sizes.ensures i)) (c.state_records.ensures i)) in
    elim c.if-good_states.branch [
      | then-good_states w ↦
          next_asked states w.if-good_states.true
          (w.value-is ∙ w.rules_pass.ensures ∙ (λ i. all (good_rule (c.sizes-sizes.ensures i)) (w.rule_records.ensures i)))
      | else-good_states w ↦ none_asked (rules_good c.args.sheet) states w.if-good_states.false w.value-is
    ]

three_asked : (c : Joined-rules_pass) → c.if-rules_pass.value ≡ (states_good c.args.sheet && rules_good c.args.sheet && lists_good c.args.sheet)
three_asked c =
    let two = two_asked (goal.at.Joined-rules_pass c).Joined-good_states in
    elim c.if-rules_pass.branch [
      | then-rules_pass w ↦
          next_asked two w.if-rules_pass.true
          (w.value-is ∙ w.good_entries.ensures ∙ (λ i. all (declared (c.sizes-sizes.ensures i).states) (w.entry_records.ensures i)))
      | else-rules_pass w ↦ none_asked (lists_good c.args.sheet) two w.if-rules_pass.false w.value-is
    ]

pub returns-then-good_entries : goal.returns-then-good_entries
unfolding good_records
returns-then-good_entries c =
    records_asked _ c.requires c.good_names.result
    (next_asked (three_asked (goal.at.returns-then-good_entries c).Joined-rules_pass) c.if-good_entries.true
    (c.good_names.ensures ∙ (λ i. all (good_expected (c.sizes-sizes.ensures i)) (c.expected_records.ensures i))))

pub returns-else-good_entries : goal.returns-else-good_entries
unfolding good_records
returns-else-good_entries c =
    records_asked _ c.requires c.if-rules_pass.value
    (none_asked (names_good c.args.sheet) (three_asked (goal.at.returns-else-good_entries c).Joined-rules_pass) c.if-good_entries.false refl)
