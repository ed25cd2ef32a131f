-- `sheet_check::check::quick_records` meets its contract: where each quick test passes, the records of each area are good.
use Rattle.std.proofs.Common.{◌≡◌, ◌-◌, ◌<◌, true, arith, sym, ap, ◌∙◌}
use Rattle.std.proofs.lemmas.Bool.{false≢true}
use Rattle.area.specs.Lists.{all}
use Rattle.sheet_check.specs.SheetCheck.{decoded, sizes_of, declared, good_state, good_rule, good_expected}
use Rattle.sheet_check.specs.Phrases.{lent_sheet}
use Rattle.sheet_check.proofs.Judging.{records_good, records_asked}
use Rattle.sheet_check.proofs.Quick.{entries_declared}
use Rattle.sheet_check.proofs.Sheets.{some_states}
use Rattle.sheet_check.proofs.check.quick_records.Goals as goal
use Rattle.sheet_check.proofs.check.quick_records.Goals.{then-good_states, else-good_states, then-rules_within, else-rules_within}

pub returns-then-entries_within : goal.returns-then-entries_within
returns-then-entries_within c named =
    let b = lent_sheet c.args.sheet in
    let of = c.sizes-sizes.ensures in
    let some : c.sizes-sizes.result.states - 1 < (sizes_of b).states = omega (arith, some_states c.args.sheet _ of c.requires, ap (λ z. z.states) of) in
    let three : (c.if-good_states.value ≡ true) × (all (declared (sizes_of b).states) (decoded b).lists ≡ true) =
    elim c.if-rules_within.branch [
      | then-rules_within w ↦
          let within = w.entries_within.ensures (sym w.value-is ∙ c.if-entries_within.true) in
          (w.if-rules_within.true, ap (all (declared (sizes_of b).states)) (sym w.entry_records.ensures) ∙ entries_declared _ _ _ some within)
      | else-rules_within w ↦ absurd (false≢true (sym w.if-rules_within.false ∙ sym w.value-is ∙ c.if-entries_within.true))
    ] in
    let two : (c.good_states.result ≡ true) × (all (good_rule (sizes_of b)) (decoded b).rules ≡ true) =
    elim c.if-good_states.branch [
      | then-good_states w ↦
          let within = w.rules_within.ensures (sym w.value-is ∙ three.0) in
          (w.if-good_states.true, sym (λ i. all (good_rule (of i)) (w.rule_records.ensures i)) ∙ within)
      | else-good_states w ↦ absurd (false≢true (sym w.if-good_states.false ∙ sym w.value-is ∙ three.0))
    ] in
    let states = sym (c.good_states.ensures ∙ (λ i. all (good_state (of i)) (c.state_records.ensures i))) ∙ two.0 in
    let names = sym (c.good_names.ensures ∙ (λ i. all (good_expected (of i)) (c.expected_records.ensures i))) ∙ named in
    sym (records_asked b c.requires true (sym (records_good _ _ _ _ _ states two.1 three.1 names)))
