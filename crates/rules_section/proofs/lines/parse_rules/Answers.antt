-- `rules_section::lines::parse_rules` meets its contract: the loop has come to the line `line`, and what a search may use of the rules so far holds.
use Rattle.fault.proofs.Steps.{passed_on}
use Rattle.section.specs.Request.{asked_by}
use Rattle.rules_section.proofs.RuleLines.{rules_start, rules_read, rules_marked, rules_less, rules_next, rules_end, rules_routines, rules_err}
use Rattle.rules_section.proofs.lines.parse_rules.Goals as goal

pub loop-marks-init : goal.loop-marks-init
loop-marks-init c =
    rules_start (asked_by c.args.file) _ _ _ c.args.areas.now c.requires.held_ruled c.next_rule-line.ensures _ (rw c.rule_records.ensures at c.mark_rules.ensures)
    c.requires.distinct_names c.requires.names_inside

pub returns-in_err-parse_line-clause-does : goal.returns-in_err-parse_line-clause-does
returns-in_err-parse_line-clause-does c =
    passed_on _ _ _ c.from_residual.ensures.1
    (rules_err (asked_by c.args.file) _ _ _ _ _ c.loop-marks.areas c.loop-marks.invariant _ c.in_section.ensures c.loop-marks-test.true c.parse_line.new.areas _ c.parse_line.ensures.does
    _ c.in_err-parse_line.was)

pub rule_records-requires-in-loop-marks : goal.rule_records-requires-in-loop-marks
rule_records-requires-in-loop-marks c =
    (rules_read c.loop-marks.areas c.loop-marks.invariant _ c.in_section.ensures c.loop-marks-test.true c.parse_line.new.areas _ c.parse_line.ensures.does c.in_ok-parse_line.was)

pub mark_rules-requires-in-loop-marks : goal.mark_rules-requires-in-loop-marks
mark_rules-requires-in-loop-marks c =
    rw c.rule_records-in-loop-marks.ensures (rules_marked c.loop-marks.areas c.loop-marks.invariant _ c.in_section.ensures c.loop-marks-test.true c.parse_line.new.areas _ c.parse_line.ensures.does c.in_ok-parse_line.was)

pub loop-marks-smaller : goal.loop-marks-smaller
loop-marks-smaller c =
    rules_less c.loop-marks.areas c.loop-marks.invariant _ c.in_section.ensures c.loop-marks-test.true c.parse_line.new.areas _ c.parse_line.ensures.does c.in_ok-parse_line.was
    _ c.next_rule-line-in-loop-marks.ensures

pub loop-marks-preserved : goal.loop-marks-preserved
loop-marks-preserved c =
    let step = c.parse_line in
    rules_next c.loop-marks.areas c.loop-marks.invariant _ c.in_section.ensures c.loop-marks-test.true step.new.areas _ step.ensures.does c.in_ok-parse_line.was
    _ c.next_rule-line-in-loop-marks.ensures step.ensures.same
    _ (rw c.rule_records-in-loop-marks.ensures at c.mark_rules-in-loop-marks.ensures)

pub returns-then-has_routines-clause-does : goal.returns-then-has_routines-clause-does
returns-then-has_routines-clause-does c =
    rw c.at.ensures
    (rules_routines _ _ _ _ _ _ c.loop-marks.areas c.loop-marks.invariant _ c.in_section.ensures c.loop-marks-test.false _ c.has_routines.ensures c.if-has_routines.true)

pub returns-clause-does : goal.returns-clause-does
returns-clause-does c =
    rules_end _ _ _ _ _ _ c.loop-marks.areas c.loop-marks.invariant _ c.in_section.ensures c.loop-marks-test.false _ c.has_routines.ensures c.if-has_routines.false
