-- `rules_section::line::parse_rule` meets its contract: each return is an outcome of what the heading is.
use Rattle.fault.proofs.Steps.{passed_on}
use Rattle.section.specs.Request.{asked_by}
use Rattle.rules_section.proofs.RuleLines.{rule_wrong, rule_repeated, rule_no_room, rule_fresh}
use Rattle.rules_section.proofs.line.parse_rule.Goals as goal

pub returns-in_err-first-clause-does : goal.returns-in_err-first-clause-does
returns-in_err-first-clause-does c =
    passed_on _ _ _ c.from_residual.ensures.1
    (rule_wrong (asked_by c.args.at.file) _ _ _ _ _ _ _ _ c.requires.held_ruled _ c.trim_end.ensures _ _ _
    c.rule_records.ensures c.new-rules.ensures.rules c.heading_of.ensures _ c.in_err-first.was)

pub returns-in_err-areas-in-Repeated-clause-does : goal.returns-in_err-areas-in-Repeated-clause-does
returns-in_err-areas-in-Repeated-clause-does c =
    passed_on _ _ _ c.from_residual-in_err-areas-in-Repeated.ensures.1
    (rule_no_room (asked_by c.args.at.file) _ _ _ _ _ _ _ _ c.requires.held_ruled _ c.trim_end.ensures _ _ _
    c.rule_records.ensures c.new-rules.ensures.rules c.heading_of.ensures c.in_ok-first.was _ _ c.in-Repeated.is _ c.add_duplicate_occurrence.ensures
    c.args.areas.now.counts c.in_err-areas-in-Repeated.was)

pub returns-in_ok-areas-in-Repeated-clause-does : goal.returns-in_ok-areas-in-Repeated-clause-does
returns-in_ok-areas-in-Repeated-clause-does c =
    rule_repeated (asked_by c.args.at.file) _ _ _ _ _ _ _ _ c.requires.held_ruled _ c.trim_end.ensures _ _ _
    c.rule_records.ensures c.new-rules.ensures.rules c.heading_of.ensures c.in_ok-first.was _ _ c.in-Repeated.is _ c.add_duplicate_occurrence.ensures
    c.in_ok-areas-in-Repeated.was

pub returns-in-Fresh-clause-does : goal.returns-in-Fresh-clause-does
returns-in-Fresh-clause-does c =
    rule_fresh (asked_by c.args.at.file) _ _ _ _ _ _ _ _ c.requires.held_ruled _ c.trim_end.ensures _ _ _
    c.rule_records.ensures c.new-rules.ensures.rules c.heading_of.ensures c.in_ok-first.was _ _ c.in-Fresh.is _ c.trim_end_unescaped-c.ensures
    _ c.parse_pattern.new.areas.counts c.parse_pattern.ensures.faults.bytes c.parse_pattern.ensures.faults.count c.parse_pattern.ensures.does
