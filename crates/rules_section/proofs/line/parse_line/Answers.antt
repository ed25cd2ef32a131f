-- `rules_section::line::parse_line` meets its contract: text that starts with whitespace is a fault.
use Rattle.fault.proofs.Steps.{passed_on}
use Rattle.section.specs.Request.{asked_by}
use Rattle.rules_section.proofs.RuleLines.{line_verbatim, line_no_room}
use Rattle.rules_section.proofs.line.parse_line.Goals as goal

pub returns-in_err-areas-clause-does : goal.returns-in_err-areas-clause-does
returns-in_err-areas-clause-does c =
    passed_on _ _ _ c.from_residual.ensures.1
    (line_no_room (asked_by c.args.at.file) _ _ _ _ _ _ _ _ c.requires.held_ruled _ c.matches_whitespace.ensures c.if-matches_whitespace.true _
    c.add_fault.ensures c.args.areas.now.counts c.in_err-areas.was)

pub returns-then-matches_whitespace-clause-does : goal.returns-then-matches_whitespace-clause-does
returns-then-matches_whitespace-clause-does c =
    line_verbatim (asked_by c.args.at.file) _ _ _ _ _ _ _ _ c.requires.held_ruled _ c.matches_whitespace.ensures c.if-matches_whitespace.true _
    c.add_fault.ensures c.in_ok-areas.was
