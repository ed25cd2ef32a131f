-- `rules_section::lines::parse_rules` meets its contract: the loop has come to the line `line`, and what a search may use of the rules so far holds.
use Prim.Native.Nat.{◌-◌}
use lib.ListN.{length}
use Rattle.section.specs.Request.{asked_by}
use Rattle.rules_section.specs.RulesSection.{rules}
use Rattle.rules_section.specs.Areas.{caps_in, ruled_held_in}
use Rattle.rules_section.proofs.RuleLines.{Rules}
use Rattle.rules_section.proofs.lines.parse_rules.Given as goal

abbrev pub invariant-loop-marks : goal.invariant-loop-marks
invariant-loop-marks l = Rules
    (rules (asked_by l.file) l.states (caps_in l.initial.areas) (length l.initial.areas.faults.now) l.i (ruled_held_in l.initial.areas))
    (asked_by l.file) l.states l.initial.areas l.line l.areas l.marks

abbrev pub decreases-loop-marks : goal.decreases-loop-marks
decreases-loop-marks l = length l.file.source.now - l.line.start
