-- `rules_section::pattern::parse_pattern` meets its contract: each return is an outcome of what the pattern is.
use mathlib.Core.Path.{◌∙◌}
use Rattle.fault.proofs.Steps.{passed_on}
use Rattle.section.specs.Request.{asked_by}
use Rattle.rules_section.proofs.Patterns.{pattern_plain, pattern_listed, pattern_rewritten, pattern_list_err, pattern_text_full}
use Rattle.rules_section.proofs.pattern.parse_pattern.Goals as goal
use Rattle.rules_section.proofs.pattern.parse_pattern.Goals.{in-Listed+in_ok-parse_start_states-in-Listed, in-Rewritten+in_ok-areas-in-Rewritten, in-Plain}

pub returns-in_err-parse_start_states-in-Listed-clause-does : goal.returns-in_err-parse_start_states-in-Listed-clause-does
returns-in_err-parse_start_states-in-Listed-clause-does c =
    passed_on _ _ _ c.from_residual.ensures.1
    (pattern_list_err (asked_by c.args.at.file) _ _ _ _ _ _ _ _ _ c.requires.held_sheet _ c.body_of.ensures _ c.in-Listed.is _ _ c.parse_start_states.ensures
    _ c.in_err-parse_start_states-in-Listed.was)

pub returns-in_err-areas-in-Rewritten-clause-does : goal.returns-in_err-areas-in-Rewritten-clause-does
returns-in_err-areas-in-Rewritten-clause-does c =
    passed_on _ _ _ c.from_residual-in_err-areas-in-Rewritten.ensures.1
    (pattern_text_full (asked_by c.args.at.file) _ _ _ _ _ _ _ _ _ c.requires.held_sheet _ c.body_of.ensures c.in-Rewritten.is _ c.unescape.ensures
    c.args.areas.now.counts.sheet c.in_err-areas-in-Rewritten.was)

-- where the ways join, the counts, the areas and the text are those of the way that was taken
pub returns-clause-does : goal.returns-clause-does
returns-clause-does c =
    let held = c.requires.held_sheet in
    elim c.match-body_of.branch [
      | in-Listed+in_ok-parse_start_states-in-Listed w ↦
          rw w.areas-is (pattern_listed (asked_by c.args.at.file) _ _ _ _ _ _ _ _ _ held _ c.body_of.ensures
          _ _ _ (rw w.areas-is at c.record_rule.ensures) _ _ (rw w.areas-is at c.rule_with-rule.ensures) _ w.in-Listed.is _ _ w.parse_start_states.ensures
          w.in_ok-parse_start_states-in-Listed.was (w.text-is ∙ w.source_text-text.ensures) (rw w.areas-is at c.list_since-list.ensures))
      | in-Rewritten+in_ok-areas-in-Rewritten w ↦
          rw w.areas-is (pattern_rewritten (asked_by c.args.at.file) _ _ _ _ _ _ _ _ _ held _ c.body_of.ensures
          _ _ _ (rw w.areas-is at c.record_rule.ensures) _ _ (rw w.areas-is at c.rule_with-rule.ensures) w.in-Rewritten.is _ w.unescape.ensures
          _ w.in_ok-areas-in-Rewritten.was (w.text-is ∙ w.text_since-text.ensures) (rw w.areas-is at c.list_since-list.ensures))
      | in-Plain w ↦
          rw w.areas-is (pattern_plain (asked_by c.args.at.file) _ _ _ _ _ _ _ _ _ held _ c.body_of.ensures
          _ _ _ (rw w.areas-is at c.record_rule.ensures) _ _ (rw w.areas-is at c.rule_with-rule.ensures) w.in-Plain.is
          (w.text-is ∙ w.source_text-text-in-Plain.ensures) (rw w.areas-is at c.list_since-list.ensures))
    ]
