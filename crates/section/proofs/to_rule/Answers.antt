-- `section::to_rule` meets its contract: what it skips is measured by `line_end_len`.
use Rattle.std.proofs.Common.{rules}
use Rattle.characters.specs.Whitespace.{line_end_len}
use Rattle.section.specs.Section.{to_rule, past_rule_line}
use Rattle.characters.proofs.Spaces.{end_inside}
use Rattle.section.proofs.to_rule.Goals as goal

pub returns : goal.returns
unfolding to_rule past_rule_line
returns c = c.past_comments.ensures.rule (line_end_len c.args.src.now) (end_inside c.args.src.now) (λ k n h a. search rules)
