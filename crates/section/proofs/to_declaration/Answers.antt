-- `section::to_declaration` meets its contract: what it skips is measured by `whitespace_len`.
use Rattle.std.proofs.Common.{rules}
use Rattle.characters.specs.Whitespace.{whitespace_len}
use Rattle.section.specs.Section.{to_declaration, past_line}
use Rattle.characters.proofs.Spaces.{white_inside}
use Rattle.section.proofs.to_declaration.Goals as goal

pub returns : goal.returns
unfolding to_declaration past_line
returns c = c.past_comments.ensures.rule (whitespace_len c.args.src.now) (white_inside c.args.src.now) (λ k n h a. search rules)
