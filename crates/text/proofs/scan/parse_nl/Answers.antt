-- `text::scan::parse_nl` meets its contract: so does each line end.
use Rattle.std.proofs.Common.{rules}
use Rattle.characters.specs.Whitespace.{line_end_len}
use Rattle.characters.proofs.Spaces.{end_inside}
use Rattle.text.proofs.scan.parse_nl.Goals as goal

pub returns : goal.returns
returns c = c.skip.ensures.rule (line_end_len c.args.s.now) (end_inside c.args.s.now) (λ k n h a. search rules)
