-- `text::scan::parse_ws` meets its contract: each whitespace character ends within the text.
use Rattle.std.proofs.Common.{rules}
use Rattle.characters.specs.Whitespace.{whitespace_len}
use Rattle.characters.proofs.Spaces.{white_inside}
use Rattle.text.proofs.scan.parse_ws.Goals as goal

pub returns : goal.returns
returns c = c.skip.ensures.rule (whitespace_len c.args.s.now) (white_inside c.args.s.now) (λ k n h a. search rules)
