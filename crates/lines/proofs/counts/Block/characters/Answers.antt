-- `lines::counts::Block::characters` meets its contract: `starts_character` is counted.
use borrow.Author.Rules.{rules}
use mathlib.Core.Bool.{not}
use Rattle.characters.specs.Utf8.{is_continuation}
use Rattle.lines.proofs.counts.Block.characters.Goals as goal

pub returns : goal.returns
returns c = c.count.ensures (λ b. not (is_continuation b)) (λ b r e. search rules)
