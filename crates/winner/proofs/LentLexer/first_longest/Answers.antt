-- `winner::LentLexer::first_longest` meets its contract: a rule has the weight where the row has it as its length and the rule is live.
use Rattle.std.proofs.Common.{rules, arith}
use Rattle.winner.proofs.Winning.{lengths_count}
use Rattle.winner.proofs.Topping.{longest_found}
use Rattle.winner.proofs.LentLexer.first_longest.Goals as goal

pub position-requires : goal.position-requires
position-requires c = λ k h. (c.requires.state_declared, omega (arith, h, c.requires.row_long, lengths_count _ _ c.lengths.ensures))

pub returns : goal.returns
returns c = longest_found _ _ _ _ c.requires.top_nonzero _ c.lengths.ensures _ c.position.ensures (λ k l b p. search rules)
