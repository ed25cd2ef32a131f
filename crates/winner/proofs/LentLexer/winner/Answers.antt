-- `winner::LentLexer::winner` meets its contract: the first live rule that has the greatest length of the row wins, and where there is none
-- the scan tells.
use Rattle.std.proofs.Common.{arith}
use Rattle.winner.proofs.Topping.{none_wins, one_wins, winner_first}
use Rattle.winner.proofs.LentLexer.winner.Goals as goal

pub returns-in-Some : goal.returns-in-Some
returns-in-Some c = winner_first _ _ _ _ _ c.args.row.greatest_is (omega arith) c.first_longest.ensures c.in-Some.is

pub returns-then-b-eq0 : goal.returns-then-b-eq0
returns-then-b-eq0 c = none_wins c.longest-b.ensures c.if-b-eq0.true

pub returns-else-b-eq0 : goal.returns-else-b-eq0
returns-else-b-eq0 c = one_wins c.longest-b.ensures c.if-b-eq0.false
