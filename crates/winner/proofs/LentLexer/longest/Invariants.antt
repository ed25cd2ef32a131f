-- `winner::LentLexer::longest` meets its contract: what is kept is the best of the rules so far.
use Rattle.std.proofs.Common.{◌≡◌}
use Rattle.winner.specs.Winner.{weight, best}
use Rattle.winner.proofs.LentLexer.longest.Given as goal

abbrev pub invariant-loop-k : goal.invariant-loop-k
invariant-loop-k l = l.b ≡ best (weight l.self l.state l.row.bytes.now) l.k
