-- `winner::greatest_length` meets its contract: what is kept is the greatest of the lengths so far.
use Rattle.std.proofs.Common.{◌≡◌}
use Rattle.winner.specs.Winner.{length_in, greatest}
use Rattle.winner.proofs.greatest_length.Given as goal

abbrev pub invariant-loop-k : goal.invariant-loop-k
invariant-loop-k l = l.top ≡ greatest (length_in l.row) l.k
