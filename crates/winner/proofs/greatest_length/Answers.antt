-- `winner::greatest_length` meets its contract: what is kept is the greatest of the lengths so far.
use Rattle.std.proofs.Common.{arith, ◌∙◌}
use Rattle.winner.proofs.Winning.{greatest_none, greatest_more, lengths_count, length_read}
use Rattle.winner.proofs.greatest_length.Goals as goal

pub loop-k-init : goal.loop-k-init
loop-k-init c = greatest_none _

pub get-requires : goal.get-requires
get-requires c = omega (arith, lengths_count _ _ c.new-lengths.ensures)

pub loop-k-preserved : goal.loop-k-preserved
loop-k-preserved c =
    greatest_more _ _ _ _ _ c.loop-k.invariant (c.get.ensures ∙ length_read _ _ c.new-lengths.ensures _ c.loop-k-test.true) c.max-top.ensures
