-- `link::numbers::count_unused` meets its contract: the marks so far are counted.
use Rattle.link.proofs.Counting.{mark_counted}
use Rattle.link.proofs.numbers.count_unused.Goals as goal

pub loop-j-preserved : goal.loop-j-preserved
loop-j-preserved c = mark_counted _ _ _ c.loop-j.invariant.0 c.loop-j.invariant.1
