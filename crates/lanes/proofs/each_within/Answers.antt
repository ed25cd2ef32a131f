-- `lanes::each_within` meets its contract: where the joint of the excesses is 0, each is.
use Rattle.std.proofs.Common.{arith}
use Rattle.lanes.proofs.LaneLaws.{entries_to, excess_next}
use Rattle.lanes.proofs.each_within.Goals as goal

pub loop-j-preserved : goal.loop-j-preserved
loop-j-preserved c =
    λ e. entries_to _ _ _ _ _ (omega arith) (excess_next _ _ _ _ _ _ _ c.loop-j.invariant c.get.ensures c.saturating_sub-excess.ensures e)
