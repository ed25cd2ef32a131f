-- `lanes::all_zero` meets its contract: where the bits of all numbers are 0, each number is.
use Rattle.lanes.proofs.LaneLaws.{zero_all}
use Rattle.lanes.proofs.all_zero.Goals as goal

pub returns : goal.returns
returns c = zero_all c.joint.ensures
