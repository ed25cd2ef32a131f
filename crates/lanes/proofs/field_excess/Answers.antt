-- `lanes::field_excess` meets its contract: where the joint of two numbers is 0, both are.
use Rattle.lanes.proofs.LaneLaws.{fields_within}
use Rattle.lanes.proofs.field_excess.Goals as goal

pub returns : goal.returns
returns c = fields_within _ _ _ _ _ _ c.saturating_sub.ensures c.saturating_sub-2.ensures
