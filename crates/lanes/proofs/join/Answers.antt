-- `lanes::join` meets its contract: the lanes so far are joined.
use Rattle.std.proofs.Common.{arith}
use Rattle.lanes.proofs.LaneLaws.{or_none, joined_next, fields_at, sum_at}
use Rattle.lanes.proofs.join.Goals as goal

pub loop-j-preserved : goal.loop-j-preserved
loop-j-preserved c =
    let is = c.read_lane-x.ensures in
    let joined = c.loop-j.invariant in
    record {
      fields = joined_next _ _ _ _ joined.fields (omega arith) _ (λ e. fields_at _ _ _ _ is _ _ _ _ c.field_excess-fields.ensures (or_none _ _ e).0);
      totals = joined_next _ _ _ _ joined.totals (omega arith) _ (λ e. sum_at _ _ _ _ is _ _ _ c.sum_excess.ensures (or_none _ _ e).1);
    }
