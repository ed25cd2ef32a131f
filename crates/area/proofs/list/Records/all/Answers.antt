use Rattle.std.proofs.Common.{arith}
use Rattle.area.proofs.Asking.{passing_none, passing_next, passing_all}
use Rattle.area.proofs.list.Records.all.Goals as goal

pub loop-k-init : goal.loop-k-init
loop-k-init g c = passing_none

pub loop-k-preserved : goal.loop-k-preserved
loop-k-preserved g c = passing_next c.loop-k.invariant (omega (arith, c.count-k-end.ensures)) c.get.ensures c.test-passed.ensures

pub returns : goal.returns
returns g c = passing_all c.loop-k.invariant (omega (arith, c.count-k-end.ensures))
