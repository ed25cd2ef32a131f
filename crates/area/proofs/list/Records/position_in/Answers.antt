use Rattle.std.proofs.Common.{arith}
use Rattle.area.proofs.Asking.{passed_none, passed_next, passed_found, passed_end}
use Rattle.area.proofs.list.Records.position_in.Goals as goal

pub loop-k-init : goal.loop-k-init
loop-k-init g c = passed_none

pub loop-k-preserved : goal.loop-k-preserved
loop-k-preserved g c = passed_next c.loop-k.invariant (omega arith) (omega arith) c.get.ensures c.test.ensures c.if-test.false

pub returns-then-test : goal.returns-then-test
returns-then-test g c = passed_found c.loop-k.invariant (omega arith) (omega arith) c.get.ensures c.test.ensures c.if-test.true

pub returns : goal.returns
returns g c = passed_end c.loop-k.invariant (omega arith) (omega arith)
