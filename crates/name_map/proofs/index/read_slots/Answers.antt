-- `name_map::index::read_slots` meets its contract: one more option is read of one more slot, up to all of them.
use Rattle.std.proofs.Common.{arith}
use Rattle.name_map.proofs.Slots.{reading_next, reading_all}
use Rattle.name_map.proofs.index.read_slots.Goals as goal

pub loop-k-preserved : goal.loop-k-preserved
loop-k-preserved g c = reading_next _ c.loop-k.invariant _ (omega (arith, c.loop-k-test.true)) _ c.entry.ensures

pub returns : goal.returns
returns g c = reading_all _ c.loop-k.invariant (omega arith)
