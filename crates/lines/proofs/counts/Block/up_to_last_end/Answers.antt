-- `lines::counts::Block::up_to_last_end` meets its contract: in a whole block by the highest bit.
use mathlib.Core.Path.{◌≡◌}
use Prim.Native.Nat.{◌+◌, ◌≤◌}
use native.Mathlib.Omega.{arith}
use lib.ListN.{length}
use Rattle.lines.proofs.Counting.{highest_bit}
use Rattle.lines.proofs.counts.Block.up_to_last_end.Goals as goal

pub returns-else-bits-eq0 : goal.returns-else-bits-eq0
returns-else-bits-eq0 c =
    let b = c.args.self.now in
    let bound = c.ilog2.ensures in
    let whole : b.to.0 ≡ b.from.0 + 64 = omega (arith, c.if-self-eq-BLOCK.true, b.range.ordered) in
    let room : b.from.0 + 64 ≤ length b.source.bytes.now = omega (arith, whole, b.range.inside) in
    highest_bit b.source.bytes.now b.from.0 c.end_bits-bits.result room c.end_bits-bits.ensures
    b.to.0 c.ilog2.result whole bound.power_le bound.next_power_gt bound.bound
