-- `lines::counts::Block::count` meets its contract: it has counted the bytes up to where it stands.
use Prim.Native.Nat.{◌+◌, ◌≤◌}
use Rattle.lines.specs.Places.{Counts}
use Rattle.lines.proofs.counts.Block.count.Given as goal

abbrev pub invariant-loop-b : goal.invariant-loop-b
invariant-loop-b g l =
    let block = l.self in
    (l.n ≤ l.b-index) × Counts (goal.F-post g l.test) block.source.bytes.now block.from.0 (block.from.0 + l.b-index) l.n
