-- `lines::counts::Block::count` meets its contract: it has counted the bytes up to where it stands.
use native.Mathlib.Omega.{arith}
use Rattle.lines.proofs.Counting.{one_most, count_begins, counted_byte, counted_all}
use Rattle.lines.proofs.counts.Block.count.Goals as goal

pub loop-b-init : goal.loop-b-init
loop-b-init g c = (omega arith, λ passes h. count_begins c.args.self.now.source.bytes.now passes c.args.self.now.from.0)

pub loop-b-preserved : goal.loop-b-preserved
loop-b-preserved g c =
    let b = c.args.self.now in
    let loop = c.loop-b in (
      omega (arith, loop.invariant.0, c.from-n.ensures, one_most c.test.result),
      λ passes h.
          counted_byte b.source.bytes.now passes b.from.0 b.to.0 loop.b-index loop.n (loop.invariant.1 passes h)
          c.test.result c.from-n.result c.from-n.ensures c.loop-b-test.true (h _ _ c.test.ensures),
    )

pub returns : goal.returns
returns g c =
    let b = c.args.self.now in
    let loop = c.loop-b in
    λ passes h.
    counted_all b.source.bytes.now passes b.from.0 b.to.0 loop.b-index loop.n (loop.invariant.1 passes h)
    b.range.ordered b.range.inside c.loop-b-test.false loop.auto.b-index-end
