-- `lines::counts::Block::line_ends` meets its contract: `ends_line` is counted, in a whole block by the bits.
use borrow.Author.Rules.{rules}
use native.Mathlib.Omega.{arith}
use lib.Dec.{eqb}
use Rattle.lines.specs.Lines.{line_feed}
use Rattle.lines.proofs.Counting.{bits_counted}
use Rattle.lines.proofs.counts.Block.line_ends.Goals as goal

pub returns-then-self-eq-BLOCK : goal.returns-then-self-eq-BLOCK
returns-then-self-eq-BLOCK c =
    let b = c.args.self.now in
    bits_counted b.source.bytes.now b.from.0 c.end_bits.result (omega (arith, c.if-self-eq-BLOCK.true, b.range.ordered, b.range.inside))
    c.end_bits.ensures b.to.0 (omega (arith, c.if-self-eq-BLOCK.true, b.range.ordered))

pub returns : goal.returns
returns c = c.count.ensures (λ b. eqb b line_feed) (λ b r e. search rules)
