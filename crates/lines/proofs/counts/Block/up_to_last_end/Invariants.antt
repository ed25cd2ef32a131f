-- `lines::counts::Block::up_to_last_end` meets its contract: it has the last line end of the bytes up to where it stands.
use Rattle.lines.specs.Places.{LastEnd}
use Rattle.lines.proofs.counts.Block.up_to_last_end.Given as goal

abbrev pub invariant-loop-k : goal.invariant-loop-k
invariant-loop-k l = LastEnd l.self.source.bytes.now l.self.from.0 l.k l.passed
