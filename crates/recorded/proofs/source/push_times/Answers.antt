-- The piece is appended as many times as turns are done; one without bytes is nothing.
use Rattle.std.proofs.Common.{sym, ◌∙◌, eqb-true}
use Rattle.output.proofs.Appending.{joined_none, joined_next}
use Rattle.recorded.specs.Records.{repeated}
use Rattle.recorded.proofs.Pieces.{repeated_nothing}
use Rattle.recorded.proofs.source.push_times.Goals as goal

pub returns-then-is_empty : goal.returns-then-is_empty
returns-then-is_empty c = repeated_nothing c.args.times c.args.piece.now (eqb-true _ _ (sym c.is_empty.ensures ∙ c.if-is_empty.true))

pub loop-init : goal.loop-init
unfolding repeated
loop-init c = joined_none _

pub loop-preserved : goal.loop-preserved
unfolding repeated
loop-preserved c = joined_next _ {k = c.loop.counter} c.push_text.ensures c.loop.invariant
