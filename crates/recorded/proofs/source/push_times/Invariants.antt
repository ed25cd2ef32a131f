-- The piece is appended as many times as turns are done.
use Rattle.output.specs.Text.{Appends}
use Rattle.recorded.specs.Records.{repeated}
use Rattle.recorded.proofs.source.push_times.Given as goal

abbrev pub invariant-loop : goal.invariant-loop
invariant-loop l = Appends l.initial.text l.text (repeated l.counter l.piece)
