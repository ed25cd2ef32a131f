-- `sheet_lines::put_lines` meets its contract: the first k lines are appended.
use Rattle.output.specs.Output.{joined}
use Rattle.output.specs.Text.{Appends}
use Rattle.sheet_lines.proofs.put_lines.Given as goal

abbrev pub invariant-loop-k : goal.invariant-loop-k
invariant-loop-k g l = Appends l.initial.out l.out (joined (g.R.Records.line l.records) l.k)
