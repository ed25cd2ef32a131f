use Rattle.area.proofs.Asking.{Passed}
use Rattle.area.proofs.list.Records.position_in.Given as goal

abbrev pub invariant-loop-k : goal.invariant-loop-k
invariant-loop-k g l = Passed (goal.F-post g l.test) g.R.Record.format.blank l.self l.from l.end l.k
