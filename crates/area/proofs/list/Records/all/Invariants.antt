use Rattle.area.proofs.Asking.{Passing}
use Rattle.area.proofs.list.Records.all.Given as goal

abbrev pub invariant-loop-k : goal.invariant-loop-k
invariant-loop-k g l = Passing (goal.F-post g l.test) g.R.Record.format.blank l.self l.k l.passed
