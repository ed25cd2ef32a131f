-- `lanes::join` meets its contract: the lanes so far are joined.
use Rattle.lanes.specs.Lanes.{Joined}
use Rattle.lanes.proofs.join.Given as goal

abbrev pub invariant-loop-j : goal.invariant-loop-j
invariant-loop-j l = Joined l.area l.limits l.at l.j l.initial.excess l.excess
