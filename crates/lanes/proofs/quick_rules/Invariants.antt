-- `lanes::quick_rules` meets its contract: the lanes of the rules so far are joined.
use Rattle.lanes.proofs.LaneLaws.{RulesJoined}
use Rattle.lanes.proofs.quick_rules.Given as goal

abbrev pub invariant-loop-k : goal.invariant-loop-k
invariant-loop-k l = RulesJoined l.area l.limits l.k l.excess l.excess
