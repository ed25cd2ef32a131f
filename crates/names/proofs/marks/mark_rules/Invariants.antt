-- `names::marks::mark_rules` meets its contract: the rules before j have their marks.
use Rattle.std.specs.Prelude.{take}
use Rattle.names.specs.Marks.{Marked}
use Rattle.names.proofs.marks.mark_rules.Given as goal

abbrev pub invariant-loop-j : goal.invariant-loop-j
invariant-loop-j l = Marked l.src (take l.j l.rules) l.marks
