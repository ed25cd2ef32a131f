-- `characters::walk::any_of` meets its contract: what it has found is right of the positions passed.
use Rattle.characters.specs.Walk.{Asks}
use Rattle.characters.proofs.walk.any_of.Given as goal

abbrev pub invariant-loop-j : goal.invariant-loop-j
invariant-loop-j g l = Asks (goal.F-post g l.test) l.j l.found
