-- `link::numbers::count_unused` meets its contract: the marks so far are counted.
use mathlib.Core.Path.{◌≡◌}
use Prim.Native.Nat.{◌≤◌}
use lib.ListN.{length}
use Rattle.link.specs.Matches.{unmarked}
use Rattle.link.proofs.numbers.count_unused.Given as goal

abbrev pub invariant-loop-j : goal.invariant-loop-j
invariant-loop-j l = (l.n ≤ l.j) × (l.n ≡ length (unmarked l.used l.j))
