-- `text::scan::past_endless` meets its contract: from where the loop stands the line ends at the same place, since no block that is passed ends it.
use mathlib.Core.Path.{◌≡◌}
use Prim.Native.Nat.{◌≤◌, ◌-◌}
use lib.ListN.{length}
use Rattle.text.specs.Scan.{line_end}
use Rattle.text.proofs.scan.past_endless.Given as goal

abbrev pub invariant-loop-k : goal.invariant-loop-k
invariant-loop-k l = (l.i ≤ l.k) × (l.k ≤ length l.s) × (line_end l.s l.i ≡ line_end l.s l.k)

abbrev pub decreases-loop-k : goal.decreases-loop-k
decreases-loop-k l = length l.s - l.k
