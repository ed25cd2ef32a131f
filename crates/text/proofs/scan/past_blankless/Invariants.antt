-- `text::scan::past_blankless` meets its contract: from where the loop stands the last blank is the same, since a block that is passed has none.
use mathlib.Core.Path.{◌≡◌}
use Prim.Native.Nat.{◌≤◌}
use Rattle.text.specs.Scan.{last_blank}
use Rattle.text.proofs.scan.past_blankless.Given as goal

abbrev pub invariant-loop-k : goal.invariant-loop-k
invariant-loop-k g l = (l.i ≤ l.k) × (l.k ≤ l.e) × (last_blank l.s l.i l.e ≡ last_blank l.s l.i l.k)

abbrev pub decreases-loop-k : goal.decreases-loop-k
decreases-loop-k g l = l.k
