-- `text::scan::trim_end_by_characters` meets its contract: from where the loop stands the trimmed text ends at the same place.
use mathlib.Core.Path.{◌≡◌}
use Prim.Native.Nat.{◌≤◌, ◌-◌}
use Rattle.text.specs.Scan.{trim_end}
use Rattle.text.proofs.scan.trim_end_by_characters.Given as goal

abbrev pub invariant-loop-k : goal.invariant-loop-k
invariant-loop-k l = (l.i ≤ l.k) × (l.k ≤ l.e) × (trim_end l.s l.i l.e ≡ trim_end l.s l.k l.e)

abbrev pub decreases-loop-k : goal.decreases-loop-k
decreases-loop-k l = l.e - l.k
