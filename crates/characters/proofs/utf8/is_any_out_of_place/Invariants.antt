-- `characters::utf8::is_any_out_of_place` meets its contract: in the blocks passed no byte is out of place.
use mathlib.Core.Path.{◌≡◌}
use mathlib.Core.Bool.{false}
use Prim.Native.Nat.{◌≤◌, ◌-◌}
use Rattle.characters.specs.Shortcuts.{out_of_place_behind}
use Rattle.characters.specs.Walk.{any}
use Rattle.characters.proofs.utf8.is_any_out_of_place.Given as goal

abbrev pub invariant-loop-k : goal.invariant-loop-k
invariant-loop-k l = (l.k ≤ l.n) × (any (out_of_place_behind l.s) l.k ≡ false)

abbrev pub decreases-loop-k : goal.decreases-loop-k
decreases-loop-k l = l.n - l.k
