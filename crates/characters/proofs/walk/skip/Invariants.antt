-- `characters::walk::skip` meets its contract: from where the loop stands the walk ends where it would from the start.
use Rattle.std.proofs.Common.{◌≡◌, ℕ, ◌+◌, ◌≤◌, ◌<◌, ◌-◌}
use Rattle.characters.specs.Walk.{skip}
use Rattle.characters.proofs.walk.skip.Given as goal

abbrev pub invariant-loop-width : goal.invariant-loop-width
invariant-loop-width g l =
    (l.i ≤ l.k)
    × (l.k ≤ l.e)
    × ((width : ℕ → ℕ)
    → ((k : ℕ) → 0 < width k → k + width k ≤ l.e)
    → ((k n : ℕ) → k ≤ l.e → goal.F-post g l.width k n → n ≡ width k)
    → skip width l.e l.i ≡ skip width l.e l.k)

abbrev pub decreases-loop-width : goal.decreases-loop-width
decreases-loop-width g l = l.e - l.k
