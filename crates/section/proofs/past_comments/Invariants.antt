-- `section::past_comments` meets its contract: from where the loop stands, with nothing left to skip there, the walk comes to rest at the same place.
use Rattle.std.proofs.Common.{◌≡◌, ℕ, ◌+◌, ◌≤◌, ◌<◌, ◌-◌, length}
use Rattle.characters.specs.Walk.{skip, repeat, Between}
use Rattle.section.specs.Section.{past_both}
use Rattle.section.proofs.past_comments.Given as goal

abbrev pub invariant-loop-options : goal.invariant-loop-options
invariant-loop-options g l =
    (l.i ≤ l.k)
    × (l.k ≤ length l.src)
    × ((width : ℕ → ℕ)
    → ((k : ℕ) → 0 < width k → k + width k ≤ length l.src)
    → ((k n : ℕ) → k ≤ length l.src → goal.F-post g l.skip k n → Between k (length l.src) (skip width (length l.src) k) n)
    → (repeat (past_both l.src l.options width) (length l.src) l.i ≡ repeat (past_both l.src l.options width) (length l.src) l.k) × (width l.k ≡ 0))

abbrev pub decreases-loop-options : goal.decreases-loop-options
decreases-loop-options g l = length l.src - l.k
