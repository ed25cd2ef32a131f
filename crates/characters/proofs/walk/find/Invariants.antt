-- `characters::walk::find` meets its contract: at each position passed the answer is false.
use Rattle.std.proofs.Common.{ℕ, ◌≤◌, ◌<◌, false}
use Rattle.characters.proofs.walk.find.Given as goal

abbrev pub invariant-loop-k : goal.invariant-loop-k
invariant-loop-k g l = (m : ℕ) → l.i ≤ m → m < l.k → goal.F-post g l.test m false
