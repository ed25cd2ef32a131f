-- `characters::walk::find_last` meets its contract: at each position passed the answer is false.
use Rattle.std.proofs.Common.{ℕ, ◌≤◌, ◌<◌, false}
use Rattle.characters.proofs.walk.find_last.Given as goal

abbrev pub invariant-loop-k : goal.invariant-loop-k
invariant-loop-k g l = (m : ℕ) → l.k ≤ m → m < l.e → goal.F-post g l.test m false
