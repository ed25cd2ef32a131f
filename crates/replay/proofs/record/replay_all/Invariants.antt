-- What is left of the file falls.
use Rattle.std.proofs.Common.{length, ◌≡◌, ◌-◌, ◌≤◌}
use Rattle.replay.proofs.record.replay_all.Given as goal

abbrev pub invariant-loop-cursor : goal.invariant-loop-cursor
invariant-loop-cursor g l = (l.cursor.answers.now ≡ l.answers) × (l.cases ≤ l.cursor.at) × (l.equal ≤ l.cases)

abbrev pub decreases-loop-cursor : goal.decreases-loop-cursor
decreases-loop-cursor g l = length l.answers - l.cursor.at
