-- `lines::search::Reached::pass_by` meets its contract: where it stands, the place is known and not past what is sought.
use Prim.Native.Nat.{◌-◌}
use lib.ListN.{length}
use Rattle.lines.specs.Places.{Reaches}
use Rattle.lines.proofs.search.Reached.pass_by.Given as goal

abbrev pub invariant-loop-next : goal.invariant-loop-next
invariant-loop-next g l = Reaches l.source.bytes.now l.sought l.reached

abbrev pub decreases-loop-next : goal.decreases-loop-next
decreases-loop-next g l = length l.source.bytes.now - l.reached.byte.0
