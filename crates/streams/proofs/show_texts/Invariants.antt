-- The calls at the texts that are left end where those at all texts do.
use Rattle.std.proofs.Common.{length}
use Rattle.streams.specs.Texts.{texts, Shown}
use Rattle.streams.proofs.show_texts.Given as goal

abbrev pub invariant-loop-left : goal.invariant-loop-left
invariant-loop-left g l =
    goal.F-IsAlwaysCallable g l.show
    × ((last : _) → Shown (goal.F-step g) (texts l.end l.left) l.show last → Shown (goal.F-step g) (texts l.fn.end l.fn.input) l.fn.show last)

abbrev pub decreases-loop-left : goal.decreases-loop-left
decreases-loop-left g l = length l.left
