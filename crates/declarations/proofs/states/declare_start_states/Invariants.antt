-- `declarations::states::declare_start_states` meets its contract: the loop has come to the name at `at`.
use Prim.Native.Nat.{◌-◌}
use Rattle.declarations.specs.Declarations.{state_names}
use Rattle.declarations.specs.Areas.{name_caps_in, names_held_in}
use Rattle.declarations.proofs.Declares.{Declares}
use Rattle.declarations.proofs.states.declare_start_states.Given as goal

abbrev pub invariant-loop-at : goal.invariant-loop-at
invariant-loop-at l = Declares (state_names l.part.file.source.now (name_caps_in l.initial.areas) l.exclusive l.part.line (names_held_in l.initial.areas))
    l.part.file.source.now l.exclusive l.part.line.end l.initial.areas l.at l.areas

abbrev pub decreases-loop-at : goal.decreases-loop-at
decreases-loop-at l = l.part.line.end - l.at
