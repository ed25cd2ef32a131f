-- `declarations::parse_declarations` meets its contract: the loop has come to the line `line`.
use Prim.Native.Nat.{◌-◌}
use lib.ListN.{length}
use Rattle.declarations.specs.Areas.{caps_in, declared_held_in}
use Rattle.declarations.proofs.Lines.{Sections, section}
use Rattle.declarations.proofs.parse_declarations.Given as goal

abbrev pub invariant-loop-file : goal.invariant-loop-file
invariant-loop-file l =
    Sections (section l.file.source.now l.file.options (caps_in l.initial.areas) l.i (declared_held_in l.initial.areas))
    l.file.source.now l.file.options l.initial.areas l.line l.areas

abbrev pub decreases-loop-file : goal.decreases-loop-file
decreases-loop-file l = length l.file.source.now - l.line.start
