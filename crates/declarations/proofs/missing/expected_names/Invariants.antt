-- `declarations::missing::expected_names` meets its contract: the loop has come to the name at a.
use Prim.Native.Nat.{◌-◌}
use lib.ListN.{length}
use Rattle.area.specs.Contents.{expected_format, contents}
use Rattle.declarations.specs.Declarations.{expected_names}
use Rattle.declarations.proofs.Expecting.{Expects}
use Rattle.declarations.proofs.missing.expected_names.Given as goal

abbrev pub invariant-loop-a : goal.invariant-loop-a
invariant-loop-a l = Expects (expected_names l.at.file.source.now (length l.initial.area) l.at.line l.w (contents expected_format l.initial.area l.initial.count)) l.at.file.source.now (length l.initial.area) l.at.line l.a l.area l.count

abbrev pub decreases-loop-a : goal.decreases-loop-a
decreases-loop-a l = l.at.line.end - l.a
