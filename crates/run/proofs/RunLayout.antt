-- A run in memory, as the host lends it: n, position, depth, moves and kind, two bytes each, in this order (01, The run; 02, 3/13).
use mathlib.Core.Path.{◌≡◌, refl}
use mathlib.Core.List.{[], ◌∷◌}
use mir.Syntax.{w16}
use mir.Val.{vint, vstruct, vnil, vcons}
use denote.Struct.Laws.{vals}
use Rattle.run.specs.declared.Run.{Run}
use Rattle.run.specs.contracts.Run as RunType
use Rattle.run.proofs.Run.TheLaws as RunLaws

pub run_layout : (r : Run) → vals RunType.the_type RunLaws.the_laws r
    ≡ vstruct (vcons (vint w16 r.n) (vcons (vint w16 r.position) (vcons (vint w16 r.depth) (vcons (vint w16 r.moves) (vcons (vint w16 r.kind) vnil))))) ∷ []
run_layout r = refl
