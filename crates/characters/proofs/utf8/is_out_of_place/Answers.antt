-- `characters::utf8::is_out_of_place` meets its contract: its tests are those of the definition.
use Rattle.std.proofs.Common.{refl}
use Rattle.characters.specs.Shortcuts.{out_of_place}
use Rattle.characters.proofs.utf8.is_out_of_place.Goals as goal

pub returns : goal.returns
unfolding out_of_place
returns c = rw (c.is_continuation-inside.ensures, c.within-below_a0.ensures, c.within-below_90.ensures, c.within.ensures) refl
