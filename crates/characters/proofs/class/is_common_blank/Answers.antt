-- `characters::class::is_common_blank` meets its contract: by its entry in the table the byte that it tells is a blank.
use mathlib.Core.Path.{refl}
use lib.Dec.{eqb}
use Rattle.characters.proofs.Table.{table}
use Rattle.characters.proofs.Shortcuts.{tells_blank}
use Rattle.characters.proofs.class.is_common_blank.Goals as goal

pub returns : goal.returns
unfolding table
returns c = tells_blank (λ b. eqb b _) refl c.args.b c.ranges.b.fits
