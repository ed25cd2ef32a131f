-- `characters::class::is_common_line_end` meets its contract: by its entry in the table the byte that it tells is a line end.
use mathlib.Core.Path.{refl}
use lib.Dec.{eqb}
use Rattle.characters.proofs.Table.{table}
use Rattle.characters.proofs.Shortcuts.{tells_line_end}
use Rattle.characters.proofs.class.is_common_line_end.Goals as goal

pub returns : goal.returns
unfolding table
returns c = tells_line_end (λ b. eqb b _) refl c.args.b c.ranges.b.fits
