-- `characters::class::may_be_blank` meets its contract: by its entry in the table each byte that it rules out is no blank.
use mathlib.Core.Path.{refl}
use lib.Dec.{leb}
use Rattle.characters.proofs.Table.{table}
use Rattle.characters.proofs.Shortcuts.{rules_out_blanks}
use Rattle.characters.proofs.class.may_be_blank.Goals as goal

pub returns : goal.returns
unfolding table
returns c = rules_out_blanks (λ b. leb b _) refl c.args.b c.ranges.b.fits
