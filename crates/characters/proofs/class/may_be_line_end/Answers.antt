-- `characters::class::may_be_line_end` meets its contract: by its entry in the table each byte that it rules out is no line end.
use mathlib.Core.Path.{refl}
use lib.Dec.{ltb}
use Rattle.characters.proofs.Table.{table}
use Rattle.characters.proofs.Shortcuts.{rules_out_line_ends}
use Rattle.characters.proofs.class.may_be_line_end.Goals as goal

pub returns : goal.returns
unfolding table
returns c = rules_out_line_ends (λ b. ltb b _) refl c.args.b c.ranges.b.fits
