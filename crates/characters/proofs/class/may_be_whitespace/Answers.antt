-- `characters::class::may_be_whitespace` meets its contract: by its entry in the table each byte that it rules out is no whitespace, and none is 128 or more.
use mathlib.Core.Path.{refl}
use mathlib.Core.Bool.{◌||◌}
use lib.Dec.{leb}
use Rattle.characters.proofs.Table.{table}
use Rattle.characters.proofs.Shortcuts.{rules_out_whitespace}
use Rattle.characters.proofs.class.may_be_whitespace.Goals as goal

pub returns : goal.returns
unfolding table
returns c = rules_out_whitespace (λ b. leb b _ || leb _ b) refl c.args.b c.ranges.b.fits
