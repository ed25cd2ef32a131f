-- `characters::class::class` meets its contract: no class above the lower half of the table, and below it the table's rule at the byte.
use Rattle.characters.proofs.Table.{table_rule, table, none_above}
use Rattle.characters.proofs.class.class.Goals as goal

pub returns-then-b-ge128 : goal.returns-then-b-ge128
returns-then-b-ge128 c = none_above c.args.b c.if-b-ge128.true c.ranges.b.fits

pub returns : goal.returns
unfolding table
returns c = table_rule c.args.b c.ranges.b.fits
