-- `characters::class::is_always_kept_in` meets its contract: three classes by the lent table's rule at the byte.
use Rattle.characters.proofs.Shortcuts.{by_kept_classes}
use Rattle.characters.proofs.class.is_always_kept_in.Goals as goal

pub returns : goal.returns
returns c = by_kept_classes c.args.b _ (c.requires.rule c.args.b c.ranges.b.fits)
