-- The cursor goes to the place, or to the end.
use Rattle.std.proofs.Common.{arith, refl}
use Rattle.recorded.specs.Records.{skip_to}
use Rattle.recorded.proofs.reader.Cursor.skip.Goals as goal

pub returns : goal.returns
unfolding skip_to
returns c = record {
  at_is = omega arith;
  same = refl;
  on = omega arith;
}
