-- The bytes from the place up to the next are those that are passed.
use Rattle.std.proofs.Common.{refl}
use Rattle.text.specs.Range.{part}
use Rattle.recorded.specs.Records.{next_bytes}
use Rattle.recorded.proofs.reader.Cursor.take.Goals as goal

pub returns : goal.returns
unfolding next_bytes part
returns c = record {
  is = rw (c.skip.ensures.at_is, c.skip.ensures.same) refl;
  goes = c.skip.ensures;
}
