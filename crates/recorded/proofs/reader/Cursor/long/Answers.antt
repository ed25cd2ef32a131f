-- Eight bytes make the number.
use Rattle.std.proofs.Common.{◌∙◌}
use Rattle.recorded.proofs.Reading.{long_read}
use Rattle.recorded.proofs.reader.Cursor.long.Goals as goal

pub returns : goal.returns
returns c = record {
  is = c.from_le_bytes.ensures ∙ long_read _ _ _ c.front.ensures.is;
  goes = c.front.ensures.goes;
}
