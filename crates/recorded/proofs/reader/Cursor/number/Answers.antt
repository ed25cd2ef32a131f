-- The number is read, and the cursor goes behind it.
use Rattle.recorded.proofs.reader.Cursor.number.Goals as goal

pub returns : goal.returns
returns c = record {
  is = c.number-n.ensures;
  goes = c.skip.ensures;
}
