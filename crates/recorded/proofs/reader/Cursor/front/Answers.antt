-- The bytes are read, and the cursor goes behind them.
use Rattle.recorded.proofs.reader.Cursor.front.Goals as goal

pub returns : goal.returns
returns g c = record {
  is = c.front-bytes.ensures;
  goes = c.skip.ensures;
}
