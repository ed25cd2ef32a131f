-- The number says how many bytes stand behind it.
use Rattle.std.proofs.Common.{refl, ◌∙◌, arith}
use Rattle.recorded.specs.Records.{bytes_at, bytes_end, next_bytes}
use Rattle.recorded.proofs.reader.Cursor.bytes.Goals as goal

pub returns : goal.returns
unfolding bytes_at bytes_end next_bytes
returns c = record {
  is = c.take.ensures.is ∙ rw (c.number-n.ensures.goes.at_is, c.number-n.ensures.goes.same, c.number-n.ensures.is) refl;
  goes = record {
    at_is = c.take.ensures.goes.at_is ∙ rw (c.number-n.ensures.goes.at_is, c.number-n.ensures.goes.same, c.number-n.ensures.is) refl;
    same = c.take.ensures.goes.same ∙ c.number-n.ensures.goes.same;
    on = omega (arith, c.take.ensures.goes.on, c.number-n.ensures.goes.on);
  };
}
