-- `output::Text::push_text` meets its contract: as much is copied as there is room for.
use Rattle.std.proofs.Common.{refl, arith}
use Rattle.output.proofs.Appending.{copied}
use Rattle.output.proofs.Text.push_text.Goals as goal

pub returns : goal.returns
returns c = record {
  area = record { lent = refl; long = omega (arith, c.copy_from_slice.ensures.len) };
  is = copied c.args.self.now.bytes.now c.args.s.now _ c.args.self.now.count c.min-n.result _ c.args.self.now.within c.min-n.ensures c.copy_from_slice.ensures.after;
}
