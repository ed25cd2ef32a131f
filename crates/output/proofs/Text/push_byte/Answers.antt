-- `output::Text::push_byte` meets its contract: with room the byte is stored, and without nothing is.
use Rattle.std.proofs.Common.{refl, arith}
use lib.ListN.{length-set}
use Rattle.output.proofs.Appending.{byte_in, byte_out}
use Rattle.output.proofs.Text.push_byte.Goals as goal

pub returns-then-self : goal.returns-then-self
returns-then-self c = record {
  area = record { lent = refl; long = length-set c.args.self.now.bytes.now c.args.self.now.count c.args.b };
  is = byte_in c.args.self.now.bytes.now c.args.self.now.count c.args.b c.if-self.true;
}

pub returns-else-self : goal.returns-else-self
returns-else-self c = record {
  area = record { lent = refl; long = refl };
  is = byte_out c.args.self.now.bytes.now c.args.self.now.count c.args.b c.if-self.false;
}
