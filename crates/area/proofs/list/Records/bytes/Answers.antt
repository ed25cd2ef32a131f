-- `area::list::Records::bytes` meets its contract: the records are those of the area that was lent.
use Rattle.area.proofs.Asking.{seen_bytes}
use Rattle.area.proofs.list.Records.bytes.Goals as goal

pub returns : goal.returns
returns g c = seen_bytes g.R.Record.format _ _ c.self.view_is c.self.invariant
