use Rattle.area.proofs.Asking.{seen_fits, seen_read}
use Rattle.area.proofs.list.Records.get.Goals as goal

pub read-requires : goal.read-requires
read-requires g c = seen_fits g.R.Record.format _ _ c.self.view_is c.self.invariant c.requires

pub returns : goal.returns
returns g c = seen_read g.R.Record.format _ _ c.self.view_is c.requires c.read.ensures
