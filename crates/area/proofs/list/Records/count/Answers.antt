use Rattle.area.proofs.Asking.{seen_count}
use Rattle.area.proofs.list.Records.count.Goals as goal

pub returns : goal.returns
returns g c = seen_count g.R.Record.format _ _ c.self.view_is
