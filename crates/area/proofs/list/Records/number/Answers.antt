use Rattle.std.proofs.Common.{arith}
use Rattle.area.proofs.Asking.{seen_count}
use Rattle.area.proofs.list.Records.number.Goals as goal

pub below-requires : goal.below-requires
below-requires g c = omega (arith, seen_count g.R.Record.format _ _ c.self.view_is)
