-- `sheet_check::check::good_entries` meets its contract: each record is asked.
use Rattle.std.proofs.Common.{rules, refl}
use Rattle.area.proofs.Asking.{records_judged}
use Rattle.sheet_check.specs.SheetCheck.{declared}
use Rattle.sheet_check.proofs.check.good_entries.Goals as goal

pub returns : goal.returns
returns c = records_judged (declared c.args.states) c.all.ensures refl (λ k b h p. search rules)
