-- `sheet_check::check::good_names` meets its contract: each record is asked.
use Rattle.std.proofs.Common.{rules, refl}
use Rattle.area.proofs.Asking.{records_judged}
use Rattle.sheet_check.specs.SheetCheck.{good_expected}
use Rattle.sheet_check.proofs.check.good_names.Goals as goal

pub returns : goal.returns
returns c = records_judged (good_expected c.args.sizes) c.all.ensures refl (λ k b h p. search rules)
