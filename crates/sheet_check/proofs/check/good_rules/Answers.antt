-- `sheet_check::check::good_rules` meets its contract: each record is asked.
use Rattle.std.proofs.Common.{rules, refl}
use Rattle.area.proofs.Asking.{records_judged}
use Rattle.sheet_check.specs.SheetCheck.{good_rule}
use Rattle.sheet_check.proofs.check.good_rules.Goals as goal

pub returns : goal.returns
returns c = records_judged (good_rule c.args.sizes) c.all.ensures refl (λ k b h p. search rules)
