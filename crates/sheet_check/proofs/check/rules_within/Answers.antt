-- `sheet_check::check::rules_within` meets its contract: rules that keep the limits of a sheet are good.
use Rattle.std.proofs.Common.{arith}
use Rattle.sheet_check.proofs.Quick.{rules_good}
use Rattle.sheet_check.proofs.check.rules_within.Goals as goal

pub returns : goal.returns
returns c passed = rules_good _ _ (omega arith) (omega arith) (omega arith) (omega arith) _ (c.quick_rules.ensures passed)
