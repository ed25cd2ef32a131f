-- The bytes stand at the front, and all behind them are zero.
use Rattle.recorded.proofs.Comparing.{holds_compared}
use Rattle.recorded.proofs.compared.holds.Goals as goal

pub returns : goal.returns
returns c = holds_compared _ _ c.strip_prefix.result _ c.strip_prefix.ensures.cases c.is_some_and.ensures
