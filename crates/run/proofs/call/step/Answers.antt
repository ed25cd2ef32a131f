-- `run::call::step` meets its contract: what passed the check is read.
use Rattle.std.proofs.Common.{sym, ◌∙◌}
use Rattle.run.proofs.call.step.Goals as goal

pub step_run-requires : goal.step_run-requires
step_run-requires c = sym c.quick_check.ensures ∙ c.if-not-quick_check.false
