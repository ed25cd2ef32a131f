-- `declarations::states::declare_start_states` meets its contract: the loop has come to the name at `at`.
use mathlib.Core.Path.{refl}
use Rattle.fault.proofs.Steps.{passed_on}
use Rattle.declarations.proofs.Declares.{declares_err, declares_less, declares_next, declares_done}
use Rattle.declarations.proofs.states.declare_start_states.Goals as goal

pub returns-in_err-at-clause-does : goal.returns-in_err-at-clause-does
returns-in_err-at-clause-does c =
    passed_on _ _ _ c.from_residual.ensures.1
    (declares_err c.loop-at.areas c.loop-at.invariant c.loop-at-test.true _ c.find_whitespace.ensures c.declare_state.new.areas _ c.declare_state.ensures.does _ _ refl _ c.in_err-at.was)

pub loop-at-smaller : goal.loop-at-smaller
loop-at-smaller c =
    declares_less c.loop-at.areas c.loop-at.invariant c.loop-at-test.true _ c.find_whitespace.ensures c.declare_state.new.areas _ c.declare_state.ensures.does c.in_ok-at.was

pub loop-at-preserved : goal.loop-at-preserved
loop-at-preserved c =
    let step = c.declare_state in
    declares_next c.loop-at.areas c.loop-at.invariant c.loop-at-test.true _ c.find_whitespace.ensures step.new.areas _ step.ensures.does c.in_ok-at.was
    step.ensures.same step.ensures.expected

pub returns-clause-does : goal.returns-clause-does
returns-clause-does c = declares_done _ _ c.loop-at.areas c.loop-at.invariant c.loop-at-test.false
