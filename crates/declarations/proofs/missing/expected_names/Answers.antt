-- `declarations::missing::expected_names` meets its contract: the loop has come to the name at a.
use mathlib.Core.Path.{refl}
use Rattle.fault.proofs.Steps.{passed_on}
use Rattle.declarations.proofs.Expecting.{expects_err, expects_less, expects_next, expects_done}
use Rattle.declarations.proofs.missing.expected_names.Goals as goal

pub returns-in_err-a : goal.returns-in_err-a
returns-in_err-a c =
    passed_on _ _ _ c.from_residual.ensures.1
    (expects_err c.loop-a.invariant c.loop-a-test.true _ _ c.next_expected.ensures _ _ refl _ c.in_err-a.was)

pub loop-a-smaller : goal.loop-a-smaller
loop-a-smaller c = expects_less c.loop-a.invariant c.loop-a-test.true _ _ c.next_expected.ensures c.in_ok-a.was

pub loop-a-preserved : goal.loop-a-preserved
loop-a-preserved c = expects_next c.loop-a.invariant c.loop-a-test.true _ _ c.next_expected.ensures c.in_ok-a.was c.next_expected.auto.area

pub returns : goal.returns
returns c = expects_done _ _ c.loop-a.invariant c.loop-a-test.false
