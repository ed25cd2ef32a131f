-- `rules::entries::parse_start_states` meets its contract: the loop has come to the name at a.
use mathlib.Core.Path.{refl}
use Rattle.fault.proofs.Steps.{passed_on}
use Rattle.rules.proofs.Listing.{lists_err, lists_less, lists_next, lists_done}
use Rattle.rules.proofs.entries.parse_start_states.Goals as goal

pub returns-in_err-a : goal.returns-in_err-a
returns-in_err-a c =
    passed_on _ _ _ c.from_residual.ensures.1
    (lists_err c.loop-a.invariant c.loop-a-test.true _ _ c.next_entry.ensures _ _ refl _ c.in_err-a.was)

pub loop-a-smaller : goal.loop-a-smaller
loop-a-smaller c = lists_less c.loop-a.invariant c.loop-a-test.true _ _ c.next_entry.ensures c.in_ok-a.was

pub loop-a-preserved : goal.loop-a-preserved
loop-a-preserved c = lists_next c.loop-a.invariant c.loop-a-test.true _ _ c.next_entry.ensures c.in_ok-a.was c.next_entry.auto.area3

pub returns : goal.returns
returns c = lists_done _ _ c.loop-a.invariant c.loop-a-test.false
