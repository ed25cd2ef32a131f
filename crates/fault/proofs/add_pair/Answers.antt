-- `fault::add_pair` meets its contract: both records have the next number.
use Rattle.std.proofs.lemmas.Result.{err_from_is_err_and}
use Rattle.std.proofs.Common.{ap, ◌∙◌}
use Rattle.fault.specs.Faults.{next_number}
use Rattle.fault.proofs.Spans.{pair_added, pair_refused, pair_fits}
use Rattle.fault.proofs.add_pair.Goals as goal

pub returns-in_err-m : goal.returns-in_err-m
returns-in_err-m c =
    let p = err_from_is_err_and c.from_residual.result c.from_residual.ensures.1 in
    rw (p.1, p.2) (pair_fits c.requires _ c.has_room.ensures _ _ _ _ _ c.if-has_room.true _
    (c.next_number-number.ensures ∙ ap next_number c.new.ensures) _ _ (rw c.fault_of.ensures at c.push.ensures) c.in_err-m.was)

pub returns-then-has_room : goal.returns-then-has_room
returns-then-has_room c =
    pair_added c.requires _ c.has_room.ensures _ _ _ _ _ c.if-has_room.true _
    (c.next_number-number.ensures ∙ ap next_number c.new.ensures) _ _ (rw c.fault_of.ensures at c.push.ensures) _ c.in_ok-m.was _ _
    (rw c.fault_of-then-has_room.ensures at c.push-then-has_room.ensures)

pub returns : goal.returns
returns c = pair_refused c.requires _ c.has_room.ensures _ _ _ _ _ c.if-has_room.false
