-- `fault::add_fault_by_number` meets its contract: a record with the next number is appended.
use Rattle.std.proofs.Common.{ap, ◌∙◌}
use Rattle.fault.specs.Faults.{next_number}
use Rattle.fault.proofs.Spans.{fault_added}
use Rattle.fault.proofs.add_fault_by_number.Goals as goal

pub returns : goal.returns
returns c =
    fault_added c.requires _ _ (c.next_number-number.ensures ∙ ap next_number c.new.ensures) _ _ _ _ (rw c.fault_of.ensures at c.push.ensures)
