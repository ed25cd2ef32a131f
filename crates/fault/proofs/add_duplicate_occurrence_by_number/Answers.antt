-- `fault::add_duplicate_occurrence_by_number` meets its contract: the fault is there, or it is new.
use Rattle.fault.proofs.Spans.{repeat_again, repeat_first}
use Rattle.fault.proofs.add_duplicate_occurrence_by_number.Goals as goal

pub returns-in-Some : goal.returns-in-Some
returns-in-Some c = repeat_again c.requires _ _ _ _ _ _ c.new.ensures c.find_fault.ensures c.in-Some.is c.add_span.ensures

pub returns-in-None : goal.returns-in-None
returns-in-None c = repeat_first c.requires _ _ _ _ _ _ c.new.ensures c.find_fault.ensures c.in-None.is c.add_pair.ensures
