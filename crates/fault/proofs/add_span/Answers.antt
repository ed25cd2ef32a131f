-- `fault::add_span` meets its contract: the span goes in behind the last one of its fault.
use Rattle.fault.proofs.Spans.{span_inserted}
use Rattle.fault.proofs.add_span.Goals as goal

pub returns-then-has_room : goal.returns-then-has_room
returns-then-has_room c =
    span_inserted c.requires.held_faults _ c.has_room.ensures _ _ _ c.requires.j_lt_n _ c.new-spans.ensures _ c.get-x.ensures _ _ c.if-has_room.true
    c.fault_end-p.ensures (rw c.fault_of.ensures at c.insert.ensures)
