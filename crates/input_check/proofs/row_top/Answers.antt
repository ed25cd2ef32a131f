-- `input_check::row_top` meets its contract: no length is above the bytes left, and then the edges are tested.
use Rattle.input_check.proofs.Rows.{row_above, top_inside, row_off_edge, row_at_edges}
use Rattle.input_check.proofs.row_top.Goals as goal

pub returns-in_err-lengths : goal.returns-in_err-lengths
returns-in_err-lengths c = rw c.from_residual.ensures (row_above _ _ _ _ _ c.in_err-lengths.ensures)

pub all_at_edge-requires : goal.all_at_edge-requires
all_at_edge-requires c = top_inside _ _ _ _ _ _ c.in_ok-lengths.ensures c.requires

pub returns-then-all_at_edge : goal.returns-then-all_at_edge
returns-then-all_at_edge c = row_at_edges _ _ _ _ _ _ c.in_ok-lengths.ensures _ c.all_at_edge.ensures c.if-all_at_edge.true

pub returns : goal.returns
returns c = row_off_edge _ _ _ _ _ _ c.in_ok-lengths.ensures _ c.all_at_edge.ensures c.if-all_at_edge.false
