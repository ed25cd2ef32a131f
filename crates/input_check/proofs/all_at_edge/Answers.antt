-- `input_check::all_at_edge` meets its contract: no character goes on over the places where a length can end, or each length is tested.
use Rattle.std.proofs.Common.{sym, ◌∙◌}
use Rattle.input_check.proofs.Rows.{edges_clear}
use Rattle.input_check.proofs.all_at_edge.Goals as goal

pub returns-then-not-has_inside : goal.returns-then-not-has_inside
returns-then-not-has_inside c =
    edges_clear c.args.text.now _ _ _ _ c.args.row.greatest_is c.requires (sym c.is_edge.ensures ∙ c.if-is_edge.true)
    (sym c.has_inside.ensures ∙ c.if-not-has_inside.true)
