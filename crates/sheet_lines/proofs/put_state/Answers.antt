-- `sheet_lines::put_state` meets its contract: the parts of a state's line, one behind the other.
use Rattle.sheet_lines.proofs.Printing.{state_line_lem}
use Rattle.sheet_lines.proofs.put_state.Goals as goal

pub returns : goal.returns
returns c =
    state_line_lem c.args.src.now c.args.k c.args.x c.push_text.ensures c.push_field.ensures c.push_blank.ensures c.put_name.ensures
    c.push_field-2.ensures c.push_field-3.ensures c.push_field-4.ensures c.push_line_end.ensures
