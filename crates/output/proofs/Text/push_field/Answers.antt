-- `output::Text::push_field` meets its contract: a blank, then the digits.
use Rattle.output.proofs.Numbers.{field_parts}
use Rattle.output.proofs.Text.push_field.Goals as goal

pub returns : goal.returns
returns c = field_parts c.args.x c.push_blank.ensures c.push_tens.ensures c.push_byte.ensures
