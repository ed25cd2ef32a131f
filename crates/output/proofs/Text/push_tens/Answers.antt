-- `output::Text::push_tens` meets its contract: four digits, one behind the other.
use Rattle.output.proofs.Numbers.{tens_parts}
use Rattle.output.proofs.Text.push_tens.Goals as goal

pub returns : goal.returns
returns c = tens_parts c.args.x c.push_digit.ensures c.push_digit-2.ensures c.push_digit-3.ensures c.push_digit-4.ensures
