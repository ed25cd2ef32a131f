-- `output::Text::push_digit` meets its contract: a digit where the number reaches the power, or nothing.
use Rattle.output.proofs.Numbers.{digit_none, digit_one}
use Rattle.output.proofs.Text.push_digit.Goals as goal

pub returns-then-power-x : goal.returns-then-power-x
returns-then-power-x c = digit_one c.args.x c.args.power c.if-power-x.true c.push_byte.ensures

pub returns-else-power-x : goal.returns-else-power-x
returns-else-power-x c = digit_none c.args.x c.args.power c.if-power-x.false
