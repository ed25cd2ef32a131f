-- `output::fields::Text::push_fields` meets its contract: the first j fields are appended.
use Rattle.output.specs.Output.{printed_fields_at}
use Rattle.output.specs.Text.{Appends}
use Rattle.output.proofs.Text.push_fields.Given as goal

abbrev pub invariant-loop-j : goal.invariant-loop-j
invariant-loop-j l = Appends l.initial.self l.self (printed_fields_at l.area l.at l.j)
