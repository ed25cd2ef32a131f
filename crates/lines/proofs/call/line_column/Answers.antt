-- A source that does not pass the tests is refused first.
use Rattle.lines.specs.Lines.{line_column}
use Rattle.lines.proofs.Testing.{refused_first}
use Rattle.lines.proofs.call.line_column.Goals as goal

pub returns-in_err-checked : goal.returns-in_err-checked
unfolding line_column
returns-in_err-checked c = refused_first _ _ c.checked.ensures _ _ _ c.in_err-checked.was c.from_residual.ensures.1
