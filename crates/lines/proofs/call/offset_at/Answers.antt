-- A source that does not pass the tests is refused first.
use Rattle.lines.specs.Lines.{offset_at}
use Rattle.lines.proofs.Testing.{refused_first}
use Rattle.lines.proofs.call.offset_at.Goals as goal

pub returns-in_err-checked : goal.returns-in_err-checked
unfolding offset_at
returns-in_err-checked c = refused_first _ _ c.checked.ensures _ _ _ c.in_err-checked.was c.from_residual.ensures.1
