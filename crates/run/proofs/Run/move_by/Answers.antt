-- `run::Run::move_by` meets its contract: the numbers are those of a move, and the operation gives the depth and the stack.
use Rattle.run.proofs.Moving.{move_made}
use Rattle.run.proofs.Run.move_by.Goals as goal

pub returns : goal.returns
returns c = move_made _ _ _ _ _ _ c.operate-depth.ensures
