-- `section::comment_end` meets its contract: from behind the two slashes the line ends where it does from the first.
use native.Mathlib.Omega.{arith}
use Rattle.section.proofs.Lines.{slashes_inside}
use Rattle.section.proofs.comment_end.Goals as goal

pub overflow_add-k : goal.overflow_add-k
overflow_add-k c = omega (arith, slashes_inside c.args.src.now c.args.i c.requires)
