-- `escape::EscapesIterator::next` meets its contract: the next escape is the first of those that are left, and the others are left behind it.
use Rattle.std.proofs.Common.{◌<◌, ap, arith, length}
use Rattle.escape.specs.Escape.{escapes}
use Rattle.escape.proofs.Passed.{left_none, next_found}
use Rattle.escape.proofs.EscapesIterator.next.Goals as goal

pub returns-in_err-escape-clause-steps : goal.returns-in_err-escape-clause-steps
returns-in_err-escape-clause-steps c =
    let none = left_none _ _ _ c.next_escape.ensures c.in_err-escape.was in
    rw c.from_residual.ensures (none, none)

pub invariant_of-self-2 : goal.invariant_of-self-2
invariant_of-self-2 c = record { within = (next_found _ _ _ c.next_escape.ensures c.in_ok-escape.was).to }

pub returns-clause-steps : goal.returns-clause-steps
returns-clause-steps c = (next_found _ _ _ c.next_escape.ensures c.in_ok-escape.was).left

pub returns-clause-goes : goal.returns-clause-goes
returns-clause-goes c =
    let found = next_found _ _ _ c.next_escape.ensures c.in_ok-escape.was in
    let fewer : length (escapes _ c.in_ok-escape.escape.end _) < length (escapes _ c.args.self.now.at _) = omega (arith, ap length found.left) in
    record { on = λ h. (tt, tt, fewer); keeps = tt; rests = λ h. tt }
