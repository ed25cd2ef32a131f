-- `escape::unescape` meets its contract: what is appended, and the text from p on, make the whole text.
use mathlib.Core.Path.{◌≡◌}
use Prim.Native.Nat.{◌≤◌}
use Rattle.escape.specs.Escape.{escapes, unescaped}
use Rattle.escape.proofs.Writing.{Writing}
use Rattle.escape.proofs.unescape.Given as goal

abbrev pub invariant-loop-e : goal.invariant-loop-e
invariant-loop-e l =
    (goal.iterator-loop-e).can_next l.e-iterator × (goal.iterator-loop-e).is_finite l.e-iterator
    × (escapes l.e-iterator.pattern.source.now l.e-iterator.at l.e-iterator.pattern.end ≡ escapes l.src l.p l.c) × (l.p ≤ l.c)
    × Writing (unescaped l.src l.posix_escapes l.i l.c) l.initial.area l.n (unescaped l.src l.posix_escapes l.p l.c) l.area l.count
