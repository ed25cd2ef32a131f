-- `link::numbers::write_numbers` meets its contract: the area has the numbers that came so far.
use Rattle.std.proofs.Common.{◌≡◌, length}
use Rattle.area.specs.Contents.{entry_format, laid}
use Rattle.link.proofs.Writing.{numbers_of_pairs}
use Rattle.link.proofs.numbers.write_numbers.Given as goal

abbrev pub invariant-loop-k : goal.invariant-loop-k
invariant-loop-k g l =
    (goal.iterator-loop-k g).can_next l.k-iterator × (goal.iterator-loop-k g).is_finite l.k-iterator
    × (l.into ≡ laid entry_format (length l.fn.into) (numbers_of_pairs l.yielded))
