-- `lanes::each_within` meets its contract: where the joint of the excesses is 0, each is.
use Rattle.std.proofs.Common.{◌≡◌, ◌+◌}
use Rattle.lanes.specs.Lanes.{EntriesWithin}
use Rattle.lanes.proofs.each_within.Given as goal

abbrev pub invariant-loop-j : goal.invariant-loop-j
invariant-loop-j l = l.excess ≡ 0 → EntriesWithin l.entries l.from (l.from + l.j) l.highest
