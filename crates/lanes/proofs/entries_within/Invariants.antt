-- `lanes::entries_within` meets its contract: the entries of the eights so far are within, and those with the rest are all.
use Rattle.std.proofs.Common.{◌*◌}
use Rattle.lanes.specs.Lanes.{lane_count, EntriesWithin}
use Rattle.lanes.proofs.entries_within.Given as goal

abbrev pub invariant-loop-k : goal.invariant-loop-k
invariant-loop-k l = EntriesWithin l.entries 0 (l.k * lane_count) l.highest
