-- `name_map::index::index_entries` meets its contract: the entries so far are in the slots, and each is the first of its name.
use Rattle.std.proofs.Common.{◌≡◌, true}
use Rattle.name_map.specs.Phrases.{map_in, entries_in}
use Rattle.name_map.specs.Index.{EntrySlots}
use Rattle.name_map.proofs.Probing.{firsts_below}
use Rattle.name_map.proofs.index.index_entries.Given as goal

abbrev pub invariant-loop-j : goal.invariant-loop-j
invariant-loop-j l = (true ≡ firsts_below (map_in l.map) l.j) × EntrySlots (map_in l.map) l.j (entries_in l.slots)
