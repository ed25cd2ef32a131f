-- `name_map::index::read_slots` meets its contract: the options so far are the entries.
use Rattle.name_map.proofs.Slots.{Reading}
use Rattle.name_map.proofs.index.read_slots.Given as goal

abbrev pub invariant-loop-k : goal.invariant-loop-k
invariant-loop-k g l = Reading l.slots l.k l.entries
