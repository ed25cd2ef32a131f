-- `name_map::index::probe` meets its contract: the slots that it has passed are taken by entries of other names.
use Rattle.name_map.specs.Phrases.{map_in, entries_in}
use Rattle.name_map.proofs.Probing.{Passed}
use Rattle.name_map.proofs.index.probe.Given as goal

abbrev pub invariant-loop-p : goal.invariant-loop-p
invariant-loop-p l = Passed (map_in l.map) (entries_in l.slots) l.name l.p
