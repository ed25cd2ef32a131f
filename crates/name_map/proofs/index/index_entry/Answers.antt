-- `name_map::index::index_entry` meets its contract: by each answer of the search for the entry's own name.
use Rattle.std.proofs.Common.{Some, ap, ◌∙◌, arith}
use Rattle.name_map.specs.Phrases.{map_in, entries_in}
use Rattle.name_map.specs.Map.{read_each}
use Rattle.name_map.proofs.Maps.{map_count, name-at}
use Rattle.name_map.proofs.Slots.{slots_count, slot_set}
use Rattle.name_map.proofs.Probing.{Searched, searched, indexed_free, indexed_found, indexed_exhausted}
use Rattle.name_map.proofs.index.index_entry.Goals.{After-probe}
use Rattle.name_map.proofs.index.index_entry.Goals as goal

own_name : (c : After-probe) → Searched (map_in c.args.map.now) (entries_in c.args.slots.now) c.args.j c.probe.result
own_name c =
    let map = c.args.map.now in
    searched _ _ _ (omega (arith, c.requires.j_bound, map_count map.names.now map.entries.now)) c.requires.entry_slots _
    (c.name-name.ensures ∙ name-at map.names.now (read_each map.entries.now) _ _ c.entry.ensures) c.probe.result (c.probe.ensures _ c.requires.entry_slots)

pub returns-in-Some-Free : goal.returns-in-Some-Free
returns-in-Some-Free c =
    let came = c.in-Some-Free in
    indexed_free _ _ (own_name (goal.at.returns-in-Some-Free c).After-probe) (omega (arith, slots_count c.args.slots.now)) came.p (came.is ∙ ap Some came.field-0-is)
    _ (slot_set c.args.slots.now came.p c.of.result _ c.of.ensures)

pub returns-in-Some-Found : goal.returns-in-Some-Found
returns-in-Some-Found c = indexed_found _ _ (own_name (goal.at.returns-in-Some-Found c).After-probe) c.in-Some-Found.field-0-0 (c.in-Some-Found.is ∙ ap Some c.in-Some-Found.field-0-is)

pub returns-in-None : goal.returns-in-None
returns-in-None c = indexed_exhausted _ _ (own_name (goal.at.returns-in-None c).After-probe) c.in-None.is _ c.is_first.ensures

pub probe-requires : goal.probe-requires
probe-requires c = λ p i q.
    let map = c.args.map.now in
    omega (arith, c.requires.entry_slots.low p i q, c.requires.j_bound)
