-- `name_map::index::NameIndex::find` meets its contract: by each answer of the search. Of distinct names one entry at most has the name.
use Rattle.std.proofs.Common.{Some, refl, ap, ◌∙◌, arith}
use Rattle.name_map.proofs.Maps.{map_count}
use Rattle.name_map.proofs.Probing.{find_free, find_found}
use Rattle.name_map.proofs.index.NameIndex.find.Goals as goal

pub returns-in-Some-Free : goal.returns-in-Some-Free
returns-in-Some-Free c =
    let came = c.in-Some-Free in
    let map = c.args.self.now.map in
    find_free _ _ _ _ refl c.probe.result (c.probe.ensures _ c.args.self.now.index.slots) came.field-0-0
    (came.is ∙ ap Some came.field-0-is)

pub returns-in-Some-Found : goal.returns-in-Some-Found
returns-in-Some-Found c =
    let came = c.in-Some-Found in
    let map = c.args.self.now.map in
    find_found _ _ _ _ refl c.probe.result (c.probe.ensures _ c.args.self.now.index.slots) c.args.self.now.index.different came.j
    (came.is ∙ ap Some came.field-0-is)

pub probe-requires : goal.probe-requires
probe-requires c = λ p i q.
    let map = c.args.self.now.map in
    omega (arith, c.args.self.now.index.slots.low p i q, map_count map.names.now map.entries.now)
