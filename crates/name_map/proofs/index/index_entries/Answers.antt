-- `name_map::index::index_entries` meets its contract: the entries so far are in the slots, and each is the first of its name.
use Rattle.std.proofs.Common.{arith}
use Rattle.area.proofs.All.{below_none}
use Rattle.name_map.proofs.Maps.{map_count}
use Rattle.name_map.proofs.Probing.{slots_none, entries_repeated, entries_next, entries_indexed}
use Rattle.name_map.proofs.index.index_entries.Goals as goal

pub loop-j-init : goal.loop-j-init
loop-j-init c = (below_none _, slots_none _ _ c.requires.free)

pub returns-then-not-index_entry : goal.returns-then-not-index_entry
returns-then-not-index_entry c =
    let map = c.args.map.now in
    entries_repeated _ _ _ _ (omega (arith, map_count map.names.now map.entries.now)) c.index_entry.ensures c.if-not-index_entry.true

pub loop-j-preserved : goal.loop-j-preserved
loop-j-preserved c =
    let good = c.if-not-index_entry.false in
    (entries_next _ _ _ _ c.loop-j.invariant.0 c.index_entry.ensures good, c.index_entry.ensures.slots good)

pub returns : goal.returns
returns c =
    let map = c.args.map.now in
    entries_indexed _ _ _ (omega (arith, map_count map.names.now map.entries.now)) (omega (arith, map_count map.names.now map.entries.now))
    c.loop-j.invariant.0 c.loop-j.invariant.1
