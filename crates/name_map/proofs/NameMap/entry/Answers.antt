-- `name_map::NameMap::entry` meets its contract: entry j is that of chunk j.
use Rattle.std.proofs.Common.{refl}
use Rattle.name_map.proofs.Maps.{entry_read}
use Rattle.name_map.proofs.NameMap.entry.Goals as goal

pub returns : goal.returns
returns c = entry_read _ _ c.requires _ _ c.from.ensures _ refl
