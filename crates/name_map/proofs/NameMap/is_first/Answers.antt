-- `name_map::NameMap::is_first` meets its contract: the name that is looked for is that of entry j.
use Rattle.std.proofs.Common.{◌∙◌, arith}
use Rattle.name_map.proofs.Maps.{read-count, first_compared}
use Rattle.name_map.proofs.NameMap.is_first.Goals as goal

pub returns : goal.returns
returns c =
    c.eq.ensures
    ∙ first_compared _ _ _ _ c.entry.ensures (omega (arith, c.requires, read-count c.args.self.now.entries.now)) _ c.name.ensures
    c.find_entry.result c.find_entry.ensures
