-- What the contracts of the code speak of: the map that is lent, and what its check leaves.
use Rattle.std.specs.Prelude.{◌≡◌, ℕ, List, map, Option, Some, is_some}
use Rattle.name_map.specs.declared.NameMap.{NameMap}
use Rattle.name_map.specs.declared.index.Slot.{Slot}
use Rattle.name_map.specs.Map.{read_each, Entry, entry_of, entries_of, map_check}
use Rattle.name_map.specs.Index.{entry_in, EntryIndex}

-- the map
abbrev pub map_in : NameMap → List Entry
map_in m = map (entry_of m.names.now) (read_each m.entries.now)

-- the entries in slots
abbrev pub entries_in : List Slot → List (Option ℕ)
entries_in slots = map entry_in slots

-- what the map check answers: the map that the names and the entries stand for, where it passes, with its slots
pub record MapChecked (names entries : List ℕ) (r : Option NameMap) (l : List (Option ℕ)) : Type 0 where
  pub is : is_some r ≡ map_check names entries
  pub map : (m : NameMap) → r ≡ Some m → map_in m ≡ entries_of names entries
  pub index : (m : NameMap) → r ≡ Some m → EntryIndex (map_in m) l
