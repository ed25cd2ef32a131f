-- What a proof by computing unfolds: the definitions of this crate, markers for each of its files, and the markers of the crates below it.
-- tools/computing writes this file.
use Rattle.characters.specs.Computing.{computing as characters-computing}
use Rattle.text.specs.Computing.{computing as text-computing}
use Rattle.area.specs.Computing.{computing as area-computing}
use Rattle.sheet_check.specs.Computing.{computing as sheet-check-computing}
use Rattle.name_map.specs.Home.{add_number, add_numbers, checksum, home_by, home_of}
use Rattle.name_map.specs.Index.{entry_in}
use Rattle.name_map.specs.Map.{map_entry_fields, map_entry_of, map_entry_at, entry_of, entries_of, find_entry, found_entry, id_at, id_of, distinct, name_inside, map_check}

unfoldable home_file : Unit {0}
unfolding add_number add_numbers checksum home_by home_of
home_file = tt

unfoldable index_file : Unit {0}
unfolding entry_in
index_file = tt

unfoldable map_file : Unit {0}
unfolding map_entry_fields map_entry_of map_entry_at entry_of entries_of find_entry found_entry id_at id_of distinct name_inside map_check
map_file = tt

unfoldable pub computing : Unit {0}
unfolding characters-computing text-computing area-computing sheet-check-computing home_file index_file map_file
computing = tt
