-- What a proof by computing unfolds: the definitions of this crate, markers for each of its files, and the markers of the crates below it.
-- tools/computing writes this file.
use Rattle.characters.specs.Computing.{computing as characters-computing}
use Rattle.text.specs.Computing.{computing as text-computing}
use Rattle.area.specs.Computing.{computing as area-computing}
use Rattle.names.specs.Marks.{mark_of}
use Rattle.names.specs.Names.{all_bytes, is_name_byte, is_state_name, is_state, find_state, name_of, has_name, find_rule}

unfoldable marks_file : Unit {0}
unfolding mark_of
marks_file = tt

unfoldable names_file : Unit {0}
unfolding all_bytes is_name_byte is_state_name is_state find_state name_of has_name find_rule
names_file = tt

unfoldable pub computing : Unit {0}
unfolding characters-computing text-computing area-computing marks_file names_file
computing = tt
