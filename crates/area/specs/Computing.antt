-- What a proof by computing unfolds: the definitions of this crate, markers for each of its files, and the markers of the crates below it.
-- tools/computing writes this file.
use Rattle.characters.specs.Computing.{computing as characters-computing}
use Rattle.area.specs.Areas.{room, insert_at, move_up, inserted}
use Rattle.area.specs.Bytes.{two, bytes, pad, field_at, field_from}
use Rattle.area.specs.Contents.{list_of, contents, relaid, append}
use Rattle.area.specs.Lists.{all, all_below, numbers}
use Rattle.area.specs.Records.{state_fields, rule_fields, entry_fields, expected_fields, fault_fields, state_of, rule_of, expected_of, fault_of, state_at, rule_at, entry_at, expected_at, fault_at}

unfoldable areas_file : Unit {0}
unfolding room insert_at move_up inserted
areas_file = tt

unfoldable bytes_file : Unit {0}
unfolding two bytes pad field_at field_from
bytes_file = tt

unfoldable contents_file : Unit {0}
unfolding list_of contents relaid append
contents_file = tt

unfoldable lists_file : Unit {0}
unfolding all all_below numbers
lists_file = tt

unfoldable records_file : Unit {0}
unfolding state_fields rule_fields entry_fields expected_fields fault_fields state_of rule_of expected_of fault_of state_at rule_at entry_at expected_at fault_at
records_file = tt

unfoldable pub computing : Unit {0}
unfolding characters-computing areas_file bytes_file contents_file lists_file records_file
computing = tt
