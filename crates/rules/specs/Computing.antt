-- What a proof by computing unfolds: the definitions of this crate, markers for each of its files, and the markers of the crates below it.
-- tools/computing writes this file.
use Rattle.characters.specs.Computing.{computing as characters-computing}
use Rattle.text.specs.Computing.{computing as text-computing}
use Rattle.area.specs.Computing.{computing as area-computing}
use Rattle.fault.specs.Computing.{computing as fault-computing}
use Rattle.section.specs.Computing.{computing as section-computing}
use Rattle.names.specs.Computing.{computing as names-computing}
use Rattle.escape.specs.Computing.{computing as escape-computing}
use Rattle.rules.specs.Heading.{has_target, target_end, operation_of, target_operation, target_name, target_id, target_of, equal_quotes, is_no_name, is_name, label_by, label_of, rule_named, heading_named, heading_behind, heading_of, has_list}
use Rattle.rules.specs.Heading.{list_end, body_of}
use Rattle.rules.specs.Rules.{entry_end, entry_id, next_entry, entries, refuses, record_rule}

unfoldable heading_file : Unit {0}
unfolding has_target target_end operation_of target_operation target_name target_id target_of equal_quotes is_no_name is_name label_by label_of rule_named heading_named heading_behind heading_of has_list list_end body_of
heading_file = tt

unfoldable rules_file : Unit {0}
unfolding entry_end entry_id next_entry entries refuses record_rule
rules_file = tt

unfoldable pub computing : Unit {0}
unfolding characters-computing text-computing area-computing fault-computing section-computing names-computing escape-computing heading_file rules_file
computing = tt
