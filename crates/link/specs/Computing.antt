-- What a proof by computing unfolds: the definitions of this crate, markers for each of its files, and the markers of the crates below it.
-- tools/computing writes this file.
use Rattle.characters.specs.Computing.{computing as characters-computing}
use Rattle.text.specs.Computing.{computing as text-computing}
use Rattle.area.specs.Computing.{computing as area-computing}
use Rattle.names.specs.Computing.{computing as names-computing}
use Rattle.parse.specs.Computing.{computing as parse-computing}
use Rattle.sheet_check.specs.Computing.{computing as sheet-check-computing}
use Rattle.name_map.specs.Computing.{computing as name-map-computing}
use Rattle.link.specs.Link.{with_id, with_found, is_none, is_unlinked, unlinked, link_rule, link_rules, is_unmapped, has_that_name, is_unused, unmapped, unused, fits, room_for, link_all, link_checked, link_call, link_fields}
use Rattle.link.specs.Matches.{link_to}

unfoldable link_file : Unit {0}
unfolding with_id with_found is_none is_unlinked unlinked link_rule link_rules is_unmapped has_that_name is_unused unmapped unused fits room_for link_all link_checked link_call link_fields
link_file = tt

unfoldable matches_file : Unit {0}
unfolding link_to
matches_file = tt

unfoldable pub computing : Unit {0}
unfolding characters-computing text-computing area-computing names-computing parse-computing sheet-check-computing name-map-computing link_file matches_file
computing = tt
