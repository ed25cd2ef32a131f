-- What a proof by computing unfolds: the definitions of this crate, markers for each of its files, and the markers of the crates below it.
-- tools/computing writes this file.
use Rattle.characters.specs.Computing.{computing as characters-computing}
use Rattle.text.specs.Computing.{computing as text-computing}
use Rattle.area.specs.Computing.{computing as area-computing}
use Rattle.fault.specs.Computing.{computing as fault-computing}
use Rattle.section.specs.Computing.{computing as section-computing}
use Rattle.names.specs.Computing.{computing as names-computing}
use Rattle.declarations.specs.Computing.{computing as declarations-computing}
use Rattle.rules_section.specs.Computing.{computing as rules-section-computing}
use Rattle.parse.specs.Parse.{closed, judge, opening, rules_from, file, outcome, leaves, parse_call, parse_fields}

unfoldable parse_file : Unit {0}
unfolding closed judge opening rules_from file outcome leaves parse_call parse_fields
parse_file = tt

unfoldable pub computing : Unit {0}
unfolding characters-computing text-computing area-computing fault-computing section-computing names-computing declarations-computing rules-section-computing parse_file
computing = tt
