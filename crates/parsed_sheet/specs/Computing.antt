-- What a proof by computing unfolds: the definitions of this crate, markers for each of its files, and the markers of the crates below it.
-- tools/computing writes this file.
use Rattle.characters.specs.Computing.{computing as characters-computing}
use Rattle.text.specs.Computing.{computing as text-computing}
use Rattle.area.specs.Computing.{computing as area-computing}
use Rattle.fault.specs.Computing.{computing as fault-computing}
use Rattle.section.specs.Computing.{computing as section-computing}
use Rattle.names.specs.Computing.{computing as names-computing}
use Rattle.escape.specs.Computing.{computing as escape-computing}
use Rattle.declarations.specs.Computing.{computing as declarations-computing}
use Rattle.rules.specs.Computing.{computing as rules-computing}
use Rattle.rules_section.specs.Computing.{computing as rules-section-computing}
use Rattle.parse.specs.Computing.{computing as parse-computing}
use Rattle.sheet_check.specs.Computing.{computing as sheet-check-computing}
use Rattle.parsed_sheet.specs.Meaning.{meaning}

unfoldable meaning_file : Unit {0}
unfolding meaning
meaning_file = tt

unfoldable part : Unit {0}
unfolding characters-computing text-computing area-computing fault-computing section-computing names-computing escape-computing declarations-computing rules-computing rules-section-computing parse-computing
part = tt

unfoldable part_2 : Unit {0}
unfolding sheet-check-computing meaning_file
part_2 = tt

unfoldable pub computing : Unit {0}
unfolding part part_2
computing = tt
