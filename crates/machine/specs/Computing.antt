-- What a proof by computing unfolds: the definitions of this crate, markers for each of its files, and the markers of the crates below it.
-- tools/computing writes this file.
use Rattle.characters.specs.Computing.{computing as characters-computing}
use Rattle.text.specs.Computing.{computing as text-computing}
use Rattle.area.specs.Computing.{computing as area-computing}
use Rattle.fault.specs.Computing.{computing as fault-computing}
use Rattle.section.specs.Computing.{computing as section-computing}
use Rattle.names.specs.Computing.{computing as names-computing}
use Rattle.escape.specs.Computing.{computing as escape-computing}
use Rattle.declarations.specs.Computing.{computing as declarations-computing}
use Rattle.rules.specs.Computing.{computing as rules-computing}
use Rattle.rules_section.specs.Computing.{computing as rules-section-computing}
use Rattle.parse.specs.Computing.{computing as parse-computing}
use Rattle.sheet_check.specs.Computing.{computing as sheet-check-computing}
use Rattle.parsed_sheet.specs.Computing.{computing as parsed-sheet-computing}
use Rattle.name_map.specs.Computing.{computing as name-map-computing}
use Rattle.link.specs.Computing.{computing as link-computing}
use Rattle.winner.specs.Computing.{computing as winner-computing}
use Rattle.input_check.specs.Computing.{computing as input-check-computing}
use Rattle.run.specs.Computing.{computing as run-computing}
use Rattle.machine.specs.Demand.{last_held, Follows, OfCharacters, AllOver, DemandHolds}
use Rattle.machine.specs.File.{operation_by, name_at, name_from, map_of, file_of}
use Rattle.machine.specs.Machine.{lengths, fits, has, is_empty, is_live, first_or_longer, winner_of, id_in, operate, move, token, wins, chooses, step}
use Rattle.machine.specs.Words.{FollowsInWords, calls_in_words, InWordsHolds}

unfoldable demand_file : Unit {0}
unfolding last_held Follows OfCharacters AllOver DemandHolds
demand_file = tt

unfoldable file_file : Unit {0}
unfolding operation_by name_at name_from map_of file_of
file_file = tt

unfoldable machine_file : Unit {0}
unfolding lengths fits has is_empty is_live first_or_longer winner_of id_in operate move token wins chooses step
machine_file = tt

unfoldable words_file : Unit {0}
unfolding FollowsInWords calls_in_words InWordsHolds
words_file = tt

unfoldable part : Unit {0}
unfolding characters-computing text-computing area-computing fault-computing section-computing names-computing escape-computing declarations-computing rules-computing rules-section-computing parse-computing
part = tt

unfoldable part_2 : Unit {0}
unfolding sheet-check-computing parsed-sheet-computing name-map-computing link-computing winner-computing input-check-computing run-computing demand_file file_file machine_file words_file
part_2 = tt

unfoldable pub computing : Unit {0}
unfolding part part_2
computing = tt
