-- What a proof by computing unfolds: the definitions of this crate, markers for each of its files, and the markers of the crates below it.
-- tools/computing writes this file.
use Rattle.characters.specs.Computing.{computing as characters-computing}
use Rattle.area.specs.Computing.{computing as area-computing}
use Rattle.names.specs.Computing.{computing as names-computing}
use Rattle.parse.specs.Computing.{computing as parse-computing}
use Rattle.sheet_check.specs.Pattern.{pattern_part, text_of, start_of, number_of, pattern_fields}
use Rattle.sheet_check.specs.SheetCheck.{decoded, long_enough, good_counts, good_sizes, good_state, good_rule, good_expected, good_records, sheet_check}

unfoldable pattern_file : Unit {0}
unfolding pattern_part text_of start_of number_of pattern_fields
pattern_file = tt

unfoldable sheet_check_file : Unit {0}
unfolding decoded long_enough good_counts good_sizes good_state good_rule good_expected good_records sheet_check
sheet_check_file = tt

unfoldable pub computing : Unit {0}
unfolding characters-computing area-computing names-computing parse-computing pattern_file sheet_check_file
computing = tt
