-- What a proof by computing unfolds: the definitions of this crate, markers for each of its files, and the markers of the crates below it.
-- tools/computing writes this file.
use Rattle.characters.specs.Computing.{computing as characters-computing}
use Rattle.area.specs.Computing.{computing as area-computing}
use Rattle.winner.specs.Computing.{computing as winner-computing}
use Rattle.input_check.specs.InputCheck.{good_text, length_fits}

unfoldable input_check_file : Unit {0}
unfolding good_text length_fits
input_check_file = tt

unfoldable pub computing : Unit {0}
unfolding characters-computing area-computing winner-computing input_check_file
computing = tt
