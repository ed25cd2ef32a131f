-- What a proof by computing unfolds: the definitions of this crate, markers for each of its files, and the markers of the crates below it.
-- tools/computing writes this file.
use Rattle.characters.specs.Computing.{computing as characters-computing}
use Rattle.area.specs.Computing.{computing as area-computing}
use Rattle.winner.specs.Phrases.{winning}
use Rattle.winner.specs.Top.{good_row}
use Rattle.winner.specs.Winner.{find_in_list, in_list, live, weight, greatest, earliest, better}

unfoldable phrases_file : Unit {0}
unfolding winning
phrases_file = tt

unfoldable top_file : Unit {0}
unfolding good_row
top_file = tt

unfoldable winner_file : Unit {0}
unfolding find_in_list in_list live weight greatest earliest better
winner_file = tt

unfoldable pub computing : Unit {0}
unfolding characters-computing area-computing phrases_file top_file winner_file
computing = tt
