-- What a proof by computing unfolds: the definitions of this crate, markers for each of its files, and the markers of the crates below it.
-- tools/computing writes this file.
use Rattle.characters.specs.Computing.{computing as characters-computing}
use Rattle.area.specs.Computing.{computing as area-computing}
use Rattle.lines.specs.CodePoints.{behind_one, behind_all}
use Rattle.lines.specs.Lines.{line_num, behind_end, line_byte, col_num, tested, place_in, line_column, offset_in, offset_at, refusal_number, line_column_fields, place_left, offset_fields}
use Rattle.lines.specs.Places.{place_at}

unfoldable code_points_file : Unit {0}
unfolding behind_one behind_all
code_points_file = tt

unfoldable lines_file : Unit {0}
unfolding line_num behind_end line_byte col_num tested place_in line_column offset_in offset_at refusal_number line_column_fields place_left offset_fields
lines_file = tt

unfoldable places_file : Unit {0}
unfolding place_at
places_file = tt

unfoldable pub computing : Unit {0}
unfolding characters-computing area-computing code_points_file lines_file places_file
computing = tt
