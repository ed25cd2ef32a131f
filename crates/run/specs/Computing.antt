-- What a proof by computing unfolds: the definitions of this crate, markers for each of its files, and the markers of the crates below it.
-- tools/computing writes this file.
use Rattle.characters.specs.Computing.{computing as characters-computing}
use Rattle.area.specs.Computing.{computing as area-computing}
use Rattle.parse.specs.Computing.{computing as parse-computing}
use Rattle.sheet_check.specs.Computing.{computing as sheet-check-computing}
use Rattle.winner.specs.Computing.{computing as winner-computing}
use Rattle.input_check.specs.Computing.{computing as input-check-computing}
use Rattle.run.specs.Run.{limit, within_limit, put_state, good_start, start_call, good_numbers, good_run, popped, operated, move_by, won_by, choose, step_row, step_run, step_call, start_fields, view, view_fields}

unfoldable run_file : Unit {0}
unfolding limit within_limit put_state good_start start_call good_numbers good_run popped operated move_by won_by choose step_row step_run step_call start_fields view view_fields
run_file = tt

unfoldable pub computing : Unit {0}
unfolding characters-computing area-computing parse-computing sheet-check-computing winner-computing input-check-computing run_file
computing = tt
