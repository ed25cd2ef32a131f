-- What a proof by computing unfolds: the definitions of this crate, markers for each of its files, and the markers of the crates below it.
-- tools/computing writes this file.
use Rattle.characters.specs.Computing.{computing as characters-computing}
use Rattle.area.specs.Computing.{computing as area-computing}
use Rattle.fault.specs.Faults.{next_number, add_fault, starts_fault, is_fault, find_fault, fault_end, add_span, add_pair, repeat_at, add_repeat}
use Rattle.fault.specs.Step.{loop}

unfoldable faults_file : Unit {0}
unfolding next_number add_fault starts_fault is_fault find_fault fault_end add_span add_pair repeat_at add_repeat
faults_file = tt

unfoldable step_file : Unit {0}
unfolding loop
step_file = tt

unfoldable pub computing : Unit {0}
unfolding characters-computing area-computing faults_file step_file
computing = tt
