-- What a proof by computing unfolds: the definitions of this crate, markers for each of its files, and the markers of the crates below it.
-- tools/computing writes this file.
use Rattle.characters.specs.Computing.{computing as characters-computing}
use Rattle.text.specs.Computing.{computing as text-computing}
use Rattle.area.specs.Computing.{computing as area-computing}
use Rattle.fault.specs.Computing.{computing as fault-computing}
use Rattle.section.specs.Computing.{computing as section-computing}
use Rattle.names.specs.Computing.{computing as names-computing}
use Rattle.declarations.specs.Declarations.{trimmed, word_end, first_word, rest_of, is_alphanumeric, declares, is_inclusive, is_exclusive, is_expecting, states_of, declaration_of, behind_name, add_state, repeat_state, state_named, declare_state, state_names}
use Rattle.declarations.specs.Declarations.{is_quoted, declare_expected, expected_names, declare_as, declaration, end_declarations, next_declaration, declarations}
use Rattle.declarations.specs.Stages.{declaration_by, naming_of}

unfoldable declarations_file : Unit {0}
unfolding trimmed word_end first_word rest_of is_alphanumeric declares is_inclusive is_exclusive is_expecting states_of declaration_of behind_name add_state repeat_state state_named declare_state state_names is_quoted
declarations_file = tt

unfoldable declarations_file_2 : Unit {0}
unfolding declare_expected expected_names declare_as declaration end_declarations next_declaration declarations
declarations_file_2 = tt

unfoldable stages_file : Unit {0}
unfolding declaration_by naming_of
stages_file = tt

unfoldable pub computing : Unit {0}
unfolding characters-computing text-computing area-computing fault-computing section-computing names-computing declarations_file declarations_file_2 stages_file
computing = tt
