-- What a proof by computing unfolds: the definitions of this crate, markers for each of its files, and the markers of the crates below it.
-- tools/computing writes this file.
use Rattle.characters.specs.Computing.{computing as characters-computing}
use Rattle.text.specs.Computing.{computing as text-computing}
use Rattle.section.specs.Options.{comments, posix_escapes}
use Rattle.section.specs.Section.{is_comment, past_comment, past_line, to_declaration, past_rule_line, to_rule, in_section, has_routines}

unfoldable options_file : Unit {0}
unfolding comments posix_escapes
options_file = tt

unfoldable section_file : Unit {0}
unfolding is_comment past_comment past_line to_declaration past_rule_line to_rule in_section has_routines
section_file = tt

unfoldable pub computing : Unit {0}
unfolding characters-computing text-computing options_file section_file
computing = tt
