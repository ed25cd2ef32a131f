-- What a proof by computing unfolds: the definitions of this crate, markers for each of its files, and the markers of the crates below it.
-- tools/computing writes this file.
use Rattle.characters.specs.Computing.{computing as characters-computing}
use Rattle.text.specs.Computing.{computing as text-computing}
use Rattle.area.specs.Computing.{computing as area-computing}
use Rattle.escape.specs.Escape.{next_escape, escapes_from, escapes, is_code_letter, is_code, is_kept_by, is_kept, backspace, escape_from, escaped, any_escape, is_rewritten, last_end, last_whole, drop_lone, rewritten_end, replaced, unescaped}
use Rattle.escape.specs.Phrases.{next_whole}

unfoldable escape_file : Unit {0}
unfolding next_escape escapes_from escapes is_code_letter is_code is_kept_by is_kept backspace escape_from escaped any_escape is_rewritten last_end last_whole drop_lone rewritten_end replaced unescaped
escape_file = tt

unfoldable phrases_file : Unit {0}
unfolding next_whole
phrases_file = tt

unfoldable pub computing : Unit {0}
unfolding characters-computing text-computing area-computing escape_file phrases_file
computing = tt
