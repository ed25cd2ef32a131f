-- What a proof by computing unfolds: the definitions of this crate, markers for each of its files, and the markers of the crates below it.
-- tools/computing writes this file.
use Rattle.characters.specs.Class.{is_line_end, is_blank, is_other_whitespace, is_letter, is_digit, is_hex_digit, is_meta_character, is_escape_letter, is_always_kept, is_whitespace_byte, is_ascii_whitespace}
use Rattle.characters.specs.Shortcuts.{out_of_place, starts_out_of_place, ends_out_of_place}
use Rattle.characters.specs.Unicode.{encode, encode_all, is_pattern_white_space, is_line_terminator}
use Rattle.characters.specs.Utf8.{char_of, char_len, utf8}
use Rattle.characters.specs.Walk.{first_of, first, last_of, last, count_of, count, any, repeat, skip}
use Rattle.characters.specs.Whitespace.{whitespace_of, line_end_of, whitespace_len, line_end_len}

unfoldable class_file : Unit {0}
unfolding is_line_end is_blank is_other_whitespace is_letter is_digit is_hex_digit is_meta_character is_escape_letter is_always_kept is_whitespace_byte is_ascii_whitespace
class_file = tt

unfoldable shortcuts_file : Unit {0}
unfolding out_of_place starts_out_of_place ends_out_of_place
shortcuts_file = tt

unfoldable unicode_file : Unit {0}
unfolding encode encode_all is_pattern_white_space is_line_terminator
unicode_file = tt

unfoldable utf8_file : Unit {0}
unfolding char_of char_len utf8
utf8_file = tt

unfoldable walk_file : Unit {0}
unfolding first_of first last_of last count_of count any repeat skip
walk_file = tt

unfoldable whitespace_file : Unit {0}
unfolding whitespace_of line_end_of whitespace_len line_end_len
whitespace_file = tt

unfoldable pub computing : Unit {0}
unfolding class_file shortcuts_file unicode_file utf8_file walk_file whitespace_file
computing = tt
