-- What a proof by computing unfolds: the definitions of this crate, markers for each of its files, and the markers of the crates below it.
-- tools/computing writes this file.
use Rattle.characters.specs.Computing.{computing as characters-computing}
use Rattle.text.specs.Range.{part, same_bytes, same_range, lookahead_is}
use Rattle.text.specs.Scan.{trim_start, trim_end, backslashes_behind, backslashes_before, keep_escaped, trim_end_unescaped}

unfoldable range_file : Unit {0}
unfolding part same_bytes same_range lookahead_is
range_file = tt

unfoldable scan_file : Unit {0}
unfolding trim_start trim_end backslashes_behind backslashes_before keep_escaped trim_end_unescaped
scan_file = tt

unfoldable pub computing : Unit {0}
unfolding characters-computing range_file scan_file
computing = tt
