-- The number of each answer of the calls, each once (01, Numbers given at the counter, and The run; 02).
use Rattle.std.specs.Prelude.{ℕ}
use Rattle.answers.specs.declared.Number.{Number}
use Rattle.answers.specs.declared.Number.TheVariants.{Accepted, LongFile, UnknownFlag, InvalidUtf8, AreaFull, FaultyFile, BrokenSheet, BrokenMap}
use Rattle.answers.specs.declared.Number.TheVariants.{StartRefused, BrokenRun, RowMismatch, NoSuchPlace, TextMismatch, UnknownCaller, Done, Stopped, Unlinked, Skip, Token}

-- ---- accepted, and the refusals

abbrev pub accepted_number : ℕ
accepted_number = 0

-- the file is too long: it has more than most_source bytes
abbrev pub long_file_number : ℕ
long_file_number = 1

-- the flags are not known
abbrev pub unknown_flag_number : ℕ
unknown_flag_number = 2

-- the file is not valid UTF-8
abbrev pub invalid_utf8_number : ℕ
invalid_utf8_number = 3

-- an area has no room; the value is its number
abbrev pub area_full_number : ℕ
area_full_number = 4

-- the file has faults; the value is how many spans
abbrev pub faulty_file_number : ℕ
faulty_file_number = 5

-- the sheet fails its check
abbrev pub broken_sheet_number : ℕ
broken_sheet_number = 6

-- the map fails its check
abbrev pub broken_map_number : ℕ
broken_map_number = 7

-- the entry is too long for its kind of caller, or its stack too short
abbrev pub start_refused_number : ℕ
start_refused_number = 8

-- the run fails its check
abbrev pub broken_run_number : ℕ
broken_run_number = 9

-- the row does not fit
abbrev pub row_mismatch_number : ℕ
row_mismatch_number = 10

-- no such offset, line and column (02, 1/13)
abbrev pub no_such_place_number : ℕ
no_such_place_number = 11

-- the text of the entry is not well-formed UTF-8, or has not n bytes (02, 2/13)
abbrev pub text_mismatch_number : ℕ
text_mismatch_number = 12

-- there is no such kind of caller (02, 3/13)
abbrev pub unknown_caller_number : ℕ
unknown_caller_number = 13

-- the most bytes of a file (01, Numbers given at the counter, 1)
abbrev pub most_source : ℕ
most_source = 65535

-- ---- the answers of a step, from 256 on

-- nothing is left of the entry
abbrev pub done_number : ℕ
done_number = 256

-- no live rule has a length
abbrev pub stopped_number : ℕ
stopped_number = 257

-- the winner is named and has no id
abbrev pub unlinked_number : ℕ
unlinked_number = 258

abbrev pub skip_number : ℕ
skip_number = 259

-- the values are its id, start and length
abbrev pub token_number : ℕ
token_number = 260

-- ---- the numbers by name

-- the number of each name
abbrev pub number_of : Number → ℕ
number_of Accepted = accepted_number
number_of LongFile = long_file_number
number_of UnknownFlag = unknown_flag_number
number_of InvalidUtf8 = invalid_utf8_number
number_of AreaFull = area_full_number
number_of FaultyFile = faulty_file_number
number_of BrokenSheet = broken_sheet_number
number_of BrokenMap = broken_map_number
number_of StartRefused = start_refused_number
number_of BrokenRun = broken_run_number
number_of RowMismatch = row_mismatch_number
number_of NoSuchPlace = no_such_place_number
number_of TextMismatch = text_mismatch_number
number_of UnknownCaller = unknown_caller_number
number_of Done = done_number
number_of Stopped = stopped_number
number_of Unlinked = unlinked_number
number_of Skip = skip_number
number_of Token = token_number
