-- The lines that `sheet` prints of a file (01, Files to try, the end; the words are ASCII).
use Rattle.std.specs.Prelude.{Ok, Err, ℕ, ◌+◌, ◌*◌, List, [], ◌++◌, length}
use Rattle.answers.specs.Numbers.{long_file_number, unknown_flag_number, invalid_utf8_number}
use Rattle.area.specs.Names.{area_number}
use Rattle.area.specs.Records.{nth_state, nth_rule, nth_fault}
use Rattle.parse.specs.declared.ParseError.TheVariants.{LongFile, UnknownFlag, InvalidUtf8, AreaFull, FaultyFile}
use Rattle.section.specs.Request.{Request, asked}
use Rattle.parse.specs.Parse.{ParseAnswer, Outcome, Caps, caps, long_file, unknown_flag, invalid_utf8, area_full, faulty, accepted, outcome}
use Rattle.output.specs.Output.{joined}
use Rattle.sheet_lines.specs.Lines.{state_line, rule_line, fault_line, refused_line, full_line, fault_lines, sheet_lines}

-- what is printed of a file s that has an outcome: its states and rules, its faults, or the refusal
unfoldable pub text_of : List ℕ → Outcome → List ℕ
text_of s long_file = refused_line long_file_number
text_of s unknown_flag = refused_line unknown_flag_number
text_of s invalid_utf8 = refused_line invalid_utf8_number
text_of s (area_full area) = full_line (area_number area)
text_of s (faulty fs) = joined (λ k. fault_line (nth_fault fs k)) (length fs)
text_of s (accepted b) =
    joined (λ k. state_line s k (nth_state b.states k)) (length b.states)
    ++ joined (λ k. rule_line k (nth_rule b.rules k)) (length b.rules)

-- how many bytes the program lends for each area
unfoldable pub sheet_caps : Caps
sheet_caps = caps 384 57344 32768 32768 32768 32768

-- what `sheet` asks of the file s: flags 0, no verdicts
abbrev pub sheet_request : List ℕ → Request
sheet_request s = asked s 0 []

-- what it prints of it
unfoldable pub sheet_text : List ℕ → List ℕ
sheet_text s = text_of s (outcome (sheet_request s) sheet_caps)

-- as many bytes as no sheet's text passes: 64 lines of a state without its name, with INITIAL counted in each; the names, which do not overlap
-- in a file of at most 65,535 bytes; and 2,048 lines of a rule (01, Areas, the limits)
abbrev pub sheet_room : ℕ
sheet_room = 64 * 38 + 65535 + 2048 * 95

-- ---- the same, from the areas' bytes

-- what is printed of an answer, the counts and the areas
unfoldable pub answer_text : List ℕ → ParseAnswer → ℕ → ℕ → List ℕ → List ℕ → List ℕ → List ℕ
answer_text s (Ok x) states rules l1 l2 l6 = sheet_lines s l1 states l2 rules
answer_text s (Err LongFile) states rules l1 l2 l6 = refused_line long_file_number
answer_text s (Err UnknownFlag) states rules l1 l2 l6 = refused_line unknown_flag_number
answer_text s (Err InvalidUtf8) states rules l1 l2 l6 = refused_line invalid_utf8_number
answer_text s (Err (AreaFull area)) states rules l1 l2 l6 = full_line (area_number area)
answer_text s (Err (FaultyFile spans)) states rules l1 l2 l6 = fault_lines l6 spans
