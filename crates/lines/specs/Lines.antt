-- The line and column of an offset, and the offset of a line and column (02, 1/13).
use Rattle.std.specs.Prelude.{ℕ, ◌+◌, Bool, cond, ◌&&◌, List, [], ◌∷◌, eqb, leb, ltb, length, Option, Some, None, Result, Ok, Err}
use Rattle.answers.specs.Numbers.{accepted_number, long_file_number, invalid_utf8_number, no_such_place_number, most_source}
use Rattle.answers.specs.Words.{Fields, fields, word}
use Rattle.characters.specs.Utf8.{at_edge, is_edge, utf8}
use Rattle.characters.specs.Walk.{first, last, count}
use Rattle.characters.specs.Whitespace.{byte}
use Rattle.lines.specs.declared.Byte.{Byte}
use Rattle.lines.specs.declared.Place.{Place}
use Rattle.lines.specs.declared.PlaceError.{PlaceError}
use Rattle.lines.specs.declared.PlaceError.TheVariants.{LongFile, InvalidUtf8, NoSuchPlace}

-- ---- the line and column of an offset

-- U+000A, which is one byte
abbrev pub line_feed : ℕ
line_feed = 0x0a

-- a line ends at it only (02, 1/13)
abbrev pub ends_line : List ℕ → ℕ → Bool
ends_line s k = eqb (byte s k) line_feed

-- the line of the offset b, from 1: the line ends before it are counted (02, 1/13)
unfoldable pub line_num : List ℕ → ℕ → ℕ
line_num s b = 1 + count (ends_line s) 0 b

-- behind a line end; 0 where there is none
unfoldable pub behind_end : Option ℕ → ℕ
behind_end None = 0
behind_end (Some k) = k + 1

-- where that line starts: behind the last line end before b, or at 0
unfoldable pub line_byte : List ℕ → ℕ → ℕ
line_byte s b = behind_end (last (ends_line s) 0 b)

-- the column of b, from 1: the characters from the line's start to b are counted, each by its first byte (02, 1/13)
unfoldable pub col_num : List ℕ → ℕ → ℕ
col_num s b = 1 + count (at_edge s) (line_byte s b) b

-- the two together
abbrev pub place : ℕ → ℕ → Place
place l c = record { line_num = record { 0 = l }; col_num = record { 0 = c } }

-- the line of a place
abbrev pub line_of : Place → ℕ
line_of p = p.line_num.0

-- its column
abbrev pub column_of : Place → ℕ
column_of p = p.col_num.0

-- the offset is allowed: it is not above the length and not inside a character (02, 1/13)
abbrev pub is_allowed : List ℕ → ℕ → Bool
is_allowed s b = is_edge s b

-- ---- the calls

-- what a call answers by the tests 1 and 3, and otherwise of the text (02, 1/13)
unfoldable pub tested : {A : Type 0} → List ℕ → Result A PlaceError → Result A PlaceError
tested s answer = cond (ltb most_source (length s)) (Err LongFile) (cond (utf8 s) answer (Err InvalidUtf8))

-- the place of an offset of a text, number 11 where the offset is not allowed (02, 1/13)
unfoldable pub place_in : List ℕ → ℕ → Result Place PlaceError
place_in s b = cond (is_allowed s b) (Ok (place (line_num s b) (col_num s b))) (Err NoSuchPlace)

-- the line and column of an offset: 1, 3, then 11 (02, 1/13)
unfoldable pub line_column : List ℕ → ℕ → Result Place PlaceError
line_column s b = tested s (place_in s b)

-- the offset b is allowed, and has the line and column of p
abbrev pub stands : List ℕ → Place → ℕ → Bool
stands s p b = is_allowed s b && (eqb (line_num s b) (line_of p) && eqb (col_num s b) (column_of p))

-- the offset that is allowed and stands at p, the first of them; behind the text where there is none
abbrev pub offset_of : List ℕ → Place → ℕ
offset_of s p = first (stands s p) 0 (length s + 1)

-- the same, number 11 where there is none (02, 1/13)
unfoldable pub offset_in : List ℕ → Place → Result Byte PlaceError
offset_in s p = cond (leb (offset_of s p) (length s)) (Ok (record { 0 = offset_of s p })) (Err NoSuchPlace)

-- the offset of a line and column: 1, 3, then 11 (02, 1/13)
unfoldable pub offset_at : List ℕ → Place → Result Byte PlaceError
offset_at s p = tested s (offset_in s p)

-- ---- the answers as words, and what is left

-- the number of each refusal
unfoldable pub refusal_number : PlaceError → ℕ
refusal_number LongFile = long_file_number
refusal_number InvalidUtf8 = invalid_utf8_number
refusal_number NoSuchPlace = no_such_place_number

-- a refusal has no values
abbrev pub refusal_fields : PlaceError → Fields
refusal_fields e = fields (refusal_number e) 0 0 0

-- the number of each answer of line_column; its values do not fit a word
unfoldable pub line_column_fields : Result Place PlaceError → Fields
line_column_fields (Ok p) = fields accepted_number 0 0 0
line_column_fields (Err e) = refusal_fields e

abbrev pub line_column_word : Result Place PlaceError → ℕ
line_column_word x = word (line_column_fields x)

-- what stands then where the line and column are written; a refusal leaves it as it was
unfoldable pub place_left : Result Place PlaceError → List ℕ → List ℕ
place_left (Ok p) was = line_of p ∷ column_of p ∷ []
place_left (Err e) was = was

-- what the line_column call leaves: its word, and the line and column
pub record LineColumnLeft : Type 0 where
  pub answer : ℕ
  pub place : List ℕ

abbrev pub line_column_left : ℕ → List ℕ → LineColumnLeft
line_column_left w l = record { answer = w; place = l }

-- the line_column call on the source s, the offset b, and what stood where the line and column are written
abbrev pub line_column_call : List ℕ → ℕ → List ℕ → LineColumnLeft
line_column_call s b was = line_column_left (line_column_word (line_column s b)) (place_left (line_column s b) was)

-- the number and the value of each answer of offset_at
unfoldable pub offset_fields : Result Byte PlaceError → Fields
offset_fields (Ok b) = fields accepted_number b.0 0 0
offset_fields (Err e) = refusal_fields e

abbrev pub offset_word : Result Byte PlaceError → ℕ
offset_word x = word (offset_fields x)
