-- What quick tests promise. No sentence of 01 is in this file, and no answer depends on it: a quick test stands in front of the table of classes,
-- or of a walk, which decides where the test does not.
use Rattle.std.specs.Prelude.{◌≡◌, Bool, true, false, not, ◌&&◌, ◌||◌, List, ℕ, ◌+◌, leb, eqb}
use Rattle.characters.specs.Class.{within, is_line_end, is_whitespace_byte}
use Rattle.characters.specs.Whitespace.{byte}
use Rattle.characters.specs.Utf8.{is_continuation}

-- p does not hold where the quick test answers false
pub record RulesOut (p answer : Bool) : Type 0 where
  pub none : answer ≡ false → p ≡ false

-- p holds where the quick test answers true
pub record Tells (p answer : Bool) : Type 0 where
  pub holds : answer ≡ true → p ≡ true

-- a line end starts with a byte of that class, or with one of 128 or more
abbrev pub may_end_line : ℕ → Bool
may_end_line b = is_line_end b || leb 0x80 b

-- a byte of a whitespace character is of one of its classes, or 128 or more
abbrev pub may_be_whitespace : ℕ → Bool
may_be_whitespace b = is_whitespace_byte b || leb 0x80 b

-- behind the bytes a b c a character goes on
abbrev pub goes_on : ℕ → ℕ → ℕ → Bool
goes_on a b c = leb 0xc0 c || (leb 0xe0 b || leb 0xf0 a)

-- d is a byte inside a character where none goes on, or is not where one does
abbrev pub unexpected : ℕ → ℕ → ℕ → ℕ → Bool
unexpected a b c d = (goes_on a b c && not (is_continuation d)) || (not (goes_on a b c) && is_continuation d)

-- no character has the byte d
abbrev pub in_no_character : ℕ → Bool
in_no_character d = within 0xc0 0xc1 d || leb 0xf5 d

-- d is too low behind E0 or F0, or too high behind ED or F4
abbrev pub wrong_second : ℕ → ℕ → Bool
wrong_second c d =
    ((eqb c 0xe0 && within 0x80 0x9f d) || (eqb c 0xed && not (within 0x80 0x9f d)))
    || ((eqb c 0xf0 && within 0x80 0x8f d) || (eqb c 0xf4 && not (within 0x80 0x8f d)))

-- no well-formed text has d behind the bytes a b c; a byte before its start or behind its end counts as 0
unfoldable pub out_of_place : ℕ → ℕ → ℕ → ℕ → Bool
out_of_place a b c d = unexpected a b c d || (in_no_character d || wrong_second c d)

-- the byte is out of place that stands behind the three from k on
abbrev pub out_of_place_behind : List ℕ → ℕ → Bool
out_of_place_behind s k = out_of_place (byte s k) (byte s (k + 1)) (byte s (k + 2)) (byte s (k + 3))

-- one of the first three bytes a b c of a text is out of place
unfoldable pub starts_out_of_place : ℕ → ℕ → ℕ → Bool
starts_out_of_place a b c = out_of_place 0 0 0 a || (out_of_place 0 0 a b || out_of_place 0 a b c)

-- a text whose last three bytes are a b c ends inside a character
unfoldable pub ends_out_of_place : ℕ → ℕ → ℕ → Bool
ends_out_of_place a b c = out_of_place a b c 0 || (out_of_place b c 0 0 || out_of_place c 0 0 0)
