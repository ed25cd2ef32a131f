-- 01, Characters: whitespace characters and line ends, as they stand in the bytes of a text. `Unicode` has their code points.
use Rattle.std.specs.Prelude.{◌≡◌, Bool, ◌&&◌, ◌||◌, cond, List, ℕ, ◌+◌, ◌≤◌, eqb, ltb, get_or, length}
use Rattle.characters.specs.Class.{is_whitespace_byte, is_line_end}

-- the byte at i, and 0 past the end: no whitespace character has a byte 0
abbrev pub byte : List ℕ → ℕ → ℕ
byte s i = get_or s i 0

-- U+0085 is C2 85
abbrev pub is_next_line : ℕ → ℕ → Bool
is_next_line a b = eqb a 0xc2 && eqb b 0x85

-- U+200E and U+200F are E2 80 8E and E2 80 8F
abbrev pub is_mark : ℕ → ℕ → ℕ → Bool
is_mark a b c = eqb a 0xe2 && (eqb b 0x80 && (eqb c 0x8e || eqb c 0x8f))

-- U+2028 and U+2029 are E2 80 A8 and E2 80 A9
abbrev pub is_separator : ℕ → ℕ → ℕ → Bool
is_separator a b c = eqb a 0xe2 && (eqb b 0x80 && (eqb c 0xa8 || eqb c 0xa9))

-- of the bytes a b c, how many the whitespace character has that they start with; 0 where they start with none
unfoldable pub whitespace_of : ℕ → ℕ → ℕ → ℕ
whitespace_of a b c = cond (is_whitespace_byte a) 1 (cond (is_next_line a b) 2 (cond (is_mark a b c || is_separator a b c) 3 0))

-- the same of a line end
unfoldable pub line_end_of : ℕ → ℕ → ℕ → ℕ
line_end_of a b c = cond (is_line_end a) 1 (cond (is_separator a b c) 3 0)

-- how many bytes the whitespace character has that starts at i; 0 where none does
unfoldable pub whitespace_len : List ℕ → ℕ → ℕ
whitespace_len s i = whitespace_of (byte s i) (byte s (i + 1)) (byte s (i + 2))

-- how many bytes the line end has that starts at i; 0 where none does
unfoldable pub line_end_len : List ℕ → ℕ → ℕ
line_end_len s i = line_end_of (byte s i) (byte s (i + 1)) (byte s (i + 2))

-- a whitespace character starts at i
abbrev pub at_whitespace : List ℕ → ℕ → Bool
at_whitespace s i = ltb 0 (whitespace_len s i)

-- a line end starts at i
abbrev pub at_line_end : List ℕ → ℕ → Bool
at_line_end s i = ltb 0 (line_end_len s i)

-- r is n, and that many bytes stand at i
pub record Width (s : List ℕ) (i n r : ℕ) : Type 0 where
  pub is : r ≡ n
  pub fits : i + r ≤ length s
