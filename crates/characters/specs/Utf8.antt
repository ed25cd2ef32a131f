-- Well-formed UTF-8, by the Unicode standard's table of well-formed byte sequences (table 3-7). Number 3 of 01 refuses all else.
use Rattle.std.specs.Prelude.{Bool, cond, not, ◌&&◌, ◌||◌, List, ℕ, ◌+◌, eqb, leb, ltb, length}
use Rattle.characters.specs.Class.{within}
use Rattle.characters.specs.Whitespace.{byte}
use Rattle.characters.specs.Walk.{skip}

-- a byte inside a character, not its first
abbrev pub is_continuation : ℕ → Bool
is_continuation b = within 0x80 0xbf b

-- no character of the text goes on at k: the byte there is not one inside a character
abbrev pub at_edge : List ℕ → ℕ → Bool
at_edge s k = not (is_continuation (byte s k))

-- b is an edge of the text s: it is not above its length, and no character goes on there
abbrev pub is_edge : List ℕ → ℕ → Bool
is_edge s b = leb b (length s) && at_edge s b

-- the table's row for one byte
abbrev pub one_byte : ℕ → Bool
one_byte a = ltb a 0x80

-- its row for two bytes
abbrev pub two_bytes : ℕ → ℕ → Bool
two_bytes a b = within 0xc2 0xdf a && is_continuation b

-- its four rows for three bytes
abbrev pub three_bytes : ℕ → ℕ → ℕ → Bool
three_bytes a b c =
    (eqb a 0xe0 && (within 0xa0 0xbf b && is_continuation c))
    || ((within 0xe1 0xec a && (is_continuation b && is_continuation c))
    || ((eqb a 0xed && (within 0x80 0x9f b && is_continuation c)) || (within 0xee 0xef a && (is_continuation b && is_continuation c))))

-- its three rows for four bytes
abbrev pub four_bytes : ℕ → ℕ → ℕ → ℕ → Bool
four_bytes a b c d =
    (eqb a 0xf0 && (within 0x90 0xbf b && (is_continuation c && is_continuation d)))
    || ((within 0xf1 0xf3 a && (is_continuation b && (is_continuation c && is_continuation d)))
    || (eqb a 0xf4 && (within 0x80 0x8f b && (is_continuation c && is_continuation d))))

-- how many of the bytes a b c d make a character; 0 where they start with none
unfoldable pub char_of : ℕ → ℕ → ℕ → ℕ → ℕ
char_of a b c d = cond (one_byte a) 1 (cond (two_bytes a b) 2 (cond (three_bytes a b c) 3 (cond (four_bytes a b c d) 4 0)))

-- the same of the bytes from k on
abbrev pub char_at : List ℕ → ℕ → ℕ
char_at s k = char_of (byte s k) (byte s (k + 1)) (byte s (k + 2)) (byte s (k + 3))

-- how many bytes the character has that starts at k and ends within the text; 0 where none does
unfoldable pub char_len : List ℕ → ℕ → ℕ
char_len s k = cond (leb (k + char_at s k) (length s)) (char_at s k) 0

-- past the characters that follow one another from k on
abbrev pub skip_chars : List ℕ → ℕ → ℕ
skip_chars s k = skip (char_len s) (length s) k

-- s is well formed: from its start characters follow one another to its end (01, Numbers given at the counter, 3)
unfoldable pub utf8 : List ℕ → Bool
utf8 s = eqb (skip_chars s 0) (length s)
