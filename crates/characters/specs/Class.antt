-- 01, Characters: the classes of a byte. A byte of 128 or more is in none of them.
use Rattle.std.specs.Prelude.{ℕ, ◌<◌, ◌≡◌, Bool, false, ◌&&◌, ◌||◌, not, List, [], ◌∷◌, leb, eqb, get_or}
use Rattle.std.specs.Int.Bits.{bit_and}

-- b is from lo to hi
abbrev pub within : ℕ → ℕ → ℕ → Bool
within lo hi b = leb lo b && leb b hi

-- b is one of the list
abbrev pub among : List ℕ → ℕ → Bool
among [] b = false
among (x ∷ xs) b = eqb b x || among xs b

-- line feed, vertical tab, carriage return: the line ends of one byte (01, Characters)
unfoldable pub is_line_end : ℕ → Bool
is_line_end b = among (0x0a ∷ 0x0b ∷ 0x0d ∷ []) b

-- space and tab (01, Characters)
unfoldable pub is_blank : ℕ → Bool
is_blank b = among (0x20 ∷ 0x09 ∷ []) b

-- form feed, the whitespace of one byte that is neither (01, Characters)
unfoldable pub is_other_whitespace : ℕ → Bool
is_other_whitespace b = eqb b 0x0c

-- A to Z, a to z (01, Characters)
unfoldable pub is_letter : ℕ → Bool
is_letter b = within 0x41 0x5a b || within 0x61 0x7a b

-- 0 to 9 (01, Characters)
unfoldable pub is_digit : ℕ → Bool
is_digit b = within 0x30 0x39 b

-- 0 to 9, A to F, a to f (01, Characters)
unfoldable pub is_hex_digit : ℕ → Bool
is_hex_digit b = within 0x30 0x39 b || (within 0x41 0x46 b || within 0x61 0x66 b)

-- \ . + * ? ( ) | [ ] { } ^ $ # & - ~ (01, Characters)
unfoldable pub is_meta_character : ℕ → Bool
is_meta_character b =
    among (0x5c ∷ 0x2e ∷ 0x2b ∷ 0x2a ∷ 0x3f ∷ 0x28 ∷ 0x29 ∷ 0x7c ∷ 0x5b ∷ 0x5d ∷ 0x7b ∷ 0x7d ∷ 0x5e ∷ 0x24 ∷ 0x23 ∷ 0x26 ∷ 0x2d ∷ 0x7e ∷ []) b

-- a f n r t v p P d D s S w W A z: the letters whose escape stays as it is (01, Rules)
unfoldable pub is_escape_letter : ℕ → Bool
is_escape_letter b =
    among (0x61 ∷ 0x66 ∷ 0x6e ∷ 0x72 ∷ 0x74 ∷ 0x76 ∷ 0x70 ∷ 0x50 ∷ 0x64 ∷ 0x44 ∷ 0x73 ∷ 0x53 ∷ 0x77 ∷ 0x57 ∷ 0x41 ∷ 0x7a ∷ []) b

-- a meta character, a digit or an escape letter: an escape of it stays as it is (01, Rules)
unfoldable pub is_always_kept : ℕ → Bool
is_always_kept b = is_meta_character b || (is_digit b || is_escape_letter b)

-- the number x has a bit of the mask m
abbrev pub has : ℕ → ℕ → Bool
has x m = not (eqb (bit_and x m) 0)

-- the number x tells the classes of the byte b, a bit for each (01, Characters)
pub record Classes (b x : ℕ) : Type 0 where
  pub line_end : has x 1 ≡ is_line_end b
  pub blank : has x 2 ≡ is_blank b
  pub other_whitespace : has x 4 ≡ is_other_whitespace b
  pub letter : has x 8 ≡ is_letter b
  pub digit : has x 16 ≡ is_digit b
  pub hex_digit : has x 32 ≡ is_hex_digit b
  pub meta_character : has x 64 ≡ is_meta_character b
  pub escape_letter : has x 128 ≡ is_escape_letter b

-- the table l tells the classes of each byte (01, Characters)
pub record ClassTable (l : List ℕ) : Type 0 where
  pub rule : (b : ℕ) → b < 256 → Classes b (get_or l b 0)

-- the whitespace characters of one byte (01, Characters)
unfoldable pub is_whitespace_byte : ℕ → Bool
is_whitespace_byte b = is_line_end b || (is_blank b || is_other_whitespace b)

-- ASCII whitespace: tab, line feed, form feed, carriage return, space, and no vertical tab (01, Declarations)
unfoldable pub is_ascii_whitespace : ℕ → Bool
is_ascii_whitespace b = is_whitespace_byte b && not (eqb b 0x0b)
