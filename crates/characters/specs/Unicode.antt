-- Code points, their encoding form UTF-8, and the sets of UAX #31 that 01 names (01, Characters).
use Rattle.std.specs.Prelude.{◌≡◌, Bool, true, cond, ◌||◌, List, [], ◌∷◌, ◌++◌, ℕ, ◌+◌, ◌/◌, ◌%◌, ltb, length}
use Rattle.characters.specs.Class.{within, among}

-- the Unicode scalar values: the code points up to U+10FFFF but the surrogates
abbrev pub is_scalar : ℕ → Bool
is_scalar c = ltb c 0xd800 || within 0xe000 0x10ffff c

-- the bytes of a code point
unfoldable pub encode : ℕ → List ℕ
encode c =
    cond (ltb c 0x80) (c ∷ [])
    (cond (ltb c 0x800) ((0xc0 + c / 0x40) ∷ (0x80 + c % 0x40) ∷ [])
    (cond (ltb c 0x10000) ((0xe0 + c / 0x1000) ∷ (0x80 + c / 0x40 % 0x40) ∷ (0x80 + c % 0x40) ∷ [])
    ((0xf0 + c / 0x40000) ∷ (0x80 + c / 0x1000 % 0x40) ∷ (0x80 + c / 0x40 % 0x40) ∷ (0x80 + c % 0x40) ∷ [])))

-- the bytes of a list of code points
unfoldable pub encode_all : List ℕ → List ℕ
encode_all [] = []
encode_all (c ∷ cs) = encode c ++ encode_all cs

-- each of the code points is a scalar value
abbrev pub Scalars : List ℕ → Type 0
Scalars [] = Unit {0}
Scalars (c ∷ cs) = (is_scalar c ≡ true) × Scalars cs

-- s is the encoding of a list of scalar values
pub record Encoded (s : List ℕ) : Type 0 where
  pub scalar_values : List ℕ
  pub scalars : Scalars scalar_values
  pub bytes : encode_all scalar_values ≡ s

-- b is an edge of the text of the code points cs: the length of the bytes of some first of them
pub record Edge (cs : List ℕ) (b : ℕ) : Type 0 where
  pub before : List ℕ
  pub behind : List ℕ
  pub all : cs ≡ before ++ behind
  pub bytes : b ≡ length (encode_all before)

-- the test r holds exactly where b is an edge of the text of the code points cs
pub record JudgesEdge (cs : List ℕ) (b : ℕ) (r : Bool) : Type 0 where
  pub sound : r ≡ true → Edge cs b
  pub complete : Edge cs b → r ≡ true

-- the test r holds exactly of the encodings of lists of scalar values
pub record Judges (s : List ℕ) (r : Bool) : Type 0 where
  pub sound : r ≡ true → Encoded s
  pub complete : Encoded s → r ≡ true

-- Pattern_White_Space of UAX #31: U+0009 to U+000D, U+0020, U+0085, U+200E, U+200F, U+2028, U+2029 (01, Characters)
abbrev pub pattern_white_space : List ℕ
pattern_white_space = 0x09 ∷ 0x0a ∷ 0x0b ∷ 0x0c ∷ 0x0d ∷ 0x20 ∷ 0x85 ∷ 0x200e ∷ 0x200f ∷ 0x2028 ∷ 0x2029 ∷ []

-- the line ends among them: U+000A, U+000B, U+000D, U+2028, U+2029 (01, Characters)
abbrev pub line_terminators : List ℕ
line_terminators = 0x0a ∷ 0x0b ∷ 0x0d ∷ 0x2028 ∷ 0x2029 ∷ []

-- c is a whitespace character (01, Characters)
unfoldable pub is_pattern_white_space : ℕ → Bool
is_pattern_white_space c = among pattern_white_space c

-- c is a line end (01, Characters)
unfoldable pub is_line_terminator : ℕ → Bool
is_line_terminator c = among line_terminators c
