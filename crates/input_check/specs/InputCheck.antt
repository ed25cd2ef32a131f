-- Whether what a start and a step are given fits: the entry's text (02, 2/13, 12), and a length of the row (02, 2/13).
use Rattle.std.specs.Prelude.{ℕ, ◌+◌, ◌≡◌, Bool, true, ◌&&◌, List, eqb, leb, length}
use Rattle.characters.specs.Unicode.{Encoded, Edge}
use Rattle.characters.specs.Utf8.{is_edge, utf8}

-- number 12: the text is well-formed UTF-8 and has n bytes (02, 2/13)
unfoldable pub good_text : ℕ → List ℕ → Bool
good_text n text = eqb (length text) n && utf8 text

-- with so many bytes left from the position on: a length is not above them, and position plus length is at the edge of a character (02, 2/13)
unfoldable pub length_fits : List ℕ → ℕ → ℕ → ℕ → Bool
length_fits text left position l = leb l left && is_edge text (position + l)

-- ---- the edges of a text

-- b is an edge of s: s is the encoding of some characters, and b the length of that of some first of them (02, 2/13)
pub record EdgeOf (s : List ℕ) (b : ℕ) : Type 0 where
  pub text : Encoded s
  pub edge : Edge text.scalar_values b

-- the test by bytes, b is not above the length and no byte from 80 to BF stands there, holds exactly at the edges of s (02, 2/13)
pub record JudgesEdges (s : List ℕ) : Type 0 where
  pub sound : (b : ℕ) → is_edge s b ≡ true → EdgeOf s b
  pub complete : (b : ℕ) → EdgeOf s b → is_edge s b ≡ true
