-- What the link call leaves, with its answer as a word (01, Numbers given at the counter).
use Rattle.std.specs.Prelude.{ℕ, List}
use Rattle.link.specs.Link.{LinkLeft, link_word}

-- what the call leaves: its word, and areas 2, 7 and 8 (01, Linking)
pub record LinkInWords : Type 0 where
  pub answer : ℕ
  pub area2 : List ℕ
  pub area7 : List ℕ
  pub area8 : List ℕ

-- the record of these
abbrev pub link_in_words : ℕ → List ℕ → List ℕ → List ℕ → LinkInWords
link_in_words r x2 x7 x8 = record { answer = r; area2 = x2; area7 = x7; area8 = x8 }

-- the same, its answer as a word
abbrev pub in_link_words : LinkLeft → LinkInWords
in_link_words x = link_in_words (link_word x.answer) x.area2 x.area7 x.area8
