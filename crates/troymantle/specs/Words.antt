-- What a call leaves, with its answer as a word (01, Numbers given at the counter).
use Rattle.std.specs.Prelude.{ℕ, List}
use Rattle.parse.specs.Parse.{Left, parse_word}

-- what a call leaves: its word, the six counts and the six areas (01, Numbers given at the counter)
pub record LeftInWords : Type 0 where
  pub answer : ℕ
  pub counts : List ℕ
  pub area1 : List ℕ
  pub area2 : List ℕ
  pub area3 : List ℕ
  pub area4 : List ℕ
  pub area5 : List ℕ
  pub area6 : List ℕ

-- the record of these
abbrev pub left_in_words : ℕ → List ℕ → List ℕ → List ℕ → List ℕ → List ℕ → List ℕ → List ℕ → LeftInWords
left_in_words r n x1 x2 x3 x4 x5 x6 = record { answer = r; counts = n; area1 = x1; area2 = x2; area3 = x3; area4 = x4; area5 = x5; area6 = x6 }

-- the same, its answer as a word
abbrev pub in_words : Left → LeftInWords
in_words x = left_in_words (parse_word x.answer) x.counts x.area1 x.area2 x.area3 x.area4 x.area5 x.area6
