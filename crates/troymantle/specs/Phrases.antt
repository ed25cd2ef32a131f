-- Short words for contracts: what the parse call leaves.
use Rattle.std.specs.Prelude.{ℕ}
use Rattle.area.specs.Phrases.{Bytes, after}
use Rattle.troymantle.specs.Words.{LeftInWords, left_in_words}

-- a word, the counts and the areas, as the call leaves them
abbrev pub words_left_in : ℕ → Bytes → Bytes → Bytes → Bytes → Bytes → Bytes → Bytes → LeftInWords
words_left_in r counts area1 area2 area3 area4 area5 area6 =
    left_in_words r (after counts) (after area1) (after area2) (after area3) (after area4) (after area5) (after area6)
