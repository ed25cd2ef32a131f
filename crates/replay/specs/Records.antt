-- What a record says of the parse call: how it was made, and what it left (compare/FORMAT.md).
use Rattle.std.specs.Prelude.{ℕ, ◌*◌, ◌≡◌, List, length, take}
use Rattle.area.specs.Bytes.{field_at, pad}
use Rattle.area.specs.Contents.{list_of}
use Rattle.section.specs.Request.{Request, asked}
use Rattle.parse.specs.Parse.{Caps, caps, parse_call}
use Rattle.troymantle.specs.Words.{LeftInWords, left_in_words, in_words}
use Rattle.recorded.specs.Records.{number_at, long_at, skip_to, bytes_end, bytes_at, lent_at, word_at, counts_from, areas_at, fourth_at, areas_end}

-- ---- the buffers for the areas

-- how many bytes six buffers have
abbrev pub sizes : List ℕ → List ℕ → List ℕ → List ℕ → List ℕ → List ℕ → Caps
sizes e1 e2 e3 e4 e5 e6 = caps (length e1) (length e2) (length e3) (length e4) (length e5) (length e6)

-- how many bytes the program has for each area
abbrev pub buffers : Caps
buffers = caps 512 65536 65536 65536 65536 65536

-- how many bytes of each buffer are lent: as many as the record has for the area
abbrev pub recorded_caps : List ℕ → ℕ → Caps → Caps
recorded_caps l lengths m =
    caps (lent_at l lengths 0 m.c1) (lent_at l lengths 1 m.c2) (lent_at l lengths 2 m.c3)
    (lent_at l lengths 3 m.c4) (lent_at l lengths 4 m.c5) (lent_at l lengths 5 m.c6)

-- what a call leaves at the front of the buffer e that was lent as area k
abbrev pub front : List ℕ → ℕ → ℕ → List ℕ → List ℕ
front l lengths k e = take (lent_at l lengths k (length e)) e

-- the call was made with these parts of the buffers, and left what the parse call leaves
pub record Called (asked : Request) (l : List ℕ) (lengths word : ℕ) (counts e1 e2 e3 e4 e5 e6 : List ℕ) : Type 0 where
  pub six : length counts ≡ 6
  pub left_is : left_in_words word counts
      (front l lengths 0 e1) (front l lengths 1 e2) (front l lengths 2 e3) (front l lengths 3 e4) (front l lengths 4 e5) (front l lengths 5 e6)
      ≡ in_words (parse_call asked (recorded_caps l lengths (sizes e1 e2 e3 e4 e5 e6)))

-- ---- a record as a whole, from the place behind its source on

-- where the lengths of the areas stand, behind the flags and the verdicts
abbrev pub lengths_at : List ℕ → ℕ → ℕ
lengths_at l at = bytes_end l (skip_to l at 8)

-- what is asked of the source src: the flags and the verdicts that stand behind it
abbrev pub recorded_request : List ℕ → List ℕ → ℕ → Request
recorded_request src l at = asked src (long_at l at) (bytes_at l (skip_to l at 8))

-- the six counts
abbrev pub counts_at : List ℕ → ℕ → List ℕ
counts_at l lengths = list_of (λ i. field_at l (skip_to l (counts_from l lengths) (2 * i))) 6

-- area k, recorded at a place: its bytes, and zeros behind them
abbrev pub area_at : List ℕ → ℕ → ℕ → ℕ → ℕ → List ℕ
area_at l lengths k most at = pad (lent_at l lengths k most) (bytes_at l at)

-- all that is recorded, for buffers of so many bytes
abbrev pub recorded : List ℕ → ℕ → Caps → LeftInWords
recorded l lengths m =
    left_in_words (number_at l (word_at l lengths)) (counts_at l lengths)
    (area_at l lengths 0 m.c1 (areas_at l lengths))
    (area_at l lengths 1 m.c2 (bytes_end l (areas_at l lengths)))
    (area_at l lengths 2 m.c3 (bytes_end l (bytes_end l (areas_at l lengths))))
    (area_at l lengths 3 m.c4 (fourth_at l (areas_at l lengths)))
    (area_at l lengths 4 m.c5 (bytes_end l (fourth_at l (areas_at l lengths))))
    (area_at l lengths 5 m.c6 (bytes_end l (bytes_end l (fourth_at l (areas_at l lengths)))))

-- what is recorded behind the source src is what the parse call leaves
pub record Agrees (src l : List ℕ) (at : ℕ) (m : Caps) : Type 0 where
  pub is : recorded l (lengths_at l at) m
      ≡ in_words (parse_call (recorded_request src l at) (recorded_caps l (lengths_at l at) m))

-- where the next record stands
abbrev pub record_end : List ℕ → ℕ → ℕ
record_end l at = areas_end l (lengths_at l at)
