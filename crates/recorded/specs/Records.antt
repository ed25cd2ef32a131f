-- The form of the recorded answers (compare/FORMAT.md). A place past the end is the end, and a byte there counts as 0.
use Rattle.std.specs.Prelude.{ℕ, zero, suc, ◌+◌, ◌*◌, min, List, [], ◌++◌, length}
use Rattle.text.specs.Range.{part}
use Rattle.characters.specs.Whitespace.{byte}
use Rattle.area.specs.Bytes.{field_at}
use Rattle.area.specs.Contents.{list_of}
use Rattle.output.specs.Output.{joined}

-- ---- numbers, and bytes with their length

-- a number of four bytes, low byte first
unfoldable pub number_at : List ℕ → ℕ → ℕ
number_at l at = field_at l at + field_at l (at + 2) * 65536

-- a number of eight bytes, low byte first
unfoldable pub long_at : List ℕ → ℕ → ℕ
long_at l at = number_at l at + number_at l (at + 4) * 4294967296

-- the place n bytes on
unfoldable pub skip_to : List ℕ → ℕ → ℕ → ℕ
skip_to l at n = min (at + n) (length l)

-- where the bytes that start with their length at a place end
unfoldable pub bytes_end : List ℕ → ℕ → ℕ
bytes_end l at = skip_to l (skip_to l at 4) (number_at l at)

-- the bytes that start with their length at a place
unfoldable pub bytes_at : List ℕ → ℕ → List ℕ
bytes_at l at = part l (skip_to l at 4) (bytes_end l at)

-- the next n bytes, or as many as there are
unfoldable pub next_bytes : ℕ → List ℕ → ℕ → List ℕ
next_bytes n l at = part l at (skip_to l at n)

-- the n bytes from a place on, where those past the end are 0
unfoldable pub front_at : ℕ → List ℕ → ℕ → List ℕ
front_at n l at = list_of (λ k. byte l (at + k)) n

-- ---- the source

-- a text n times
unfoldable pub repeated : ℕ → List ℕ → List ℕ
repeated n v = joined (λ _. v) n

-- the place behind the piece at a place
unfoldable pub piece_end : List ℕ → ℕ → ℕ
piece_end l at = bytes_end l (skip_to l at 4)

-- the place behind n pieces
unfoldable pub pieces_end : List ℕ → ℕ → ℕ → ℕ
pieces_end l zero at = at
pieces_end l (suc n) at = piece_end l (pieces_end l n at)

-- the bytes of n pieces
unfoldable pub pieces : List ℕ → ℕ → ℕ → List ℕ
pieces l zero at = []
pieces l (suc n) at = pieces l n at ++ repeated (number_at l (pieces_end l n at)) (bytes_at l (skip_to l (pieces_end l n at) 4))

-- the source of the record at a place
unfoldable pub source_at : List ℕ → ℕ → List ℕ
source_at l at = pieces l (number_at l at) (skip_to l at 4)

-- where the rest of the record stands
unfoldable pub source_end : List ℕ → ℕ → ℕ
source_end l at = pieces_end l (number_at l at) (skip_to l at 4)

-- ---- the lengths of the areas, and what stands behind them

-- the length of area k, of those at a place, but no more than there is
abbrev pub lent_at : List ℕ → ℕ → ℕ → ℕ → ℕ
lent_at l at k most = min (number_at l (skip_to l at (4 * k))) most

-- the answer's word, behind the lengths
abbrev pub word_at : List ℕ → ℕ → ℕ
word_at l lengths = skip_to l lengths 24

-- the counts, behind the word
abbrev pub counts_from : List ℕ → ℕ → ℕ
counts_from l lengths = skip_to l (word_at l lengths) 4

-- the first area, behind the counts
abbrev pub areas_at : List ℕ → ℕ → ℕ
areas_at l lengths = skip_to l (counts_from l lengths) 12

-- where area k starts, of areas that stand at a place one behind the other
unfoldable pub area_start : List ℕ → ℕ → ℕ → ℕ
area_start l at zero = at
area_start l at (suc k) = bytes_end l (area_start l at k)

-- the place behind three areas
abbrev pub fourth_at : List ℕ → ℕ → ℕ
fourth_at l at = bytes_end l (bytes_end l (bytes_end l at))

-- the place behind the six areas
abbrev pub areas_end : List ℕ → ℕ → ℕ
areas_end l lengths = fourth_at l (fourth_at l (areas_at l lengths))
