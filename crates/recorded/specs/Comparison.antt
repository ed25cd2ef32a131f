-- What it says that what a call left is what was recorded.
use Rattle.std.specs.Prelude.{ℕ, ◌*◌, ◌<◌, ◌≡◌, Bool, true, List, [], map, length, take, get_or}
use Rattle.std.specs.Borrow.{Bor}
use Rattle.area.specs.Bytes.{field_at, pad, zeros}
use Rattle.recorded.specs.declared.reader.Cursor.{Cursor}
use Rattle.recorded.specs.Records.{number_at, skip_to, bytes_at, lent_at, word_at, counts_from, areas_at, area_start}
use Rattle.recorded.specs.Cursor.{GoesTo}

-- an answer true says that P holds
pub record WhenTrue (P : Type 0) (r : Bool) : Type 0 where
  pub holds : r ≡ true → P

-- every byte is 0
pub record IsZero (bytes : List ℕ) : Type 0 where
  pub is : bytes ≡ zeros (length bytes)

-- an area has these bytes, and zeros behind them
pub record AreaHolds (area bytes : List ℕ) : Type 0 where
  pub is : area ≡ pad (length area) bytes

-- the first n counts are the numbers of two bytes at a place
pub record CountsAre (counts l : List ℕ) (at n : ℕ) : Type 0 where
  pub are : (i : ℕ) → i < n → get_or counts i 0 ≡ field_at l (skip_to l at (2 * i))

-- the front of the area that was lent as area k is the area recorded at a place
pub record AreaIs (area l : List ℕ) (lengths k at : ℕ) : Type 0 where
  pub is : take (lent_at l lengths k (length area)) area ≡ pad (lent_at l lengths k (length area)) (bytes_at l at)

-- the first n areas are those recorded one behind the other
pub record AreasAre (areas : List (List ℕ)) (l : List ℕ) (lengths at n : ℕ) : Type 0 where
  pub are : (k : ℕ) → k < n → AreaIs (get_or areas k []) l lengths k (area_start l at k)

-- the word and the counts are those recorded behind the lengths
pub record NumbersAre (l : List ℕ) (lengths word : ℕ) (counts : List ℕ) : Type 0 where
  pub word_is : word ≡ number_at l (word_at l lengths)
  pub counts_are : CountsAre counts l (counts_from l lengths) (length counts)

-- all that the call left is what was recorded
pub record LeftIs (l : List ℕ) (lengths word : ℕ) (counts : List ℕ) (areas : List (List ℕ)) : Type 0 where
  pub numbers : NumbersAre l lengths word counts
  pub areas_are : AreasAre areas l lengths (areas_at l lengths) 6

-- an answer, and the cursor behind what it compared
pub record Compares (P : Type 0) (place : List ℕ → ℕ → ℕ) (old new : Cursor) (r : Bool) : Type 0 where
  pub equal : WhenTrue P r
  pub goes : GoesTo place old new

-- what the references refer to
abbrev pub lent_lists : List (Bor (List ℕ)) → List (List ℕ)
lent_lists areas = map (λ a. a.now) areas
