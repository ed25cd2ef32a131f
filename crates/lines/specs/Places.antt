-- What the code of lines and columns goes by. No sentence of 02 is in this file, and no answer depends on it.
use Rattle.std.specs.Prelude.{ℕ, ◌+◌, ◌≤◌, ◌<◌, ◌≡◌, Bool, true, false, cond, ◌&&◌, ◌||◌, List, map, eqb, ltb, length}
use Rattle.std.specs.Prelude.{Result, Ok, Option, MatchOption}
use Rattle.std.specs.Simd.Lanes.{chunk, mask_l}
use Rattle.characters.specs.Walk.{last, count}
use Rattle.characters.specs.Whitespace.{byte}
use Rattle.lines.specs.declared.Byte.{Byte}
use Rattle.lines.specs.declared.Place.{Place}
use Rattle.lines.specs.declared.PlaceError.{PlaceError}
use Rattle.lines.specs.declared.search.Reached.{Reached}
use Rattle.lines.specs.Lines.{line_feed, ends_line, behind_end, line_num, col_num, place, line_of, column_of}

-- the range from i to e is inside the text, and has at most 64 bytes
pub record ShortRange (s : List ℕ) (i e : ℕ) : Type 0 where
  pub ordered : i ≤ e
  pub inside : e ≤ length s
  pub short : e ≤ i + 64

-- n bytes from i to before e pass the test whose answers are given: any that tells of each byte what it answers
abbrev pub Counts : (ℕ → Bool → Type 0) → List ℕ → ℕ → ℕ → ℕ → Type 0
Counts answers s i e n =
    (passes : ℕ → Bool) → ((b : ℕ) (r : Bool) → answers b r → r ≡ passes b) → n ≡ count (λ k. passes (byte s k)) i e

-- of the k bytes from i on, n stand up to the last line end
pub record LastEnd (s : List ℕ) (i k n : ℕ) : Type 0 where
  pub few : n ≤ k
  pub is : behind_end (last (ends_line s) i (i + k)) ≡ cond (eqb n 0) 0 (i + n)

-- a bit for each of the 64 bytes from i on, the first the lowest: 1 where a line ends
abbrev pub end_bits : List ℕ → ℕ → ℕ
end_bits s i = mask_l (map (λ b. eqb b line_feed) (chunk i 64 s))

-- the line and column of any offset, allowed or not
unfoldable pub place_at : List ℕ → ℕ → Place
place_at s b = place (line_num s b) (col_num s b)

-- the place p stands behind the place q: on a later line, or on the same line at a later column
abbrev pub is_past : Place → Place → Bool
is_past p q = ltb (line_of q) (line_of p) || (eqb (line_of q) (line_of p) && ltb (column_of q) (column_of p))

-- an offset of the text with its place, which is not past what is sought
pub record Reaches (s : List ℕ) (sought : Place) (r : Reached) : Type 0 where
  pub inside : r.byte.0 ≤ length s
  pub is : r.place ≡ place_at s r.byte.0
  pub near : is_past r.place sought ≡ false

-- and the offset so many bytes behind is past the text, or its place past what is sought
pub record Passes (s : List ℕ) (sought : Place) (width : ℕ) (r : Reached) : Type 0 where
  pub reaches : Reaches s sought r
  pub next : r.byte.0 + width ≤ length s → is_past (place_at s (r.byte.0 + width)) sought ≡ true

-- what comes next so many bytes behind r; or nothing does, and a pass by that width ends at r
abbrev pub Next : List ℕ → Place → ℕ → Reached → Option Reached → Type 0
Next s sought width r next =
    MatchOption next (Passes s sought width r) (λ t. Reaches s sought t × (t.byte.0 ≡ r.byte.0 + width))

-- the line and column that are answered have four bytes at most
pub record SmallPlace (x : Result Place PlaceError) : Type 0 where
  pub line : (p : Place) → x ≡ Ok p → line_of p < 4294967296
  pub column : (p : Place) → x ≡ Ok p → column_of p < 4294967296

-- the offset that is answered has two
pub record SmallOffset (x : Result Byte PlaceError) : Type 0 where
  pub offset : (b : Byte) → x ≡ Ok b → b.0 < 65536
