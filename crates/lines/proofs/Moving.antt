-- The place of an offset from that of an earlier one, by what stands between: where no line ends there, the characters add to the column; where one
-- does, the line ends add to the line, and the column begins anew behind the last of them.
use mathlib.Core.Path.{◌≡◌, sym, ap, ◌∙◌}
use mathlib.Core.List.{List}
use mathlib.Core.Logic.{◌⊎◌, inl, inr}
use Prim.Native.Nat.{ℕ, ◌+◌, ◌≤◌, ◌<◌}
use native.Mathlib.Omega.{arith}
use lib.ListN.{length}
use Rattle.answers.specs.Numbers.{most_source}
use Rattle.characters.specs.Utf8.{at_edge}
use Rattle.characters.specs.Walk.{last, count}
use Rattle.std.specs.Prelude.{Option, None}
use Rattle.characters.proofs.Counts.{count_most, count_split, count_some, count_failing}
use Rattle.characters.proofs.Lasts.{LastAt, LastNone, or_else, last_is, last_split}
use Rattle.lines.specs.declared.ColNum.{ColNum}
use Rattle.lines.specs.declared.Place.{Place}
use Rattle.lines.specs.Lines.{ends_line, line_num, behind_end, line_byte, col_num, place, line_of, column_of}
use Rattle.lines.specs.Places.{ShortRange, place_at}

-- ---- an offset alone

module _ (s : List ℕ) (b : ℕ) where
  -- a line starts before what stands on it
  pub start_to : line_byte s b ≤ b
  unfolding line_byte behind_end
  start_to = by (last_is (ends_line s) 0 b (omega arith))
    where
      by :
          LastAt (ends_line s) 0 b (last (ends_line s) 0 b) ⊎ LastNone (ends_line s) 0 b (last (ends_line s) 0 b)
          → behind_end (last (ends_line s) 0 b) ≤ b
      by (inl r) = rw r.is (omega (arith, r.to))
      by (inr r) = rw r.is (omega arith)

  pub line_from : 1 ≤ line_num s b
  unfolding line_num
  line_from = omega arith

  pub line_to : line_num s b ≤ b + 1
  unfolding line_num
  line_to = omega (arith, count_most (ends_line s) 0 b)

  pub column_from : 1 ≤ col_num s b
  unfolding col_num
  column_from = omega arith

  pub column_to : col_num s b ≤ b + 1
  unfolding col_num
  column_to = omega (arith, count_most (at_edge s) (line_byte s b) b)

-- ---- from i to e

module _ (s : List ℕ) (i e : ℕ) (h : i ≤ e) where
  pub line_on : line_num s e ≡ line_num s i + count (ends_line s) i e
  unfolding line_num
  line_on = omega (arith, count_split (ends_line s) 0 i e (omega arith) h)

  start_on : line_byte s e ≡ behind_end (or_else (last (ends_line s) i e) (last (ends_line s) 0 i))
  unfolding line_byte
  start_on = ap behind_end (last_split (ends_line s) 0 i e (omega arith) h)

  -- no line ends there
  module _ (none : count (ends_line s) i e ≡ 0) where
    none_found : last (ends_line s) i e ≡ None
    none_found = by (last_is (ends_line s) i e h)
      where
        by : LastAt (ends_line s) i e (last (ends_line s) i e) ⊎ LastNone (ends_line s) i e (last (ends_line s) i e) → last (ends_line s) i e ≡ None
        by (inl r) = absurd (omega (arith, none, count_some (ends_line s) i r.place e r.from r.to r.passes))
        by (inr r) = r.is

    pub same_start : line_byte s e ≡ line_byte s i
    unfolding line_byte
    same_start = start_on ∙ ap (λ (f : Option ℕ). behind_end (or_else f (last (ends_line s) 0 i))) none_found

    pub column_on : col_num s e ≡ col_num s i + count (at_edge s) i e
    unfolding col_num
    column_on =
        ap (λ (b : ℕ). 1 + count (at_edge s) b e) same_start
        ∙ omega (arith, count_split (at_edge s) (line_byte s i) i e (start_to s i) h)

  -- a line ends there
  module _ (some : count (ends_line s) i e ≡ 0 → ⊥) where
    pub end_found : LastAt (ends_line s) i e (last (ends_line s) i e)
    end_found = by (last_is (ends_line s) i e h)
      where
        by : LastAt (ends_line s) i e (last (ends_line s) i e) ⊎ LastNone (ends_line s) i e (last (ends_line s) i e)
            → LastAt (ends_line s) i e (last (ends_line s) i e)
        by (inl r) = r
        by (inr r) = absurd (some (count_failing (ends_line s) i e r.fails))

    pub next_start : line_byte s e ≡ behind_end (last (ends_line s) i e)
    unfolding behind_end
    next_start = start_on ∙ rw end_found.is

    pub start_inside : (i < behind_end (last (ends_line s) i e)) × (behind_end (last (ends_line s) i e) ≤ e)
    unfolding behind_end
    start_inside = rw end_found.is (omega (arith, end_found.from), omega (arith, end_found.to))

    pub column_anew : col_num s e ≡ 1 + count (at_edge s) (behind_end (last (ends_line s) i e)) e
    unfolding col_num
    column_anew = ap (λ (b : ℕ). 1 + count (at_edge s) b e) next_start

-- ---- the place of a block's end, made of that of its start and of what was counted in it

pub place_is : (s : List ℕ) (b : ℕ) (p : Place) → line_of p ≡ line_num s b → column_of p ≡ col_num s b → p ≡ place_at s b
unfolding place_at
place_is s b p l c = λ j. place (l j) (c j)

module _ (s : List ℕ) (i e : ℕ) (range : ShortRange s i e) (p : Place) (is : p ≡ place_at s i) where
  pub line_behind : line_of p + count (ends_line s) i e ≡ line_num s e
  unfolding place_at
  line_behind = omega (arith, ap line_of is, line_on s i e range.ordered)

  pub column_behind : count (ends_line s) i e ≡ 0 → column_of p + count (at_edge s) i e ≡ col_num s e
  unfolding place_at
  column_behind none = omega (arith, ap column_of is, column_on s i e range.ordered none)

  pub line_fits : length s ≤ most_source → line_of p + count (ends_line s) i e < 65537
  line_fits l = omega (arith, line_behind, line_to s e, range.inside)

  pub column_fits : length s ≤ most_source → count (ends_line s) i e ≡ 0 → column_of p + count (at_edge s) i e < 65537
  column_fits l none = omega (arith, column_behind none, column_to s e, range.inside)

-- the line of e starts at b in it
module _ (s : List ℕ) (i e : ℕ) (range : ShortRange s i e) (some : count (ends_line s) i e ≡ 0 → ⊥) where
  module _ (b : ℕ) (start : b ≡ behind_end (last (ends_line s) i e)) where
    pub start_range : ShortRange s b e
    start_range =
        let inside = start_inside s i e range.ordered some in
        record { ordered = omega (arith, start, inside.1); inside = range.inside; short = omega (arith, start, inside.0, range.short) }

    pub column_from_start : 1 + count (at_edge s) b e ≡ col_num s e
    column_from_start = ap (λ (x : ℕ). 1 + count (at_edge s) x e) start ∙ sym (column_anew s i e range.ordered some)

-- ---- the place of e as a whole, where n lines end from i on

module _ (s : List ℕ) (i e : ℕ) (range : ShortRange s i e) (p : Place) (is : p ≡ place_at s i) (n : ℕ) (ended : n ≡ count (ends_line s) i e) where
  -- no line ends there: the m characters add to the column
  pub place_on : (m : ℕ) → n ≡ 0 → m ≡ count (at_edge s) i e → place (line_of p) (column_of p + m) ≡ place_at s e
  place_on m z q =
      let none : count (ends_line s) i e ≡ 0 = sym ended ∙ z in
      place_is s e (place (line_of p) (column_of p + m))
      (omega (arith, line_behind s i e range p is, none))
      (omega (arith, column_behind s i e range p is none, q))

  module _ (d : n ≡ 0 → ⊥) (b : ℕ) (start : b ≡ behind_end (last (ends_line s) i e)) where
    -- a line ends there: the n line ends add to the line, and the column m is counted from b, behind the last of them
    pub place_anew : (m : ColNum) → m.0 ≡ 1 + count (at_edge s) b e → record { line_num = record { 0 = line_of p + n }; col_num = m } ≡ place_at s e
    place_anew m q =
        place_is s e (record { line_num = record { 0 = line_of p + n }; col_num = m })
        (omega (arith, line_behind s i e range p is, ended))
        (q ∙ column_from_start s i e range (λ z. d (ended ∙ z)) b start)
