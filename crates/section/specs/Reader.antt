-- The source and a place in it, which travel together.
use Rattle.std.specs.Prelude.{ℕ, List, length}
use Rattle.std.specs.Borrow.{Bor}
use Rattle.characters.specs.Walk.{Between}
use Rattle.text.specs.Scan.{line_end}
use Rattle.section.specs.declared.reader.Reader.{Reader}
use Rattle.section.specs.declared.reader.Line.{Line}

-- a reader of the source at i
abbrev pub reader_at : Bor (List ℕ) → ℕ → Reader
reader_at s i = record { source = s; offset = i }

-- the reader at the place that a scanner answers
abbrev pub reader_moved : (List ℕ → ℕ → ℕ) → Reader → Reader
reader_moved scan r = reader_at r.source (scan r.source.now r.offset)

-- the same by a scanner that goes by what the caller chooses
abbrev pub reader_moved_by : {A : Type 0} → (List ℕ → A → ℕ → ℕ) → A → Reader → Reader
reader_moved_by scan options r = reader_moved (λ s i. scan s options i) r

-- the line from the reader's place on
abbrev pub line_from : Reader → Line
line_from r = record { start = r.offset; end = line_end r.source.now r.offset }

-- x is the line that is read next from i on: it starts at the place that `to` finds (01, Declarations and Rules)
pub record NextLine (s : List ℕ) (to : ℕ → ℕ) (i : ℕ) (x : Line) : Type 0 where
  pub starts : Between i (length s) (to i) x.start
  pub ends : Between x.start (length s) (line_end s x.start) x.end
