-- The next line, found with a reader that goes to the line's start.
use Rattle.std.proofs.Common.{◌≡◌, sym, ap, subst, ◌∙◌, ℕ, ◌≤◌, List, length}
use Rattle.std.specs.Borrow.{Bor}
use Rattle.characters.specs.Walk.{Between}
use Rattle.characters.specs.Whitespace.{at_line_end}
use Rattle.section.specs.declared.options.Options.{Options}
use Rattle.section.specs.Reader.{reader_at, reader_moved_by, line_from, NextLine}
use Rattle.section.specs.declared.reader.Reader.{Reader}
use Rattle.section.specs.declared.reader.Line.{Line}
use Rattle.section.proofs.Lines.{first_between}

-- a scanner stays between where it begins and the end
abbrev pub Bounded : (List ℕ → Options → ℕ → ℕ) → Type 0
Bounded scan = (s : List ℕ) (options : Options) (i : ℕ) → i ≤ length s → Between i (length s) (scan s options i) (scan s options i)

module _ (scan : List ℕ → Options → ℕ → ℕ) (bounded : Bounded scan) (src : Bor (List ℕ)) (options : Options) (i : ℕ) where
  -- the scanner's place lies inside the source
  pub start_inside : (r : Reader) → i ≤ length src.now → r ≡ reader_moved_by scan options (reader_at src i) → r.offset ≤ length r.source.now
  start_inside r h e = subst (λ (x : Reader). x.offset ≤ length x.source.now) (sym e) (bounded src.now options i h).to

  pub line_found : (r : Reader) (x : Line) → i ≤ length src.now → r ≡ reader_moved_by scan options (reader_at src i) → x ≡ line_from r → NextLine src.now (scan src.now options) i x
  line_found r x h e f =
      subst (λ (y : Line). NextLine src.now (scan src.now options) i y) (sym (f ∙ ap line_from e))
      (record { starts = bounded src.now options i h; ends = first_between (at_line_end src.now) (scan src.now options i) (length src.now) (bounded src.now options i h).to })
