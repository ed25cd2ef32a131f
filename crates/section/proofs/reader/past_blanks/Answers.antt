-- `section::reader::past_blanks` meets its contract: its reader goes past the blanks.
use Rattle.std.proofs.Common.{ap, subst, sym, ◌∙◌, length, not}
use Rattle.characters.specs.Walk.{Between}
use Rattle.characters.specs.Class.{is_blank}
use Rattle.text.specs.Scan.{skip_blanks}
use Rattle.characters.specs.Whitespace.{byte}
use Rattle.section.specs.Reader.{reader_moved}
use Rattle.section.specs.declared.reader.Reader.{Reader}
use Rattle.section.proofs.Lines.{first_between}
use Rattle.section.proofs.reader.past_blanks.Goals as goal

pub returns : goal.returns
returns c =
    let s = c.args.src.now in
    let moved = ap (λ (r : Reader). r.offset) (c.move_past_blanks.ensures ∙ ap (reader_moved skip_blanks) c.at.ensures) in
    subst (Between c.args.i (length s) (skip_blanks s c.args.i)) (sym moved) (first_between (λ k. not (is_blank (byte s k))) c.args.i (length s) c.requires)
