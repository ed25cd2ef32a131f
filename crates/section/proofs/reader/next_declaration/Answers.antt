-- `section::reader::next_declaration` meets its contract: its reader goes to the line's start, and the line is from there.
use Rattle.std.proofs.Common.{ap, ◌∙◌}
use Rattle.section.specs.Section.{to_declaration}
use Rattle.section.specs.Reader.{reader_moved_by}
use Rattle.section.proofs.Lines.{declaration_between}
use Rattle.section.proofs.Readers.{start_inside, line_found}
use Rattle.section.proofs.reader.next_declaration.Goals as goal

pub line-requires : goal.line-requires
line-requires c =
    start_inside to_declaration declaration_between c.args.src c.args.options c.args.i _ c.requires
    (c.move_to_declaration.ensures ∙ ap (reader_moved_by to_declaration c.args.options) c.at.ensures)

pub returns : goal.returns
returns c =
    line_found to_declaration declaration_between c.args.src c.args.options c.args.i _ _ c.requires
    (c.move_to_declaration.ensures ∙ ap (reader_moved_by to_declaration c.args.options) c.at.ensures) c.line.ensures
