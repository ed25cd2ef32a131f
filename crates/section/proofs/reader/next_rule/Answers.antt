-- `section::reader::next_rule` meets its contract: its reader goes to the line's start, and the line is from there.
use Rattle.std.proofs.Common.{ap, ◌∙◌}
use Rattle.section.specs.Section.{to_rule}
use Rattle.section.specs.Reader.{reader_moved_by}
use Rattle.section.proofs.Lines.{rule_between}
use Rattle.section.proofs.Readers.{start_inside, line_found}
use Rattle.section.proofs.reader.next_rule.Goals as goal

pub line-requires : goal.line-requires
line-requires c =
    start_inside to_rule rule_between c.args.src c.args.options c.args.i _ c.requires
    (c.move_to_rule.ensures ∙ ap (reader_moved_by to_rule c.args.options) c.at.ensures)

pub returns : goal.returns
returns c =
    line_found to_rule rule_between c.args.src c.args.options c.args.i _ _ c.requires
    (c.move_to_rule.ensures ∙ ap (reader_moved_by to_rule c.args.options) c.at.ensures) c.line.ensures
