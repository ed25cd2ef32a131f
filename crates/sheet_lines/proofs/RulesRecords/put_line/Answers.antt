-- `sheet_lines::RulesRecords::put_line` meets its contract: the parts of a rule's line, one behind the other.
use Rattle.sheet_lines.proofs.Printing.{rule_line_lem}
use Rattle.sheet_lines.proofs.RulesRecords.put_line.Goals as goal

pub returns : goal.returns
returns c = rule_line_lem c.args.self.now.area.now c.args.k c.push_text.ensures c.push_field.ensures c.push_fields.ensures c.push_line_end.ensures
