-- As many pieces are read as turns are done.
use Rattle.std.proofs.Common.{◌≡◌, ◌≤◌}
use Rattle.output.specs.Text.{Appends}
use Rattle.recorded.specs.Records.{pieces, pieces_end}
use Rattle.recorded.proofs.reader.Cursor.source.Given as goal

abbrev pub invariant-loop : goal.invariant-loop
invariant-loop l = record {
  same : l.self.answers.now ≡ l.initial.self.answers.now;
  at_is : l.self.at ≡ pieces_end l.initial.self.answers.now l.counter l.initial.self.at;
  on : l.initial.self.at ≤ l.self.at;
  text : Appends l.initial.text l.text (pieces l.initial.self.answers.now l.counter l.initial.self.at);
}
