-- The areas so far are those recorded if the answer is still true, and both cursors stand behind them.
use Rattle.std.proofs.Common.{◌≡◌, ◌*◌, ◌≤◌}
use Rattle.recorded.specs.Records.{skip_to, area_start}
use Rattle.recorded.specs.Comparison.{WhenTrue, AreasAre, lent_lists}
use Rattle.recorded.proofs.reader.Cursor.same_areas.Given as goal

abbrev pub invariant-loop-area : goal.invariant-loop-area
invariant-loop-area l = record {
  same : l.self.answers.now ≡ l.initial.self.answers.now;
  lengths_same : l.lengths.answers.now ≡ l.initial.self.answers.now;
  at_is : l.self.at ≡ area_start l.initial.self.answers.now l.initial.self.at l.area-index;
  lengths_at : l.lengths.at ≡ skip_to l.initial.self.answers.now l.initial.lengths.at (4 * l.area-index);
  on : l.initial.self.at ≤ l.self.at;
  areas_are : WhenTrue (AreasAre (lent_lists l.areas) l.initial.self.answers.now l.initial.lengths.at l.initial.self.at l.area-index) l.same;
}
