-- `parse::call::parse` meets its contract: the areas are zero before the first test, and each test is that of the definition.
use lib.ListN.{length}
use Rattle.parse.specs.Answers.{Cleared}
use Rattle.parse.proofs.Calls.{call_long_file, call_unknown_flag, call_invalid_utf8, call_text}
use Rattle.parse.proofs.call.parse.Goals.{After-clear-6}
use Rattle.parse.proofs.call.parse.Goals as goal

cleared : (c : After-clear-6)
    → Cleared (length c.args.area1.now) (length c.args.area2.now) (length c.args.area3.now) (length c.args.area4.now) (length c.args.area5.now)
    (length c.args.area6.now) c.clear.new.area c.clear-2.new.area c.clear-3.new.area c.clear-4.new.area c.clear-5.new.area c.clear-6.new.area
cleared c = record {
  is1 = c.clear.ensures;
  is2 = c.clear-2.ensures;
  is3 = c.clear-3.ensures;
  is4 = c.clear-4.ensures;
  is5 = c.clear-5.ensures;
  is6 = c.clear-6.ensures;
}

pub returns-then-src-gt-MOST_SOURCE : goal.returns-then-src-gt-MOST_SOURCE
returns-then-src-gt-MOST_SOURCE c =
    call_long_file c.args.src.now c.args.flags c.args.verdicts.now _ _ _ _ _ _ c.if-src-gt-MOST_SOURCE.true _ _ _ _ _ _ (cleared (goal.at.returns-then-src-gt-MOST_SOURCE c).After-clear-6)

pub returns-then-flags-gt-MOST_FLAGS : goal.returns-then-flags-gt-MOST_FLAGS
returns-then-flags-gt-MOST_FLAGS c =
    call_unknown_flag c.args.src.now c.args.flags c.args.verdicts.now _ _ _ _ _ _ c.if-src-gt-MOST_SOURCE.false c.if-flags-gt-MOST_FLAGS.true
    _ _ _ _ _ _ (cleared (goal.at.returns-then-flags-gt-MOST_FLAGS c).After-clear-6)

pub returns-then-utf8 : goal.returns-then-utf8
returns-then-utf8 c =
    call_text c.args.src.now c.args.flags c.args.verdicts.now _ _ _ _ _ _ c.if-src-gt-MOST_SOURCE.false c.if-flags-gt-MOST_FLAGS.false _ c.utf8-2.ensures
    c.if-utf8.true c.clear.auto.area c.clear-2.auto.area c.clear-3.auto.area c.clear-4.auto.area c.clear-5.auto.area c.clear-6.auto.area
    (rw c.from.ensures at c.parse_text.ensures)

pub returns : goal.returns
returns c =
    call_invalid_utf8 c.args.src.now c.args.flags c.args.verdicts.now _ _ _ _ _ _ c.if-src-gt-MOST_SOURCE.false c.if-flags-gt-MOST_FLAGS.false _ c.utf8-2.ensures
    c.if-utf8.false _ _ _ _ _ _ (cleared (goal.at.returns c).After-clear-6)
