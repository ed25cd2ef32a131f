-- `parse::call::parse_text` meets its contract: each return is what an outcome of the file leaves.
use mathlib.Core.Path.{sym, ◌∙◌}
use lib.ListN.{length}
use Rattle.parse.proofs.Calls.{Long, text_clean, text_faulty, text_refused}
use Rattle.parse.proofs.call.parse_text.Goals.{After-parse_sections}
use Rattle.parse.proofs.call.parse_text.Goals as goal

-- the areas are as long as they were lent
long : (c : After-parse_sections)
    → Long (length c.args.area1.now) (length c.args.area2.now) (length c.args.area3.now) (length c.args.area4.now) (length c.args.area5.now)
    (length c.args.area6.now) c.parse_sections.new.area1 c.parse_sections.new.area2 c.parse_sections.new.area3 c.parse_sections.new.area4
    c.parse_sections.new.area5 c.parse_sections.new.area6
long c =
    let done = c.parse_sections in
    record {
      long1 = done.auto.area1;
      long2 = done.auto.area2;
      long3 = done.auto.area3;
      long4 = done.auto.area4;
      long5 = done.auto.area5;
      long6 = done.auto.area6;
    }

pub returns-in-Ok : goal.returns-in-Ok
returns-in-Ok c =
    let done = c.parse_sections in
    text_clean _ _ _ _ _ _ _ _ _ _ _ _ _
    (long (goal.at.returns-in-Ok c).After-parse_sections)
    done.result done.ensures _ c.in-Ok.is

pub returns-then-has_faults : goal.returns-then-has_faults
returns-then-has_faults c =
    let done = c.parse_sections in
    text_faulty _ _ _ _ _ _ _ _ _ _ _ _ _
    (long (goal.at.returns-then-has_faults c).After-parse_sections)
    done.result done.ensures _ c.in-Err.is (sym c.has_faults.ensures ∙ c.if-has_faults.true)
    c.clear.ensures c.clear-in-Err.ensures c.clear-in-Err-2.ensures
    c.clear-in-Err-3.ensures c.clear-in-Err-4.ensures

pub returns-else-has_faults : goal.returns-else-has_faults
returns-else-has_faults c =
    let done = c.parse_sections in
    text_refused
    (long (goal.at.returns-else-has_faults c).After-parse_sections)
    done.result done.ensures _ c.in-Err.is (sym c.has_faults.ensures ∙ c.if-has_faults.false)
    (record {
      is1 = c.clear.ensures;
      is2 = c.clear-in-Err.ensures;
      is3 = c.clear-in-Err-2.ensures;
      is4 = c.clear-in-Err-3.ensures;
      is5 = c.clear-in-Err-4.ensures;
      is6 = c.clear-in-Err-5.ensures;
    })
