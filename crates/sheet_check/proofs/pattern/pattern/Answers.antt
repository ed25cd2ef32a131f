-- `sheet_check::pattern::pattern` meets its contract: the part lies inside the slice that its place names, and is taken of that slice.
use native.Mathlib.Omega.{arith}
use Rattle.sheet_check.proofs.Patterns.{part_inside, in_rewritten, in_source, in_neither}
use Rattle.sheet_check.proofs.pattern.pattern.Goals as goal

pub slice_bounds-result-end : goal.slice_bounds-result-end
slice_bounds-result-end c =
    let inside = part_inside _ _ _ _ c.locate.ensures c.in-Some.is in
    omega (arith, inside.rewritten c.if-part-eq1.true, inside.long)

pub returns-then-part-eq1 : goal.returns-then-part-eq1
returns-then-part-eq1 c = in_rewritten _ _ _ _ _ c.locate.ensures _ c.in-Some.is c.if-part-eq1.true

pub slice_bounds-result-end-in-Some : goal.slice_bounds-result-end-in-Some
slice_bounds-result-end-in-Some c = (part_inside _ _ _ _ c.locate.ensures c.in-Some.is).source c.if-part-eq1.false

pub returns-else-part-eq1 : goal.returns-else-part-eq1
returns-else-part-eq1 c = in_source _ _ _ _ _ c.locate.ensures _ c.in-Some.is c.if-part-eq1.false

pub returns-in-None : goal.returns-in-None
returns-in-None c = in_neither _ _ _ _ _ c.locate.ensures c.in-None.is
