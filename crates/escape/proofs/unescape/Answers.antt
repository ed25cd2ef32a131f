-- `escape::unescape` meets its contract: what is appended, and the text from p on, make the whole text.
use Rattle.std.proofs.Common.{sym, ◌∙◌, arith, ◌++◌}
use Rattle.std.proofs.lemmas.Result.{err_from_is_err_and}
use Rattle.text.specs.Range.{part}
use Rattle.characters.proofs.Table.{table, class_table}
use Rattle.escape.specs.Escape.{escaped, unescaped}
use Rattle.escape.proofs.Passed.{Next, first_left, rest_left}
use Rattle.escape.proofs.Writing.{Writing, text_pushed, text_skipped, text_full, escape_pushed, escape_full, tail_pushed}
use Rattle.escape.proofs.unescape.Goals.{In-Some, After-push_escape, then-p-e+in_ok-count, else-p-e}
use Rattle.escape.proofs.unescape.Goals as goal

pub invariant_of-pattern : goal.invariant_of-pattern
unfolding table
invariant_of-pattern c = record { within = c.requires.i_le_c.1; class_table = class_table }

-- the item is the next escape from p on
found : (c : In-Some) → Next c.args.src.now c.args.c c.loop-e.p c.in-Some.e
found c = first_left c.args.src.now c.args.c c.loop-e.p _ _ (sym c.loop-e.invariant.2 ∙ c.in-Some.ensures.steps)

pub slice_bounds-push_text-end : goal.slice_bounds-push_text-end
slice_bounds-push_text-end c =
    let next = found (goal.at.slice_bounds-push_text-end c).In-Some in
    omega (arith, next.start, next.inside, next.to, c.requires.i_le_c.1)

pub returns-in_err-count : goal.returns-in_err-count
unfolding part
returns-in_err-count c =
    let next = found (goal.at.returns-in_err-count c).In-Some in
    let p = err_from_is_err_and c.from_residual.result c.from_residual.ensures.1 in
    rw (p.1, p.2) (text_full c.args.src.now c.args.posix_escapes c.args.c c.loop-e.p next c.loop-e.invariant.4 c.push_text.ensures c.in_err-count.was)

pub push_escape-requires : goal.push_escape-requires
push_escape-requires c =
    let next = found (goal.at.push_escape-requires c).In-Some in
    (omega (arith, next.start), next.inside, next.to)

-- behind the text before the escape, if there is any, what is still to be appended begins with what the escape becomes
joined : (c : After-push_escape) → Next c.args.src.now c.args.c c.loop-e.p c.in-Some.e
    → Writing (unescaped c.args.src.now c.args.posix_escapes c.args.i c.args.c) c.args.area.now c.args.n
    (escaped c.args.src.now c.args.posix_escapes c.args.c c.in-Some.e ++ unescaped c.args.src.now c.args.posix_escapes c.in-Some.e.end c.args.c) c.if-p-e.area c.if-p-e.count
unfolding part
joined c next =
    elim c.if-p-e.branch [
      | then-p-e+in_ok-count w ↦ rw (w.area-is, w.count-is) (text_pushed c.args.src.now c.args.posix_escapes c.args.c c.loop-e.p next c.loop-e.invariant.4 w.push_text.ensures w.in_ok-count.was)
      | else-p-e w ↦ rw (w.area-is, w.count-is) (text_skipped c.args.src.now c.args.posix_escapes c.args.c c.loop-e.p next c.loop-e.invariant.4 w.if-p-e.false)
    ]

pub returns-in_err-count-2 : goal.returns-in_err-count-2
returns-in_err-count-2 c =
    let next = found (goal.at.returns-in_err-count-2 c).In-Some in
    let w = joined (goal.at.returns-in_err-count-2 c).After-push_escape next in
    let p = err_from_is_err_and c.from_residual-in_err-count-2.result c.from_residual-in_err-count-2.ensures.1 in
    rw (p.1, p.2) (escape_full c.args.src.now c.args.posix_escapes c.args.c c.loop-e.p next w c.push_escape.ensures c.in_err-count-2.was)

pub loop-e-preserved : goal.loop-e-preserved
loop-e-preserved c =
    let next = found (goal.at.loop-e-preserved c).In-Some in
    let w = joined (goal.at.loop-e-preserved c).After-push_escape next in
    let left = sym c.loop-e.invariant.2 ∙ c.in-Some.ensures.steps in
    (tt, tt, rest_left left next, next.to, escape_pushed c.args.src.now c.args.posix_escapes c.args.c c.loop-e.p next w c.push_escape.ensures c.in_ok-count-2.was)

pub returns : goal.returns
unfolding part
returns c =
    tail_pushed c.args.src.now c.args.posix_escapes c.args.c c.loop-e.p (sym c.loop-e.invariant.2 ∙ c.in-None.ensures.steps.0) c.text_end.ensures
    c.loop-e.invariant.4 c.push_text-2.ensures
