-- `run::call::start` meets its contract: each test is that of the definition, in its order. A kind that has a limit fits its field.
use Rattle.std.proofs.Common.{◌≡◌, sym, ap, ◌∙◌, arith}
use Rattle.std.specs.Prelude.{Some, is_some}
use Rattle.run.specs.Run.{limit}
use Rattle.run.proofs.Limits.{known_low}
use Rattle.run.proofs.Stepping.{left_with, start_misfit, start_good}
use Rattle.run.proofs.call.start.Goals as goal
use Rattle.run.proofs.call.start.Goals.{After-good_text}

-- the kind has this limit
known : (c : After-good_text) → Some c.in-Some.most ≡ limit c.args.kind
known c = sym c.in-Some.is ∙ c.limit.ensures

pub returns-then-not-good_text : goal.returns-then-not-good_text
returns-then-not-good_text c =
    left_with _ _ _ _ _ c.after-then-not-good_text.ensures.answer c.after-then-not-good_text.ensures.run
    (start_misfit _ _ _ _ _ _ (known (goal.at.returns-then-not-good_text c).After-good_text) c.if-n-most.false c.if-stack-n.false
    _ c.good_text.ensures c.if-not-good_text.true)

pub overflow_cast-first-2 : goal.overflow_cast-first-2
overflow_cast-first-2 c =
    omega (arith, known_low c.args.kind (ap is_some (sym (known (goal.at.overflow_cast-first-2 c).After-good_text))))

pub returns : goal.returns
returns c =
    left_with _ _ _ _ _ c.after-2.ensures.answer c.after-2.ensures.run
    (start_good _ _ _ _ _ _ (known (goal.at.returns c).After-good_text) c.if-n-most.false c.if-stack-n.false
    _ c.good_text.ensures c.if-not-good_text.false _ c.put_state.ensures)
