-- `run::Run::won_by` meets its contract: each branch is one of the definition.
use Rattle.run.proofs.Moving.{won_token, won_skip, won_unlinked}
use Rattle.run.proofs.Stepping.{left_with}
use Rattle.run.proofs.Run.won_by.Goals as goal

pub returns-then-not-is_named : goal.returns-then-not-is_named
returns-then-not-is_named c =
    left_with _ _ _ _ _ c.after.ensures.answer c.after.ensures.run (won_skip _ _ _ _ _ _ c.move_by-run.ensures c.is_named.ensures c.if-not-is_named.true)

pub returns-then-x-ne1 : goal.returns-then-x-ne1
returns-then-x-ne1 c =
    left_with _ _ _ _ _ c.after-then-x-ne1.ensures.answer c.after-then-x-ne1.ensures.run (won_unlinked _ _ _ _ c.is_named.ensures c.if-not-is_named.false c.if-x-ne1.true)

pub returns : goal.returns
returns c =
    left_with _ _ _ _ _ c.after-2.ensures.answer c.after-2.ensures.run
    (won_token _ _ _ _ _ _ c.move_by-run-2.ensures c.is_named.ensures c.if-not-is_named.false c.if-x-ne1.false)
