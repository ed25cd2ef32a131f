-- `run::call::step_row` meets its contract: the winner is a rule, its move stays inside the entry and the stack, and each branch is one of the
-- definition.
use Rattle.std.proofs.Common.{sym, ◌∙◌, arith}
use Rattle.run.proofs.Fitting.{depth_inside, run_is, current_declared}
use Rattle.run.proofs.Stepping.{left_with, row_stopped, row_won, rule_inside, bytes_low, move_inside}
use Rattle.run.proofs.call.step_row.Goals as goal

pub overflow_sub-r : goal.overflow_sub-r
overflow_sub-r c = omega (arith, (run_is _ _ _ c.requires.stack_value).some_depth)

pub read-state-requires : goal.read-state-requires
read-state-requires c =
    let g = run_is _ _ _ c.requires.stack_value in
    omega (arith, g.some_depth, depth_inside _ _ g)

pub winner-requires-clause-state_declared : goal.winner-requires-clause-state_declared
winner-requires-clause-state_declared c = omega (arith, current_declared _ _ _ c.requires.stack_value, c.read-state.ensures)

pub returns-in_default : goal.returns-in_default
returns-in_default c =
    left_with _ _ _ _ _ c.after.ensures.answer c.after.ensures.run
    (row_stopped _ c.args.r _ c.args.row _ c.read-state.ensures c.requires.row_fits.rules_are (sym c.in_default.is ∙ c.winner.ensures))

pub rule-requires : goal.rule-requires
rule-requires c =
    rule_inside _ c.args.r _ c.args.row _ c.read-state.ensures c.requires.row_fits.rules_are _ (sym c.in-Some.is ∙ c.winner.ensures)

pub won_by-requires : goal.won_by-requires
won_by-requires c =
    let bytes = bytes_low _ c.args.r _ c.args.row _ c.read-state.ensures c.requires.row_fits.rules_are _ (sym c.in-Some.is ∙ c.winner.ensures)
    _ c.requires.row_fits.good in
    move_inside _ _ _ (run_is _ _ _ c.requires.stack_value) c.requires.position_lt_n bytes

pub returns : goal.returns
returns c =
    row_won _ c.args.r _ c.args.row _ c.read-state.ensures c.requires.row_fits.rules_are _ (sym c.in-Some.is ∙ c.winner.ensures)
    _ _ c.rule.ensures c.won_by.ensures
