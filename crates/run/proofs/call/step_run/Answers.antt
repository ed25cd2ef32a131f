-- `run::call::step_run` meets its contract: each test is that of the definition, in its order.
use Rattle.std.proofs.Common.{◌≡◌, sym, ◌∙◌, arith}
use Rattle.sheet_check.specs.SheetCheck.{decoded}
use Rattle.sheet_check.specs.Phrases.{lent_sheet}
use Rattle.winner.specs.Phrases.{lexer}
use Rattle.input_check.proofs.Edges.{text_long}
use Rattle.run.specs.Run.{lexer_of}
use Rattle.run.specs.Phrases.{lent_input}
use Rattle.run.proofs.Fitting.{run_is}
use Rattle.run.proofs.Stepping.{left_with, run_misfit, run_refused, run_done, run_ill, run_row, short_of, lexer_run, lexer_row, sheet_lists}
use Rattle.run.proofs.call.step_run.Goals as goal
use Rattle.run.proofs.call.step_run.Goals.{After-new-lexer}

pub returns-then-not-good_text : goal.returns-then-not-good_text
returns-then-not-good_text c =
    left_with _ _ _ _ _ c.after.ensures.answer c.after.ensures.run
    (run_misfit _ _ _ (lent_input c.args.input) (sym c.good_text.ensures ∙ c.if-not-good_text.true))

pub returns-then-not-is_good : goal.returns-then-not-is_good
returns-then-not-is_good c =
    left_with _ _ _ _ _ c.after-then-not-is_good.ensures.answer c.after-then-not-is_good.ensures.run
    (run_refused (lent_sheet c.args.sheet) _ c.sizes-sizes.ensures _ _ (lent_input c.args.input) (sym c.good_text.ensures ∙ c.if-not-good_text.false)
    _ c.is_good.ensures c.if-not-is_good.true)

pub returns-then-r : goal.returns-then-r
returns-then-r c =
    left_with _ _ _ _ _ c.after-then-r.ensures.answer c.after-then-r.ensures.run
    (run_done (lent_sheet c.args.sheet) _ c.sizes-sizes.ensures _ _ (lent_input c.args.input) (sym c.good_text.ensures ∙ c.if-not-good_text.false)
    _ c.is_good.ensures c.if-not-is_good.false c.if-r.true)

pub overflow_sub-left : goal.overflow_sub-left
overflow_sub-left c = (run_is _ _ _ (sym c.is_good.ensures ∙ c.if-not-is_good.false)).inside

pub row_top-requires : goal.row_top-requires
row_top-requires c =
    omega (arith, text_long _ _ (sym c.good_text.ensures ∙ c.if-not-good_text.false), (run_is _ _ _ (sym c.is_good.ensures ∙ c.if-not-is_good.false)).inside)

pub returns-in_default : goal.returns-in_default
returns-in_default c =
    left_with _ _ _ _ _ c.after-in_default.ensures.answer c.after-in_default.ensures.run
    (run_ill (lent_sheet c.args.sheet) _ c.sizes-sizes.ensures _ _ (lent_input c.args.input) (sym c.good_text.ensures ∙ c.if-not-good_text.false)
    _ c.is_good.ensures c.if-not-is_good.false c.if-r.false c.in_default.ensures)

pub new-lexer-requires : goal.new-lexer-requires
new-lexer-requires c = rw (c.rule_records.ensures, c.entry_records.ensures) (sheet_lists (lent_sheet c.args.sheet) c.requires)

-- the lexer is that of the sheet
made : (c : After-new-lexer) → c.new-lexer.result ≡ lexer_of (decoded (lent_sheet c.args.sheet))
made c =
    c.new-lexer.ensures ∙ (λ i. lexer (c.state_records.ensures i) (c.rule_records.ensures i) (c.entry_records.ensures i))

pub step_row-requires : goal.step_row-requires
step_row-requires c =
    let sheet = lent_sheet c.args.sheet in
    let of = c.sizes-sizes.ensures in
    let input = lent_input c.args.input in
    let text = sym c.good_text.ensures ∙ c.if-not-good_text.false in
    let is = made (goal.at.step_row-requires c).After-new-lexer in
    record {
      stack_value = lexer_run sheet _ of _ _ input text _ c.is_good.ensures c.if-not-is_good.false c.if-r.false _ c.in-Some.ensures _ is;
      position_lt_n = short_of _ _ _ (sym c.is_good.ensures ∙ c.if-not-is_good.false) c.if-r.false;
      row_fits = lexer_row sheet _ of _ _ input text _ c.is_good.ensures c.if-not-is_good.false c.if-r.false _ c.in-Some.ensures _ is;
    }

pub returns : goal.returns
returns c =
    run_row (lent_sheet c.args.sheet) _ c.sizes-sizes.ensures _ _ (lent_input c.args.input) (sym c.good_text.ensures ∙ c.if-not-good_text.false)
    _ c.is_good.ensures c.if-not-is_good.false c.if-r.false _ c.in-Some.ensures
    _ (made (goal.at.returns c).After-new-lexer) _ c.step_row.ensures
