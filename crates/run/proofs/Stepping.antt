-- The step call and the start call: a law for each way through, whose premises are what the callees promise and the tests taken. The winner
-- is one of the rules and its length is at most the bytes left, so that a move stays inside the entry and the stack.
use mathlib.Core.Path.{◌≡◌, sym, ap, subst, ◌∙◌}
use mathlib.Core.Bool.{Bool, true, false, and-false}
use mathlib.Core.List.{List}
use Prim.Native.Nat.{ℕ, ◌-◌, ◌≤◌, ◌<◌}
use native.Mathlib.Omega.{arith}
use borrow.Author.Rules.{rules}
use borrow.Author.Tests.{le-leb, lt-leb, leb-true, eq-eqb, ne_eqb}
use lib.Dec.{leb}
use lib.ListN.{length}
use Rattle.std.specs.Prelude.{Ok, Err, Some, None}
use Rattle.area.specs.declared.Rule.{Rule}
use Rattle.area.specs.Records.{rule_at, entry_at, nth_rule}
use Rattle.area.specs.Contents.{rule_format}
use Rattle.sheet_check.specs.declared.Sizes.{Sizes}
use Rattle.sheet_check.specs.SheetCheck.{SheetBytes, count, decoded, sizes_of, sheet_check}
use Rattle.area.proofs.Contents.{contents_read}
use Rattle.sheet_check.proofs.Checked.{states_count, rules_count, lists_count, checked_rule}
use Rattle.winner.specs.declared.Best.{Best}
use Rattle.winner.specs.Winner.{Lexer, list_end, weight, best}
use Rattle.winner.specs.declared.Row.{Row}
use Rattle.winner.specs.Phrases.{ListsInside, winning}
use Rattle.winner.proofs.Winning.{winner_inside, weights_low}
use Rattle.winner.proofs.Topping.{none_won, one_won}
use Rattle.run.specs.declared.Run.{Run}
use Rattle.run.specs.declared.After.{After}
use Rattle.run.specs.declared.StepError.TheVariants.{BrokenSheet, TextMismatch, BrokenRun, RowMismatch}
use Rattle.run.specs.declared.Step.TheVariants.{Done, Stopped}
use Rattle.run.specs.Run.{limit, within_limit, most_bytes, stack_bytes, Running, running, Input, current, put_state, RunLeft, leaving}
use Rattle.run.specs.Run.{run_left, StartAnswer, start_accepted, start_unknown_caller, start_refused, start_text_mismatch, first_run, good_start, start_call}
use Rattle.run.specs.Run.{StepAnswer}
use Rattle.run.specs.Run.{good_run, fits_in, won_by, choose, lexer_of, step_row, step_run, step_call}
use Rattle.run.specs.Phrases.{Inside, within_left}
use Rattle.winner.specs.Top.{good_row, RowFits}
use Rattle.winner.proofs.Fitting.{row-length}
use Rattle.input_check.specs.InputCheck.{good_text}
use Rattle.input_check.proofs.Rows.{row_low}
use Rattle.run.proofs.Limits.{within_low}
use Rattle.run.proofs.Fitting.{GoodNumbers, run_is}

-- what a run and an answer beside it leave
pub left_with : {A : Type 0} (x : After A) (a : A) (r : Run) (s : List ℕ) (y : RunLeft A) → x.answer ≡ a → x.run ≡ r → run_left a r s ≡ y
    → run_left x.answer x.run s ≡ y
left_with {A} x a r s y p q e = (λ i. run_left (p i) (q i) s) ∙ e

-- ---- the start call

module _ (kind n : ℕ) (text : List ℕ) (r : Run) (s : List ℕ) where
  abbrev started : RunLeft StartAnswer
  started = start_call kind n text (running r s)

  pub start_unknown : None ≡ limit kind → run_left start_unknown_caller r s ≡ started
  unfolding start_call
  start_unknown h = rw (← h)

  module _ (most : ℕ) (known : Some most ≡ limit kind) where
    pub start_long : most < n → run_left start_refused r s ≡ started
    unfolding start_call good_start within_limit
    start_long h = rw (← known, lt-leb n most h)

    pub start_short : length s < stack_bytes n → run_left start_refused r s ≡ started
    unfolding start_call good_start
    start_short h = rw (← known, lt-leb (stack_bytes n) (length s) h, and-false)

    module _ (h : n ≤ most) (g : stack_bytes n ≤ length s) (t : Bool) (is : t ≡ good_text n text) where
      pub start_misfit : t ≡ false → run_left start_text_mismatch r s ≡ started
      unfolding start_call good_start within_limit
      start_misfit e = rw (← known, le-leb n most h, le-leb (stack_bytes n) (length s) g, ← is, e)

      pub start_good : t ≡ true → (e : List ℕ) → e ≡ put_state s 0 0 → run_left start_accepted (first_run kind n) e ≡ started
      unfolding start_call good_start within_limit
      start_good f e q = rw (← known, le-leb n most h, le-leb (stack_bytes n) (length s) g, ← is, f, q)

pub ruleset starting = (rules, start_unknown, start_long, start_short, start_misfit, start_good)

-- ---- a row that fits

module _ (lexer : Lexer) (r : Run) (s : List ℕ) (x : Row) (state : ℕ) (top : state ≡ entry_at s (r.depth - 1)) (counted : x.rules ≡ length lexer.rules) where
  abbrev won : Best
  won = best (weight lexer state x.bytes.now) x.rules

  abbrev g : Running
  g = running r s

  abbrev after_row : RunLeft StepAnswer
  after_row = step_row lexer g x.bytes.now

  row_choice : choose lexer g won ≡ after_row
  unfolding step_row
  row_choice =
      ap (choose lexer g)
      (ap (λ (z : ℕ). best (weight lexer z x.bytes.now) x.rules) top ∙ ap (best (weight lexer (current g) x.bytes.now)) counted)

  pub row_stopped : None ≡ winning won → leaving (Ok Stopped) g ≡ after_row
  unfolding choose
  row_stopped e = rw (eq-eqb won.length 0 (none_won won e)) at row_choice

  module _ (b : Best) (e : Some b ≡ winning won) where
    is : b ≡ won
    is = (one_won won e).0

    -- the winner is a rule
    pub rule_inside : b.rule < length lexer.rules
    rule_inside =
        let inside : won.rule < x.rules = winner_inside (weight lexer state x.bytes.now) x.rules (one_won won e).1 in
        omega (arith, inside, counted, ap (λ (y : Best). y.rule) is)

    -- its length is at most the bytes left
    pub bytes_low : (left : ℕ) → good_row (λ l. leb l left) (length lexer.rules) x.bytes.now ≡ true → b.length ≤ left
    bytes_low left fits =
        let low = weights_low lexer state x.bytes.now left x.rules
        (λ k h. leb-true (entry_at x.bytes.now k) left (row-length (λ l. leb l left) (length lexer.rules) x.bytes.now fits k (omega (arith, h, counted)))) in
        omega (arith, low, ap (λ (y : Best). y.length) is)

    choose_won : won_by g (nth_rule lexer.rules b.rule) b.length ≡ choose lexer g won
    unfolding choose
    choose_won = rw (ne_eqb won.length 0 (one_won won e).1) (ap (λ (y : Best). won_by g (nth_rule lexer.rules y.rule) y.length) is)

    pub row_won : (y : Rule) (z : RunLeft StepAnswer) → y ≡ nth_rule lexer.rules b.rule → z ≡ won_by g y b.length → z ≡ after_row
    row_won y z read q = q ∙ ap (λ (v : Rule). won_by g v b.length) read ∙ choose_won ∙ row_choice

-- a move by no more bytes than are left stays inside the entry, and its operation inside the stack
pub move_inside : (r : Run) (bytes space : ℕ) → GoodNumbers r space → r.position < r.n → bytes ≤ r.n - r.position → Inside r bytes space
move_inside r bytes space g h l =
    let small : r.n ≤ most_bytes = within_low r.kind r.n g.limited in
    record {
      stack = record {
        some_depth = g.some_depth;
        low_depth = omega (arith, small, g.low_depth, h);
        room = omega (arith, g.low_depth, g.long, h);
      };
      position = omega (arith, small, h, l);
      moves = omega (arith, small, g.inside, g.few_moves);
    }

-- ---- a sheet that passed the check

-- a run that fits and is not at the end is short of it
pub short_of : (states : ℕ) (r : Run) (s : List ℕ) → good_run states (running r s) ≡ true → (r.position ≡ r.n → ⊥) → r.position < r.n
short_of states r s e h = omega (arith, (run_is states r s e).inside, h)

-- a text that does not fit
pub run_misfit : (x : Lexer) (r : Run) (s : List ℕ) (i : Input) → good_text r.n i.text ≡ false
    → run_left (Err TextMismatch) r s ≡ step_run x (running r s) i
unfolding step_run
run_misfit x r s i e = rw e

module _ (b : SheetBytes) (z : Sizes) (of : z ≡ sizes_of b) (r : Run) (s : List ℕ) (i : Input) (formed : good_text r.n i.text ≡ true) (t : Bool)
    (is : t ≡ good_run z.states (running r s)) where
  abbrev after_check : RunLeft StepAnswer
  after_check = step_run (lexer_of (decoded b)) (running r s) i

  abbrev fits : ℕ → Bool
  fits = fits_in i.text r

  ran : good_run (length (decoded b).states) (running r s) ≡ t
  ran = ap (λ (m : ℕ). good_run m (running r s)) (states_count b ∙ ap (λ (y : Sizes). y.states) (sym of)) ∙ sym is

  pub run_refused : t ≡ false → run_left (Err BrokenRun) r s ≡ after_check
  unfolding step_run
  run_refused e = rw (formed, ran, e)

  pub run_done : t ≡ true → r.position ≡ r.n → run_left (Ok Done) r s ≡ after_check
  unfolding step_run
  run_done e h = rw (formed, ran, e, eq-eqb r.position r.n h)

  module _ (e : t ≡ true) (h : r.position ≡ r.n → ⊥) where
    counted : length (decoded b).rules ≡ z.rules
    counted = rules_count b ∙ ap (λ (y : Sizes). y.rules) (sym of)

    rowed : good_row fits (length (decoded b).rules) i.row ≡ good_row fits z.rules i.row
    rowed = ap (λ (m : ℕ). good_row fits m i.row) counted

    pub run_ill : good_row fits z.rules i.row ≡ false → run_left (Err RowMismatch) r s ≡ after_check
    unfolding step_run
    run_ill g = rw (formed, ran, e, ne_eqb r.position r.n h, rowed, g)

    module _ (x : Row) (read : RowFits fits z.rules i.row x) (lexer : Lexer) (made : lexer ≡ lexer_of (decoded b)) where
      pub lexer_run : good_run (length lexer.states) (running r s) ≡ true
      lexer_run = ap (λ (y : Lexer). good_run (length y.states) (running r s)) made ∙ ran ∙ e

      pub lexer_row : RowFits (within_left r) (length lexer.rules) x.bytes.now x
      lexer_row =
          let low : RowFits (within_left r) z.rules i.row x = row_low i.text (r.n - r.position) r.position z.rules i.row x read in
          let n : length lexer.rules ≡ z.rules = ap (λ (y : Lexer). length y.rules) made ∙ counted in
          let there : RowFits (within_left r) (length lexer.rules) i.row x = subst (λ (m : ℕ). RowFits (within_left r) m i.row x) (sym n) low in
          subst (λ (l : List ℕ). RowFits (within_left r) (length lexer.rules) l x) (sym read.bytes_are) there

      pub run_row : (y : RunLeft StepAnswer) → y ≡ step_row lexer (running r s) x.bytes.now → y ≡ after_check
      unfolding step_run
      run_row y q =
          rw (formed, ran, e, ne_eqb r.position r.n h, rowed, read.good)
          (q ∙ ap (step_row lexer (running r s)) read.bytes_are ∙ ap (λ (v : Lexer). step_row v (running r s) i.row) made)

-- ---- the sheet

module _ (b : SheetBytes) (r : Run) (s : List ℕ) (i : Input) (t : Bool) (is : t ≡ sheet_check b) where
  pub sheet_refused : t ≡ false → run_left (Err BrokenSheet) r s ≡ step_call b (running r s) i
  unfolding step_call
  sheet_refused e = rw (← is, e)

  pub sheet_stepped : (y : RunLeft StepAnswer) → t ≡ true → y ≡ step_run (lexer_of (decoded b)) (running r s) i → y ≡ step_call b (running r s) i
  unfolding step_call
  sheet_stepped y e q = rw (← is, e) q

-- the list of each rule lies inside the list entries
pub sheet_lists : (b : SheetBytes) → sheet_check b ≡ true → ListsInside (decoded b).rules (decoded b).lists
unfolding decoded
sheet_lists b passed = record {
  each = λ k h.
      let inside : k < count b 2 = omega (arith, rules_count b, h) in
      let read : nth_rule (decoded b).rules k ≡ rule_at b.area2 k = contents_read rule_format b.area2 (count b 2) k inside in
      subst (λ (y : Rule). list_end y ≤ length (decoded b).lists) (sym read) (omega (arith, (checked_rule b passed k inside).list_inside, lists_count b));
}
