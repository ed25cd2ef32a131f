-- What a step call may do on a sheet that passes the check, from a good run: it stays, or a rule wins and it gives a token or skips. So what holds in
-- each of these cases holds of the call.
use mathlib.Core.Path.{◌≡◌, refl, sym, ◌∙◌}
use mathlib.Core.Bool.{Bool, true, false, cond}
use Prim.Native.Nat.{ℕ, ◌-◌, ◌≤◌, ◌<◌}
use native.Mathlib.Omega.{arith}
use borrow.Author.Tests.{leb-true, eqb-true, eqb-false}
use lib.Dec.{eqb}
use lib.ListN.{length}
use Rattle.std.proofs.lemmas.Bool.{cond_both}
use Rattle.area.specs.declared.Rule.{Rule}
use Rattle.area.specs.Records.{nth_rule}
use Rattle.answers.specs.Numbers.{broken_sheet_number, broken_run_number, row_mismatch_number, text_mismatch_number, done_number, stopped_number, unlinked_number}
use Rattle.sheet_check.specs.SheetCheck.{SheetBytes, decoded, sheet_check}
use Rattle.winner.specs.Winner.{Lexer, live, length_in, weight, greatest, earliest}
use Rattle.winner.proofs.Winning.{earliest_has, winner_inside, weights_low}
use Rattle.std.specs.Prelude.{Ok, Err}
use Rattle.input_check.specs.InputCheck.{good_text}
use Rattle.input_check.proofs.Rows.{fits_low}
use Rattle.run.specs.declared.StepError.TheVariants.{TextMismatch, RowMismatch}
use Rattle.run.specs.declared.Step.TheVariants.{Done, Stopped, Unlinked, Skip, Token}
use Rattle.run.specs.Run.{StepAnswer, Running, current, Input, RunLeft, leaving, good_run, fits_in}
use Rattle.run.specs.Run.{move_by, won_by, choose, step_row, step_run, lexer_of, step_call, stays, view}
use Rattle.winner.specs.Top.{good_row}
use Rattle.winner.proofs.Fitting.{row-length}

-- rule k wins by so many bytes: it is live in the current state, and the row has that length for it, at least one byte and none that is not left
pub record Wins (c : Lexer) (x : Running) (i : Input) (k bytes : ℕ) : Type 0 where
  pub inside : k < length c.rules
  pub is_live : live c.states c.lists (current x) (nth_rule c.rules k) ≡ true
  pub has : length_in i.row k ≡ bytes
  pub some : 0 < bytes
  pub left : bytes ≤ x.run.n - x.run.position

-- a property of what a call leaves, in each case: it stays, by a number that is neither 6 nor 9; it gives a token; it skips
pub record InEachCase (c : Lexer) (x : Running) (i : Input) (P : RunLeft StepAnswer → Type 0) : Type 0 where
  pub stayed : (a : StepAnswer) (number : ℕ) → view a ≡ stays number → (number ≡ broken_sheet_number → ⊥) → (number ≡ broken_run_number → ⊥) → P (leaving a x)
  pub gave : (k bytes : ℕ) → Wins c x i k bytes
      → (nth_rule c.rules k).named ≡ 1 → (nth_rule c.rules k).has_id ≡ 1
      → P (leaving (Ok (Token (nth_rule c.rules k).id x.run.position bytes)) (move_by x (nth_rule c.rules k) bytes))
  pub skipped : (k bytes : ℕ) → Wins c x i k bytes
      → ((nth_rule c.rules k).named ≡ 1 → ⊥)
      → P (leaving (Ok Skip) (move_by x (nth_rule c.rules k) bytes))

-- ---- the winner

-- a weight that is not 0 is the length of a live rule
weighs : (t : Bool) (bytes : ℕ) → (cond t bytes 0 ≡ 0 → ⊥) → (t ≡ true) × (bytes ≡ cond t bytes 0)
weighs true bytes h = (refl, refl)
weighs false bytes h = absurd (h refl)

wins : (c : Lexer) (x : Running) (i : Input) → good_row (fits_in i.text x.run) (length c.rules) i.row ≡ true
    → (greatest (weight c (current x) i.row) (length c.rules) ≡ 0 → ⊥)
    → Wins c x i (earliest (weight c (current x) i.row) (length c.rules)) (greatest (weight c (current x) i.row) (length c.rules))
unfolding weight
wins c x i fits some =
    let f : ℕ → ℕ = weight c (current x) i.row in
    let n : ℕ = length c.rules in
    let k : ℕ = earliest f n in
    let inside : k < n = winner_inside f n some in
    let has : f k ≡ greatest f n = earliest_has f n (omega (arith, inside)) in
    let w = weighs (live c.states c.lists (current x) (nth_rule c.rules k)) (length_in i.row k) (λ e. some (sym has ∙ e)) in
    let left : ℕ = x.run.n - x.run.position in
    record {
      inside = inside;
      is_live = w.0;
      has = w.1 ∙ has;
      some = omega (arith, some);
      left = weights_low c (current x) i.row left n
          (λ j h. leb-true (length_in i.row j) left (fits_low i.text left x.run.position (length_in i.row j) (row-length (fits_in i.text x.run) n i.row fits j h)));
    }

-- ---- the call

module _ (c : Lexer) (x : Running) (i : Input) (P : RunLeft StepAnswer → Type 0) (holds : InEachCase c x i P) where
  -- an answer that stays by a number above 9
  still : (a : StepAnswer) (number : ℕ) → view a ≡ stays number → broken_run_number < number → P (leaving a x)
  still a number is above = holds.stayed a number is (λ q. omega (arith, q, above)) (λ q. omega (arith, q, above))

  won_cases : (k bytes : ℕ) → Wins c x i k bytes → P (won_by x (nth_rule c.rules k) bytes)
  unfolding won_by view
  won_cases k bytes w =
      let r : Rule = nth_rule c.rules k in
      cond_both (eqb r.named 1) _ _ P
      (λ e. cond_both (eqb r.has_id 1) _ _ P (λ d. holds.gave k bytes w (eqb-true r.named 1 e) (eqb-true r.has_id 1 d))
      (λ _. still (Ok Unlinked) unlinked_number refl (omega arith)))
      (λ e. holds.skipped k bytes w (eqb-false r.named 1 e))

  row_cases : good_row (fits_in i.text x.run) (length c.rules) i.row ≡ true → P (step_row c x i.row)
  unfolding step_row choose view
  row_cases fits =
      let f : ℕ → ℕ = weight c (current x) i.row in
      let n : ℕ = length c.rules in
      cond_both (eqb (greatest f n) 0) _ _ P (λ _. still (Ok Stopped) stopped_number refl (omega arith))
      (λ e. won_cases (earliest f n) (greatest f n) (wins c x i fits (eqb-false (greatest f n) 0 e)))

  run_cases : good_run (length c.states) x ≡ true → P (step_run c x i)
  unfolding step_run view
  run_cases good =
      rw good
      (cond_both (good_text x.run.n i.text) _ _ P
      (λ _. cond_both (eqb x.run.position x.run.n) _ _ P (λ _. still (Ok Done) done_number refl (omega arith))
      (λ _. cond_both (good_row (fits_in i.text x.run) (length c.rules) i.row) _ _ P row_cases
      (λ _. still (Err RowMismatch) row_mismatch_number refl (omega arith))))
      (λ _. still (Err TextMismatch) text_mismatch_number refl (omega arith)))

pub call_cases : (b : SheetBytes) → sheet_check b ≡ true → (x : Running) → good_run (length (decoded b).states) x ≡ true
    → (i : Input) (P : RunLeft StepAnswer → Type 0)
    → InEachCase (lexer_of (decoded b)) x i P → P (step_call b x i)
unfolding step_call
call_cases b passed x good i P holds = rw passed (run_cases (lexer_of (decoded b)) x i P holds good)
