-- One step call on a sheet that passes the check, from a good run: it stays, or moves by a rule that wins, and leaves a good run.
use mathlib.Core.Path.{◌≡◌, refl, sym, ap, ap₂, ◌∙◌}
use mathlib.Core.Bool.{true}
use mathlib.Core.List.{List, [], ◌∷◌}
use Prim.Native.Nat.{ℕ, ◌+◌, ◌-◌, ◌≤◌, ◌<◌}
use native.Mathlib.Omega.{arith}
use lib.ListN.{length}
use Rattle.area.specs.declared.Rule.{Rule}
use Rattle.area.specs.Records.{rule_of, nth_rule}
use Rattle.answers.specs.Numbers.{broken_sheet_number, broken_run_number}
use Rattle.sheet_check.specs.declared.Sizes.{Sizes}
use Rattle.sheet_check.specs.SheetCheck.{SheetBytes, decoded, sizes_of, good_rule, sheet_check}
use Rattle.sheet_check.proofs.Checked.{good_rule_lem, states_count, checked_records}
use Rattle.area.proofs.All.{all-at}
use Rattle.std.specs.Prelude.{Ok, Err}
use Rattle.run.specs.declared.StepError.TheVariants.{BrokenSheet, BrokenRun}
use Rattle.run.specs.declared.Step.TheVariants.{Skip, Token}
use Rattle.run.specs.Run.{limit, within_limit, StepAnswer, Running, Input, RunLeft, leaving, moves_of, good_run, move_by, step_call, View, stays, view, view_fields, step_fields}
use Rattle.run.proofs.Fitting.{run_is}
use Rattle.run_laws.specs.Pieces.{Piece, piece, piece_of, piece_left, Adjoin}
use Rattle.run_laws.proofs.Cases.{call_cases}
use Rattle.run_laws.proofs.Operated.{operated_good, run_good}

-- a call from the run x that left o: neither 6 nor 9; it stays and changes nothing, or its piece has some bytes; and the run is good again, with the
-- same kind and n and as many bytes of stack; its piece, if it has one, stands between the two positions, and is one move
pub record Called (states : ℕ) (x : Running) (o : RunLeft StepAnswer) : Type 0 where
  pub not_6 : o.answer ≡ Err BrokenSheet → ⊥
  pub not_9 : o.answer ≡ Err BrokenRun → ⊥
  pub unchanged : (number : ℕ) → view o.answer ≡ stays number → o.after ≡ x
  pub some_bytes : (y : Piece) → piece_left x.run.position o ≡ y ∷ [] → 0 < y.bytes
  pub good : good_run states o.after ≡ true
  pub same_kind : o.after.run.kind ≡ x.run.kind
  pub same_n : o.after.run.n ≡ x.run.n
  pub same_bytes : length o.after.stack ≡ length x.stack
  pub adjoins : Adjoin x.run.position (piece_left x.run.position o) o.after.run.position
  pub moves : moves_of o.after.run ≡ moves_of x.run + length (piece_left x.run.position o)

-- an answer's number
abbrev number : StepAnswer → ℕ
number a = (step_fields a).number

-- the bytes of the first piece, 0 where there is none
first_bytes : List Piece → ℕ
first_bytes [] = 0
first_bytes (y ∷ ys) = y.bytes

stays_called : (states : ℕ) (x : Running) → good_run states x ≡ true
    → (a : StepAnswer) (k : ℕ) → view a ≡ stays k → (k ≡ broken_sheet_number → ⊥) → (k ≡ broken_run_number → ⊥) → Called states x (leaving a x)
unfolding Adjoin view view_fields
stays_called states x good a k e p q =
    let is : k ≡ number a = sym (ap (λ (v : View). (view_fields v).number) e) in
    record {
      not_6 = λ r. p (is ∙ ap number r);
      not_9 = λ r. q (is ∙ ap number r);
      unchanged = λ _ _. refl;
      some_bytes = λ y h. absurd (omega (arith, ap length h, ap (λ (v : View). length (piece_of x.run.position x.run.position v)) e));
      good = good;
      same_kind = refl;
      same_n = refl;
      same_bytes = refl;
      adjoins = rw e refl;
      moves = rw e (omega arith);
    }

-- a move by a rule over some of the bytes that are left
module _ (states : ℕ) (x : Running) (good : good_run states x ≡ true) (r : Rule) (bytes : ℕ)
    (target : r.target < states) (some : 0 < bytes) (left : bytes ≤ x.run.n - x.run.position) where
  goes_called : (a : StepAnswer)
      → ((q : ℕ) → q ≡ x.run.position + bytes → piece_of x.run.position q (view a) ≡ piece x.run.position bytes ∷ [])
      → (a ≡ Err BrokenSheet → ⊥) → (a ≡ Err BrokenRun → ⊥) → Called states x (leaving a (move_by x r bytes))
  unfolding Adjoin move_by first_bytes
  goes_called a piece_is p q =
      let g = run_is states x.run x.stack good in
      let o = operated_good states x good (omega (arith, g.inside, g.low_depth, g.long, left, some)) r target in
      let one = piece_is (move_by x r bytes).run.position (omega (arith, o.same_position)) in
      record {
        not_6 = p;
        not_9 = q;
        unchanged = λ j e. absurd (omega (arith, ap length one, ap (λ (v : View). length (piece_of x.run.position (move_by x r bytes).run.position v)) e));
        some_bytes = λ y h. omega (arith, ap first_bytes (sym one ∙ h), some);
        good = run_good states (move_by x r bytes)
            (record {
              limited = ap₂ (λ (kind n : ℕ). within_limit (limit kind) n) o.same_kind o.same_n ∙ g.limited;
              inside = omega (arith, g.inside, o.same_n, o.same_position, left);
              some_depth = o.some_depth;
              low_depth = omega (arith, o.low_depth, o.same_position, g.low_depth, some);
              few_moves = omega (arith, o.same_moves, o.same_position, g.few_moves, some);
              long = omega (arith, g.long, o.same_n, o.same_bytes);
            })
            o.ids;
        same_kind = o.same_kind;
        same_n = o.same_n;
        same_bytes = o.same_bytes;
        adjoins = rw one (refl, omega (arith, o.same_position));
        moves = rw one (omega (arith, o.same_moves));
      }

  token_called : Called states x (leaving (Ok (Token r.id x.run.position bytes)) (move_by x r bytes))
  unfolding view
  token_called = goes_called (Ok (Token r.id x.run.position bytes)) (λ q e. refl) (λ e. cc) (λ e. cc)

  skip_called : Called states x (leaving (Ok Skip) (move_by x r bytes))
  unfolding view
  skip_called =
      goes_called (Ok Skip)
      (λ q e.
      let long : q - x.run.position ≡ bytes = omega (arith, e) in
      ap (λ (k : ℕ). piece x.run.position k ∷ []) long)
      (λ e. cc) (λ e. cc)

-- ---- the call

module _ (b : SheetBytes) (passed : sheet_check b ≡ true) where
  abbrev states : ℕ
  states = length (decoded b).states

  abbrev rules : List Rule
  rules = (decoded b).rules

  -- each rule's target is declared
  target_declared : (k : ℕ) → k < length rules → (nth_rule rules k).target < states
  target_declared k h =
      let z : Sizes = sizes_of b in
      let passes = all-at (good_rule z) rules (rule_of (λ _. 0)) k (checked_records b passed).rules h in
      omega (arith, (good_rule_lem z (nth_rule rules k) passes).target, states_count b)

  pub called : (x : Running) → good_run states x ≡ true → (i : Input) → Called states x (step_call b x i)
  called x good i =
      call_cases b passed x good i (Called states x)
      (record {
        stayed = stays_called states x good;
        gave = λ k bytes w _ _. token_called states x good (nth_rule rules k) bytes (target_declared k w.inside) w.some w.left;
        skipped = λ k bytes w _. skip_called states x good (nth_rule rules k) bytes (target_declared k w.inside) w.some w.left;
      })
