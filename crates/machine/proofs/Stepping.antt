-- One step call, given the machine's text, on a run that is as the machine has it: text and run pass their checks, the current state is the machine's,
-- and the scan's winner is the machine's, so that the call leaves what the machine does.
use mathlib.Core.Path.{◌≡◌, refl, sym, ap, ◌∙◌}
use mathlib.Core.Bool.{Bool, true, false, cond}
use mathlib.Core.List.{List, map}
use mathlib.Core.Option.{Option, none, some}
use Prim.Native.Nat.{ℕ, ◌*◌, ◌≤◌, ◌<◌}
use native.Mathlib.Omega.{arith}
use borrow.Author.Tests.{eq-eqb, eqb-false}
use lib.Dec.{eqb}
use lib.ListN.{length, length-map}
use Rattle.area.specs.declared.Rule.{Rule}
use Rattle.area.specs.Records.{nth_rule}
use Rattle.parse.specs.Parse.{Contents}
use Rattle.name_map.specs.Map.{Entry}
use Rattle.link.specs.Link.{link_rules}
use Rattle.link.proofs.Outcomes.{link_count, link_at}
use Rattle.winner.specs.Winner.{weight, greatest, earliest, best}
use Rattle.winner.proofs.Winning.{greatest_low}
use Rattle.std.specs.Prelude.{Ok, Err}
use Rattle.input_check.specs.InputCheck.{good_text, length_fits}
use Rattle.run.specs.declared.StepError.TheVariants.{RowMismatch}
use Rattle.run.specs.declared.Step.TheVariants.{Done, Stopped}
use Rattle.run.specs.Run.{StepAnswer, running, current, Input, RunLeft, run_left, good_run, won_by, choose, step_row, step_run, lexer_of}
use Rattle.machine.specs.File.{FileRule, file_state, file_rule, file_in}
use Rattle.machine.specs.Machine.{Given, Machine, current_state, lengths, fits, fits_here, Winner, winner, winner_of, Answered, wins, chooses, step}
use Rattle.machine.proofs.Laid.{left_as}
use Rattle.machine.specs.Demand.{run_as}
use Rattle.machine.proofs.Meanings.{lengths_count, Picks, picked}
use Rattle.machine.proofs.Reading.{Sound, row_same, fits_size}
use Rattle.machine.proofs.Operations.{linked_lexer, linked_weight, still_as, won_as}
use Rattle.machine.proofs.Winners.{f, rules, alive, weights_under, top, place_same, is_rule}
use Rattle.machine.proofs.Keeping.{Runs, numbers, current_as}

-- a test that call and machine share
by_same_test : (g : Given) (b : List ℕ) (t : Bool) (x y : RunLeft StepAnswer) (p q : Answered)
    → (t ≡ true → x ≡ left_as g b p) → (t ≡ false → y ≡ left_as g b q)
    → cond t x y ≡ left_as g b (cond t p q)
by_same_test g b true x y p q f k = f refl
by_same_test g b false x y p q f k = k refl

module _ (name : Rule → List ℕ) (c : Contents) (es : List Entry) (kind limit n : ℕ) (text : List ℕ) (formed : good_text n text ≡ true) (sound : Sound c) where
  abbrev g : Given
  g = record { file = file_in name c; map = es; kind = kind; limit = limit; n = n; text = text }

  module _ (size : ℕ) (m : Machine) (b : List ℕ) (h : Runs g size m b) where
    -- the run passes its check
    run_good : good_run (length c.states) (running (run_as g m) b) ≡ true
    run_good = ap (λ (k : ℕ). good_run k (running (run_as g m) b)) (sym (length-map c.states file_state)) ∙ h.sound.good

    -- the weights over the linked rules
    weights_as : (row : List ℕ) → weight (linked_lexer name es c) (current (running (run_as g m) b)) row ≡ weight (lexer_of c) (current_state m.stack) row
    weights_as row = linked_weight name es c (current (running (run_as g m) b)) row ∙ ap (λ (k : ℕ). weight (lexer_of c) k row) (current_as g size m b h)

    module _ (row : List ℕ) (fit : length row ≡ length c.rules * 2) (before : m.position < n) where
      won : (w : Winner) (k : ℕ) → w.rule ≡ file_rule name c (nth_rule c.rules k)
          → won_by (running (run_as g m) b) (nth_rule (link_rules name es c.rules) k) w.bytes ≡ left_as g b (wins g w.rule.name w m)
      won w k e =
          let q = numbers g size m b h in
          rw (link_at name es c.rules k)
          (won_as g m b h.begins q.some_depth (omega (arith, q.low_depth, q.long, before)) name c (nth_rule c.rules k) w.bytes
          ∙ ap (λ (x : FileRule). left_as g b (wins g x.name (winner x w.bytes) m)) (sym e))

      -- the weight of each rule, and the greatest
      abbrev weigh : ℕ → ℕ
      weigh = f name c sound m row fit

      abbrev top_weight : ℕ
      top_weight = greatest weigh (length c.rules)

      chooses_as : (o : Option Winner) → Picks (alive name c sound m row fit) (rules name c sound m row fit) (lengths row) o
          → choose (linked_lexer name es c) (running (run_as g m) b) (best weigh (length c.rules)) ≡ left_as g b (chooses g o m)
      unfolding choose chooses
      chooses_as none p =
          let under = weights_under name c sound m row fit 0 (λ k x e l. absurd (p k x e l)) in
          let low : top_weight ≤ 0 = greatest_low weigh 0 (length c.rules) under in
          rw (eq-eqb top_weight 0 (omega arith)) (still_as g m b h.begins (Ok Stopped))
      chooses_as (some w) p =
          let wonBy-rule : ℕ → ℕ → RunLeft StepAnswer = λ k bytes. won_by (running (run_as g m) b) (nth_rule (link_rules name es c.rules) k) bytes in
          let first : ℕ = earliest weigh (length c.rules) in
          ap (λ (v : ℕ). cond (eqb v 0) (run_left (Ok Stopped) (run_as g m) b) (wonBy-rule first v)) (top name c sound m row fit w p)
          ∙ by_same_test g b (eqb w.bytes 0) _ _ _ _ (λ _. still_as g m b h.begins (Ok Stopped))
          (λ e.
          let same : first ≡ p.place = place_same name c sound m row fit w p (omega (arith, eqb-false w.bytes 0 e)) in
          ap (λ (k : ℕ). wonBy-rule k w.bytes) same ∙ won w p.place (is_rule name c sound m row fit w p))

    -- the test of a length, how many rules there are, and the current state
    abbrev test : ℕ → Bool
    test = fits_here g m

    abbrev count : ℕ
    count = length c.rules

    abbrev state : ℕ
    state = current_state m.stack

    chosen : (i : Input) → eqb m.position n ≡ false → fits test count i.row ≡ true
        → choose (linked_lexer name es c) (running (run_as g m) b) (best (weight (lexer_of c) state i.row) count)
        ≡ left_as g b (chooses g (winner_of (map file_state c.states) state (map (file_rule name c) c.rules) (lengths i.row)) m)
    chosen i e d =
        let fit : length i.row ≡ count * 2 = fits_size test count i.row d in
        let same : length (lengths i.row) ≡ length (map (file_rule name c) c.rules) =
        lengths_count count i.row fit ∙ sym (length-map c.rules (file_rule name c)) in
        chooses_as i.row fit (omega (arith, eqb-false m.position n e, (numbers g size m b h).inside)) _
        (picked (map file_state c.states) state (map (file_rule name c) c.rules) (lengths i.row) same)

    pub step_as : (i : Input) → i.text ≡ text → step_run (linked_lexer name es c) (running (run_as g m) b) i ≡ left_as g b (step g m i)
    unfolding step_run step step_row length_fits
    step_as i same =
        rw (same, formed, run_good, length-map c.rules (file_rule name c), link_count name es c.rules, row_same test count i.row, weights_as i.row)
        (by_same_test g b (eqb m.position n) _ _ _ _ (λ _. still_as g m b h.begins (Ok Done))
        (λ e. by_same_test g b (fits test count i.row) _ _ _ _ (chosen i e) (λ _. still_as g m b h.begins (Err RowMismatch))))
