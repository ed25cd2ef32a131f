-- An accepted start leaves the first run, which is good beside any state.
use mathlib.Core.Path.{◌≡◌, refl, ap, subst}
use mathlib.Core.Bool.{Bool, true, false, cond}
use mathlib.Core.List.{List}
use Prim.Native.Nat.{ℕ, ◌≤◌, ◌<◌}
use native.Mathlib.Omega.{arith}
use borrow.Author.Tests.{leb-true}
use lib.ListN.{length}
use Rattle.std.proofs.lemmas.Bool.{and_parts}
use Rattle.area.specs.Records.{entry_at}
use Rattle.input_check.specs.InputCheck.{good_text}
use Rattle.std.specs.Prelude.{is_some}
use Rattle.run.specs.Run.{kiosk, most_kiosk_bytes, limit, within_limit, start_accepted, start_unknown_caller, start_refused, start_text_mismatch}
use Rattle.run.specs.Run.{Running, running, leaving, stack_bytes}
use Rattle.run.specs.Run.{put_state, first_run, good_start, good_run, start_call, start_fields, start_word}
use Rattle.run_laws.proofs.Stacks.{put_length, put_same}
use Rattle.run_laws.proofs.Operated.{run_good}

module _ (kind n : ℕ) (text : List ℕ) (x : Running) (started : (start_call kind n text x).answer ≡ start_accepted) where
  -- the run that it leaves
  abbrev first : Running
  first = running (first_run kind n) (put_state x.stack 0 0)

  start_tests : (is_some (limit kind) ≡ true) × (good_start kind n x.stack ≡ true) × (good_text n text ≡ true)
  unfolding start_call start_fields
  start_tests = go (is_some (limit kind)) (good_start kind n x.stack) (good_text n text) started
    where
      go : (k t u : Bool)
          → (cond k (cond t (cond u (leaving start_accepted first) (leaving start_text_mismatch x)) (leaving start_refused x))
          (leaving start_unknown_caller x)).answer
          ≡ start_accepted
          → (k ≡ true) × (t ≡ true) × (u ≡ true)
      go true true true e = (refl, refl, refl)
      go true true false e = absurd (omega (arith, ap start_word e))
      go true false u e = absurd (omega (arith, ap start_word e))
      go false t u e = absurd (omega (arith, ap start_word e))

  start_good : good_start kind n x.stack ≡ true
  start_good = start_tests.1

  -- the text has n bytes and is well formed
  pub start_text : good_text n text ≡ true
  start_text = start_tests.2

  pub start_limited : within_limit (limit kind) n ≡ true
  unfolding good_start
  start_limited = (and_parts (within_limit (limit kind) n) _ start_good).0

  pub start_kiosk : kind ≡ kiosk → n ≤ most_kiosk_bytes
  unfolding limit within_limit
  start_kiosk is = leb-true n most_kiosk_bytes (subst (λ (k : ℕ). within_limit (limit k) n ≡ true) is start_limited)

  pub start_long : stack_bytes n ≤ length x.stack
  unfolding good_start
  start_long = leb-true (stack_bytes n) (length x.stack) (and_parts (within_limit (limit kind) n) _ start_good).1

  pub start_left : start_call kind n text x ≡ leaving start_accepted first
  unfolding start_call
  start_left = rw (start_tests.0, start_good, start_text) refl

  pub first_good : (states : ℕ) → 0 < states → good_run states first ≡ true
  first_good states some =
      run_good states first
      (record {
        limited = start_limited;
        inside = omega arith;
        some_depth = omega arith;
        low_depth = omega arith;
        few_moves = omega arith;
        long = omega (arith, start_long, put_length x.stack 0 0);
      })
      (λ k l.
      let z : k ≡ 0 = omega arith in
      omega (arith, some, ap (entry_at (put_state x.stack 0 0)) z, put_same x.stack 0 0 (omega (arith, start_long))))
