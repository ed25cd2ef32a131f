-- A list of calls by what holds of one: an invariant of the run that a step call keeps holds after each of them.
use mathlib.Core.List.{List, [], ◌∷◌}
use Rattle.sheet_check.specs.SheetCheck.{SheetBytes}
use Rattle.run.specs.Run.{StepAnswer, Running, Input, RunLeft, step_call}
use Rattle.run_laws.specs.Calls.{calls, EachCall, last_running}

module _ (b : SheetBytes) (P : Running → Type 0) (keeps : (x : Running) (i : Input) → P x → P (step_call b x i).after) where
  -- what holds of one call from a run that has the invariant holds of each
  pub calls_each : (Q : Running → RunLeft StepAnswer → Type 0) → ((x : Running) (i : Input) → P x → Q x (step_call b x i))
      → (is : List Input) (x : Running) → P x → EachCall Q x (calls b x is)
  unfolding calls EachCall
  calls_each Q says [] x h = tt
  calls_each Q says (i ∷ is) x h = (says x i h, calls_each Q says is (step_call b x i).after (keeps x i h))

  -- the invariant holds after each
  pub calls_keep : (is : List Input) (x : Running) → P x → EachCall (λ _ o. P o.after) x (calls b x is)
  calls_keep = calls_each (λ _ o. P o.after) keeps

  -- and so after the last
  pub calls_last : (is : List Input) (x : Running) → P x → P (last_running x (calls b x is))
  unfolding calls last_running
  calls_last [] x h = h
  calls_last (i ∷ is) x h = calls_last is (step_call b x i).after (keeps x i h)
