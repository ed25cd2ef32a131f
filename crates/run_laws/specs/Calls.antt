-- A list of step calls on a sheet (01, The run).
use Rattle.std.specs.Prelude.{ℕ, List, [], ◌∷◌}
use Rattle.sheet_check.specs.SheetCheck.{SheetBytes}
use Rattle.run.specs.Run.{Running, Input, StepAnswer, RunLeft, step_call}

-- what they leave, each with the run as the one before it left it
unfoldable pub calls : SheetBytes → Running → List Input → List (RunLeft StepAnswer)
calls b x [] = []
calls b x (i ∷ is) = let o : RunLeft StepAnswer = step_call b x i in o ∷ calls b o.after is

-- P holds of the run before each of them, the first from x on, and of what it left
unfoldable pub EachCall : (Running → RunLeft StepAnswer → Type 0) → Running → List (RunLeft StepAnswer) → Type 0
EachCall P x [] = Unit {0}
EachCall P x (o ∷ os) = P x o × EachCall P o.after os

-- the run that the last of them left, where it was x before
unfoldable pub last_running : Running → List (RunLeft StepAnswer) → Running
last_running x [] = x
last_running x (o ∷ os) = last_running o.after os

abbrev pub last_position : Running → List (RunLeft StepAnswer) → ℕ
last_position x os = (last_running x os).run.position
