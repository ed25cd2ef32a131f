-- A run over the bytes of its stack as the machine has it.
use Prim.Native.Nat.{ℕ}
use mathlib.Core.List.{List}
use Rattle.area.specs.Contents.{entry_format, relaid}
use Rattle.run.specs.Run.{StepAnswer, Running, running, RunLeft, leaving}
use Rattle.machine.specs.Machine.{Given, Machine, Answered}
use Rattle.machine.specs.Demand.{run_as}

-- the first entries are that stack in order; the bytes behind them are those that were there
abbrev pub stack_as : List ℕ → Machine → List ℕ
stack_as s m = relaid entry_format s m.stack

-- both, where the stack's bytes were s
abbrev pub running_as : Given → List ℕ → Machine → Running
running_as g s m = running (run_as g m) (stack_as s m)

-- what a call leaves whose answer and run are the machine's, where the stack's bytes were s
abbrev pub left_as : Given → List ℕ → Answered → RunLeft StepAnswer
left_as g s o = leaving o.answer (running_as g s o.machine)
