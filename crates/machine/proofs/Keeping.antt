-- What holds of the machine and its stack's bytes before each call: the run is sound, and the bytes begin with the machine's stack. So the current
-- state is the machine's, and what a call leaves holds it again where the call leaves what the machine does.
use mathlib.Core.Path.{◌≡◌, ap, ◌∙◌}
use mathlib.Core.List.{List}
use Prim.Native.Nat.{ℕ, ◌-◌}
use native.Mathlib.Omega.{arith}
use lib.ListN.{length}
use Rattle.area.specs.Records.{entry_at}
use Rattle.run.specs.Run.{Running, running, current}
use Rattle.run.proofs.Fitting.{GoodNumbers, run_is, depth_inside}
use Rattle.run_laws.specs.Always.{SoundRun}
use Rattle.machine.specs.Machine.{Given, Machine, current_state}
use Rattle.machine.proofs.Laid.{stack_as, running_as}
use Rattle.machine.specs.Demand.{run_as}
use Rattle.machine.proofs.Stacks.{Begins, laid_again, laid_begins, laid_read}

-- of a run with the machine's kind and n, over a stack of so many bytes
abbrev pub SoundAs : Given → ℕ → Running → Type 0
SoundAs g size x = SoundRun (length g.file.states) g.kind g.n size x

-- of the machine m over the stack's bytes b, as many as size
pub record Runs (g : Given) (size : ℕ) (m : Machine) (b : List ℕ) : Type 0 where
  pub sound : SoundAs g size (running (run_as g m) b)
  pub begins : Begins m.stack b

-- its numbers
numbers_as : (g : Given) (size : ℕ) (m : Machine) (b : List ℕ) → SoundAs g size (running (run_as g m) b) → GoodNumbers (run_as g m) (length b)
numbers_as g size m b s = run_is (length g.file.states) (run_as g m) b s.good

module _ (g : Given) (size : ℕ) (m : Machine) (b : List ℕ) (h : Runs g size m b) where
  pub numbers : GoodNumbers (run_as g m) (length b)
  numbers = numbers_as g size m b h.sound

  pub current_as : current (running (run_as g m) b) ≡ current_state m.stack
  current_as =
      ap (λ (l : List ℕ). entry_at l (length m.stack - 1)) (laid_again m.stack b h.begins)
      ∙ laid_read b m.stack (length m.stack - 1) (omega (arith, numbers.some_depth))

  pub next_runs : (next : Machine) → SoundAs g size (running_as g b next) → Runs g size next (stack_as b next)
  next_runs next s =
      let inside = depth_inside (run_as g next) (length (stack_as b next)) (numbers_as g size next (stack_as b next) s) in
      record { sound = s; begins = laid_begins b next.stack (omega (arith, inside, s.same_bytes, h.sound.same_bytes)) }
