-- What the contracts of the code speak of: what a function may rely on.
use Rattle.std.specs.Prelude.{ℕ, ◌+◌, ◌*◌, ◌-◌, ◌≤◌, Bool, leb}
use Rattle.area.specs.Records.{entry_width}
use Rattle.run.specs.declared.Run.{Run}
use Rattle.run.specs.declared.LentInput.{LentInput}
use Rattle.run.specs.Run.{Input, input, most_bytes, moves_of}

-- what a step is given beside the sheet and the run, as it is lent
abbrev pub lent_input : LentInput → Input
lent_input i = input i.text.now i.row.now

-- a length is not above the bytes that are left
abbrev pub within_left : Run → ℕ → Bool
within_left r l = leb l (r.n - r.position)

-- a stack of so many bytes is not empty and has room for a push
pub record HasRoom (r : Run) (space : ℕ) : Type 0 where
  pub some_depth : 1 ≤ r.depth
  pub low_depth : r.depth ≤ most_bytes
  pub room : r.depth * entry_width + entry_width ≤ space

-- a move by so many bytes stays inside the entry, and its operation inside the stack
pub record Inside (r : Run) (bytes space : ℕ) : Type 0 where
  pub stack : HasRoom r space
  pub position : r.position + bytes ≤ most_bytes
  pub moves : moves_of r ≤ most_bytes
