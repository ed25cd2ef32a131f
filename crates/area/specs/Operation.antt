-- What a rule does with the stack of states: its number, and what a field of any number says.
use Rattle.std.specs.Prelude.{ℕ, ◌≡◌, Option, Some, None}
use Rattle.area.specs.declared.StartStateOperation.{StartStateOperation}
use Rattle.area.specs.declared.StartStateOperation.TheVariants.{ReplaceStack, Push, Pop}

-- 1 replace, 2 push, 3 pop (01, Areas, 2)
abbrev pub operation_number : StartStateOperation → ℕ
operation_number ReplaceStack = 1
operation_number Push = 2
operation_number Pop = 3

-- what a name says of the field, and what it says that there is none
abbrev pub OperationIs : ℕ → Option StartStateOperation → Type 0
OperationIs field (Some ReplaceStack) = field ≡ 1
OperationIs field (Some Push) = field ≡ 2
OperationIs field (Some Pop) = field ≡ 3
OperationIs field None = (field ≡ 1 → ⊥) × (field ≡ 2 → ⊥) × (field ≡ 3 → ⊥)
