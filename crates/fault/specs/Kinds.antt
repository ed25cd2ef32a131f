-- The number of each kind of fault, in the order of LexErrorKind (01, Areas, 6), and the fault of a kind.
use Rattle.std.specs.Prelude.{ℕ}
use Rattle.fault.specs.declared.kinds.LexError.{LexError}
use Rattle.fault.specs.declared.kinds.LexErrorKind.{LexErrorKind}
use Rattle.fault.specs.declared.kinds.LexErrorKind.TheVariants as K

-- the number of a kind (01, Areas, 6)
abbrev pub kind_number : LexErrorKind → ℕ
kind_number K.PrematureEnd = 0
kind_number K.RoutinesNotSupported = 1
kind_number K.UnknownDeclaration = 2
kind_number K.MissingSpace = 3
kind_number K.InvalidName = 4
kind_number K.UnknownStartState = 5
kind_number K.DuplicateStartState = 6
kind_number K.InvalidStartState = 7
kind_number K.InvalidStartStateName = 8
kind_number K.DuplicateName = 9
kind_number K.RegexError = 10
kind_number K.VerbatimNotSupported = 11

-- a fault of a kind at a place
abbrev pub error_at : LexErrorKind → ℕ → LexError
error_at kind at = record { kind = kind; at = at }
