-- The fault list: a fault is one or more spans with its number, one after the other (01, Areas, 6).
use Rattle.std.specs.Prelude.{Option, Some, None, Result, Ok, Err, ℕ, ◌+◌, ◌-◌, ◌≡◌, Bool, cond, not, ◌&&◌, ◌||◌, List, [], ◌∷◌, eqb, ltb, length, ◌≤◌, ◌<◌}
use Rattle.std.proofs.Math.Option.{none, some}
use Rattle.std.proofs.Math.Option as Math
use Rattle.characters.specs.Walk.{first, last}
use Rattle.area.specs.declared.Fault.{Fault}
use Rattle.area.specs.declared.AreaName.TheVariants.{Faults}
use Rattle.area.specs.Areas.{room, insert_at, full}
use Rattle.area.specs.Records.{nth_fault, fault_width, most_others}
use Rattle.area.specs.declared.AreaFull.{AreaFull}
use Rattle.area.specs.Contents.{append, fault_format, contents, Held, left_by}

-- the kinds, in the order of LexErrorKind (01, Areas, 6)
abbrev pub PrematureEnd : ℕ
PrematureEnd = 0

abbrev pub RoutinesNotSupported : ℕ
RoutinesNotSupported = 1

abbrev pub UnknownDeclaration : ℕ
UnknownDeclaration = 2

abbrev pub MissingSpace : ℕ
MissingSpace = 3

abbrev pub InvalidName : ℕ
InvalidName = 4

abbrev pub UnknownStartState : ℕ
UnknownStartState = 5

abbrev pub DuplicateStartState : ℕ
DuplicateStartState = 6

abbrev pub InvalidStartState : ℕ
InvalidStartState = 7

abbrev pub InvalidStartStateName : ℕ
InvalidStartStateName = 8

abbrev pub DuplicateName : ℕ
DuplicateName = 9

abbrev pub RegexError : ℕ
RegexError = 10

abbrev pub VerbatimNotSupported : ℕ
VerbatimNotSupported = 11

abbrev pub fault : ℕ → ℕ → ℕ → ℕ → Fault
fault n kind a e = record { number = n; kind = kind; start = a; end = e }

-- the number of the next fault: one above that of the last span
unfoldable pub next_number : List Fault → ℕ
next_number fs = cond (eqb (length fs) 0) 0 ((nth_fault fs (length fs - 1)).number + 1)

-- a fault of one span behind the others, in an area of cap bytes
unfoldable pub add_fault : ℕ → ℕ → ℕ → ℕ → List Fault → Math.Option (List Fault)
add_fault cap kind a e fs = append fault_format cap (fault (next_number fs) kind a e ∷ []) fs

-- the span j is the first of its fault
unfoldable pub starts_fault : List Fault → ℕ → Bool
starts_fault fs j = eqb j 0 || not (eqb (nth_fault fs (j - 1)).number (nth_fault fs j).number)

-- the span j starts a fault of the kind, and goes from a to e
unfoldable pub is_fault : List Fault → ℕ → ℕ → ℕ → ℕ → Bool
is_fault fs kind a e j =
    eqb (nth_fault fs j).kind kind && (eqb (nth_fault fs j).start a && (eqb (nth_fault fs j).end e && starts_fault fs j))

-- the fault of the kind whose first span goes from a to e, as the number of that span; the number of spans where there is none
unfoldable pub find_fault : List Fault → ℕ → ℕ → ℕ → ℕ
find_fault fs kind a e = first (is_fault fs kind a e) 0 (length fs)

-- behind a position, or at the start where there is none
abbrev pub behind : Option ℕ → ℕ
behind (Some p) = p + 1
behind None = 0

-- behind the last span of the fault of a number
unfoldable pub fault_end : List Fault → ℕ → ℕ
fault_end fs n = behind (last (λ j. eqb (nth_fault fs j).number n) 0 (length fs))

-- a span more, from a to e, of the fault that the span j starts, after its last one; the records behind move up (01, Areas)
unfoldable pub add_span : ℕ → ℕ → ℕ → ℕ → List Fault → Math.Option (List Fault)
add_span cap j a e fs =
    cond (room fault_width most_others cap (length fs) 1)
    (some (insert_at (fault_end fs (nth_fault fs j).number) (fault (nth_fault fs j).number (nth_fault fs j).kind a e) fs)) none

-- a fault of two spans: that of the name at first, from c to d, and that of its first repeat, from a to e (01, Areas)
unfoldable pub add_pair : ℕ → ℕ → ℕ → ℕ → ℕ → ℕ → List Fault → Math.Option (List Fault)
add_pair cap kind c d a e fs =
    append fault_format cap (fault (next_number fs) kind c d ∷ fault (next_number fs) kind a e ∷ []) fs

-- the name from c to d is repeated from a to e; j is the first span of its fault, or the number of spans where there is none
unfoldable pub repeat_at : ℕ → ℕ → ℕ → ℕ → ℕ → ℕ → ℕ → List Fault → Math.Option (List Fault)
repeat_at cap kind c d a e j fs = cond (ltb j (length fs)) (add_span cap j a e fs) (add_pair cap kind c d a e fs)

-- a name repeated (01, Areas)
unfoldable pub add_repeat : ℕ → ℕ → ℕ → ℕ → ℕ → ℕ → List Fault → Math.Option (List Fault)
add_repeat cap kind c d a e fs = repeat_at cap kind c d a e (find_fault fs kind c d) fs

-- no span has a number above its place: so the next fault's number fits a field
pub record Numbered (fs : List Fault) : Type 0 where
  pub low : (j : ℕ) → j < length fs → (nth_fault fs j).number ≤ j

-- the area holds n spans, and their numbers are low
pub record HeldFaults (l : List ℕ) (n : ℕ) : Type 0 where
  pub held : Held fault_format l n
  pub numbered : Numbered (contents fault_format l n)

-- f of the n spans of the area l stands in the area e, which has as many bytes, and their numbers are low: r is how many they are, or that the
-- area is full where f gives none
pub record GrowsFaults (f : List Fault → Math.Option (List Fault)) (l : List ℕ) (n : ℕ) (r : Result ℕ AreaFull) (e : List ℕ) : Type 0 where
  pub says : f (contents fault_format l n) ≡ left_by fault_format e r
  pub held : (m : ℕ) → r ≡ Ok m → HeldFaults e m
  pub names : (x : AreaFull) → r ≡ Err x → x ≡ full Faults
  pub long : length e ≡ length l
