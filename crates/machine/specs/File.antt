-- What the run machine has of a file: its states and its rules, by the file's meaning alone (01, The run machine).
use Rattle.std.specs.Prelude.{ℕ, ◌+◌, ◌*◌, Bool, cond, List, [], ◌∷◌, map, eqb}
use Rattle.std.proofs.Math.Option.{Option, none, some}
use Rattle.text.specs.Range.{part}
use Rattle.area.specs.declared.State.{State}
use Rattle.area.specs.declared.Rule.{Rule}
use Rattle.section.specs.Request.{Request}
use Rattle.parse.specs.Parse.{Contents, Outcome, long_file, unknown_flag, invalid_utf8, area_full, faulty, accepted}
use Rattle.parsed_sheet.specs.Meaning.{meaning}
use Rattle.name_map.specs.Map.{Entry, entry}

-- what a rule does to the stack: nothing, leave a state alone on it, add one at the end, drop the last
pub data Operation : Type 0 where
  keep : Operation
  replace : ℕ → Operation
  push : ℕ → Operation
  pop : Operation

-- what the machine asks of a state
pub record FileState : Type 0 where
  pub exclusive : Bool

-- the bytes of a rule's name, none if it has no name; the ids of its states, none if it has no list
pub record FileRule : Type 0 where
  pub name : Option (List ℕ)
  pub list : List ℕ
  pub operation : Operation

-- the id of a state is its place
pub record File : Type 0 where
  pub states : List FileState
  pub rules : List FileRule

-- ---- from the records of a sheet (01, Areas, 1 to 3)

-- exclusive is the mark 1
abbrev pub file_state : State → FileState
file_state x = record { exclusive = eqb x.exclusive 1 }

-- 1 replace, 2 push, 3 pop, else none
unfoldable pub operation_by : ℕ → ℕ → Operation
operation_by number target = cond (eqb number 1) (replace target) (cond (eqb number 2) (push target) (cond (eqb number 3) pop keep))

-- the bytes of a rule's name stand in the source
unfoldable pub name_at : List ℕ → Rule → List ℕ
name_at s x = part s x.name_from (x.name_from + x.name_length)

-- by the name of each rule
module _ (name : Rule → List ℕ) where
  -- the name of a named rule
  unfoldable pub name_from : Rule → Option (List ℕ)
  name_from x = cond (eqb x.named 1) (some (name x)) none

  -- a rule with its own list of states
  abbrev pub file_rule : Contents → Rule → FileRule
  file_rule c x = record {
    name = name_from x;
    list = part c.lists x.list_from (x.list_from + x.list_count);
    operation = operation_by x.operation x.target;
  }

  -- all states and all rules
  abbrev pub file_in : Contents → File
  file_in c = record { states = map file_state c.states; rules = map (file_rule c) c.rules }

-- a file that is not accepted has none
abbrev pub file_by : List ℕ → Outcome → File
file_by s (accepted c) = file_in (name_at s) c
file_by s long_file = record { states = []; rules = [] }
file_by s unknown_flag = record { states = []; rules = [] }
file_by s invalid_utf8 = record { states = []; rules = [] }
file_by s (area_full name) = record { states = []; rules = [] }
file_by s (faulty fs) = record { states = []; rules = [] }

-- ---- a map

-- two bytes, the low one first
abbrev pub number : ℕ → ℕ → ℕ
number low high = low + high * 256

-- six bytes an entry: where its name starts in the names, how long it is, and its id (01, Linking)
unfoldable pub map_of : List ℕ → List ℕ → List Entry
map_of names [] = []
map_of names (a ∷ []) = []
map_of names (a ∷ b ∷ []) = []
map_of names (a ∷ b ∷ c ∷ []) = []
map_of names (a ∷ b ∷ c ∷ d ∷ []) = []
map_of names (a ∷ b ∷ c ∷ d ∷ e ∷ []) = []
map_of names (a ∷ b ∷ c ∷ d ∷ e ∷ f ∷ entries) =
    entry (part names (number a b) (number a b + number c d)) (number e f) ∷ map_of names entries

-- ---- the file

-- the states and rules of the file that a parse is asked for, with its flags and verdicts
unfoldable pub file_of : Request → File
file_of q = file_by q.source (meaning q)
