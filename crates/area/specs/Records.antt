-- The records of the areas: their widths and limits, their fields in order, their bytes, and how they are read back (01, Areas).
-- Assumes nothing.
use Rattle.std.specs.Prelude.{List, [], ◌∷◌, ℕ, ◌*◌, get_or}
use Rattle.area.specs.declared.State.{State}
use Rattle.area.specs.declared.Rule.{Rule}
use Rattle.area.specs.declared.Expected.{Expected}
use Rattle.area.specs.declared.Fault.{Fault}
use Rattle.area.specs.Bytes.{two, bytes, field_from}

-- ---- bytes of a record (01, Areas: given for states, rules and faults, and two for each field of the others)

abbrev pub state_width : ℕ
state_width = 6

abbrev pub rule_width : ℕ
rule_width = 28

abbrev pub entry_width : ℕ
entry_width = 2

abbrev pub expected_width : ℕ
expected_width = 4

abbrev pub fault_width : ℕ
fault_width = 8

-- ---- the most records of an area (01, Areas)

abbrev pub most_states : ℕ
most_states = 64

abbrev pub most_rules : ℕ
most_rules = 2048

-- of list entries, rewritten bytes, expected names and fault spans, each
abbrev pub most_others : ℕ
most_others = 65535

-- ---- the fields of a record, in order

-- where a state's name starts and ends, and whether it is exclusive (01, Areas, 1)
unfoldable pub state_fields : State → List ℕ
state_fields x = x.start ∷ x.end ∷ x.exclusive ∷ []

-- a rule's id, name, text, list of states and operation (01, Areas, 2)
unfoldable pub rule_fields : Rule → List ℕ
rule_fields x =
    x.has_id ∷ x.id ∷ x.named ∷ x.span_start ∷ x.span_end ∷ x.name_from ∷ x.name_length ∷ x.place
    ∷ x.text_from ∷ x.text_length ∷ x.list_from ∷ x.list_count ∷ x.operation ∷ x.target ∷ []

-- the id of a state (01, Areas, 3)
unfoldable pub entry_fields : ℕ → List ℕ
entry_fields id = id ∷ []

-- where an expected name starts and ends (01, Areas, 5)
unfoldable pub expected_fields : Expected → List ℕ
expected_fields x = x.start ∷ x.end ∷ []

-- a span of a fault: the fault's number and kind, where it starts and ends (01, Areas, 6)
unfoldable pub fault_fields : Fault → List ℕ
fault_fields x = x.number ∷ x.kind ∷ x.start ∷ x.end ∷ []

-- ---- a record as bytes: two for each field (01, the introduction)

abbrev pub state_bytes : State → List ℕ
state_bytes x = bytes two (state_fields x)

abbrev pub rule_bytes : Rule → List ℕ
rule_bytes x = bytes two (rule_fields x)

abbrev pub entry_bytes : ℕ → List ℕ
entry_bytes id = bytes two (entry_fields id)

abbrev pub expected_bytes : Expected → List ℕ
expected_bytes x = bytes two (expected_fields x)

abbrev pub fault_bytes : Fault → List ℕ
fault_bytes x = bytes two (fault_fields x)

-- ---- the record whose field j is f j, in the same order

unfoldable pub state_of : (ℕ → ℕ) → State
state_of f = record { start = f 0; end = f 1; exclusive = f 2 }

unfoldable pub rule_of : (ℕ → ℕ) → Rule
rule_of f = record {
  has_id = f 0;
  id = f 1;
  named = f 2;
  span_start = f 3;
  span_end = f 4;
  name_from = f 5;
  name_length = f 6;
  place = f 7;
  text_from = f 8;
  text_length = f 9;
  list_from = f 10;
  list_count = f 11;
  operation = f 12;
  target = f 13;
}

unfoldable pub expected_of : (ℕ → ℕ) → Expected
expected_of f = record { start = f 0; end = f 1 }

unfoldable pub fault_of : (ℕ → ℕ) → Fault
fault_of f = record { number = f 0; kind = f 1; start = f 2; end = f 3 }

-- ---- record k of an area, read from its bytes (01, Areas)

unfoldable pub state_at : List ℕ → ℕ → State
state_at l k = state_of (field_from l (k * state_width))

unfoldable pub rule_at : List ℕ → ℕ → Rule
rule_at l k = rule_of (field_from l (k * rule_width))

unfoldable pub entry_at : List ℕ → ℕ → ℕ
entry_at l k = field_from l (k * entry_width) 0

unfoldable pub expected_at : List ℕ → ℕ → Expected
expected_at l k = expected_of (field_from l (k * expected_width))

unfoldable pub fault_at : List ℕ → ℕ → Fault
fault_at l k = fault_of (field_from l (k * fault_width))

-- ---- record k of a list; past the end one whose fields are all 0

abbrev pub nth_state : List State → ℕ → State
nth_state xs k = get_or xs k (state_of (λ _. 0))

abbrev pub nth_rule : List Rule → ℕ → Rule
nth_rule xs k = get_or xs k (rule_of (λ _. 0))

abbrev pub nth_entry : List ℕ → ℕ → ℕ
nth_entry xs k = get_or xs k 0

abbrev pub nth_expected : List Expected → ℕ → Expected
nth_expected xs k = get_or xs k (expected_of (λ _. 0))

abbrev pub nth_fault : List Fault → ℕ → Fault
nth_fault xs k = get_or xs k (fault_of (λ _. 0))
