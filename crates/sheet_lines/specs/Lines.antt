-- The lines of a sheet and of a refusal (01, Files to try, the end; the words are ASCII).
use Rattle.std.specs.Prelude.{ℕ, cond, List, [], ◌∷◌, ◌++◌, eqb}
use Rattle.answers.specs.Numbers.{area_full_number}
use Rattle.text.specs.Range.{part}
use Rattle.area.specs.declared.State.{State}
use Rattle.area.specs.declared.Rule.{Rule}
use Rattle.area.specs.declared.Fault.{Fault}
use Rattle.area.specs.Records.{rule_fields, fault_fields, state_at, rule_at, fault_at}
use Rattle.output.specs.Output.{joined, newline, printed_field, printed_fields}

-- ---- the words that lines start with, and the name of state 0

abbrev pub state_word : List ℕ
state_word = 115 ∷ 116 ∷ 97 ∷ 116 ∷ 101 ∷ []

abbrev pub rule_word : List ℕ
rule_word = 114 ∷ 117 ∷ 108 ∷ 101 ∷ []

abbrev pub fault_word : List ℕ
fault_word = 102 ∷ 97 ∷ 117 ∷ 108 ∷ 116 ∷ []

abbrev pub refused_word : List ℕ
refused_word = 114 ∷ 101 ∷ 102 ∷ 117 ∷ 115 ∷ 101 ∷ 100 ∷ []

abbrev pub initial_name : List ℕ
initial_name = 73 ∷ 78 ∷ 73 ∷ 84 ∷ 73 ∷ 65 ∷ 76 ∷ []

-- ---- lines

-- the name of state k: `INITIAL`, or what stands at its span
unfoldable pub state_name : List ℕ → ℕ → ℕ → ℕ → List ℕ
state_name s k start end = cond (eqb k 0) initial_name (part s start end)

-- `state`, id, name
unfoldable pub state_head : List ℕ → ℕ → ℕ → ℕ → List ℕ
state_head s k start end = state_word ++ printed_field k ++ (32 ∷ []) ++ state_name s k start end

-- the same, then exclusive, start, end
unfoldable pub state_line : List ℕ → ℕ → State → List ℕ
state_line s k x =
    state_head s k x.start x.end ++ printed_field x.exclusive ++ printed_field x.start ++ printed_field x.end ++ newline

-- `rule`, position, the 14 fields
unfoldable pub rule_line : ℕ → Rule → List ℕ
rule_line k x = rule_word ++ printed_field k ++ printed_fields (rule_fields x) ++ newline

-- `fault`, the 4 fields
unfoldable pub fault_line : Fault → List ℕ
fault_line x = fault_word ++ printed_fields (fault_fields x) ++ newline

-- `refused`, the number
unfoldable pub refused_head : ℕ → List ℕ
refused_head number = refused_word ++ printed_field number

unfoldable pub refused_line : ℕ → List ℕ
refused_line number = refused_head number ++ newline

-- the same of a full area: its number too
unfoldable pub full_line : ℕ → List ℕ
full_line area = refused_head area_full_number ++ printed_field area ++ newline

-- ---- the records of an area, from its bytes

-- the states that area 1 holds
unfoldable pub state_lines : List ℕ → List ℕ → ℕ → List ℕ
state_lines s l1 count = joined (λ k. state_line s k (state_at l1 k)) count

-- the rules that area 2 holds
unfoldable pub rule_lines : List ℕ → ℕ → List ℕ
rule_lines l2 count = joined (λ k. rule_line k (rule_at l2 k)) count

-- the fault spans that area 6 holds
unfoldable pub fault_lines : List ℕ → ℕ → List ℕ
fault_lines l6 count = joined (λ k. fault_line (fault_at l6 k)) count

-- the states, then the rules
unfoldable pub sheet_lines : List ℕ → List ℕ → ℕ → List ℕ → ℕ → List ℕ
sheet_lines s l1 states l2 rules = state_lines s l1 states ++ rule_lines l2 rules
