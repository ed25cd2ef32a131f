-- What two inner functions of this crate answer, cut as their code is. No sentence of 01 stands here: those are in Declarations.antt, and
-- `line_decides` (proofs/Words.antt) and `name_declares` (proofs/Declares.antt) say that what is made of these answers is the definition there.
use Rattle.std.specs.Prelude.{ℕ, cond, List, Option, Some, None, Result, Ok, Err, ltb, length}
use Rattle.area.specs.declared.State.{State}
use Rattle.area.specs.Records.{nth_state}
use Rattle.names.specs.Names.{is_state_name, find_state}
use Rattle.fault.specs.declared.Span.{Span}
use Rattle.fault.specs.declared.kinds.LexErrorKind.{LexErrorKind}
use Rattle.fault.specs.declared.kinds.LexErrorKind.TheVariants.{InvalidStartStateName}
use Rattle.declarations.specs.declared.Declaration.{Declaration}
use Rattle.declarations.specs.declared.Declaration.TheVariants.{Expecting, Unknown}
use Rattle.declarations.specs.Declarations.{Range, trimmed, is_inclusive, is_exclusive, is_expecting, states_of}

-- where the name of a state stands
abbrev pub span_of : State → Span
span_of x = record { start = x.start; end = x.end }

-- `declaration_by`: what the line says, from its first word w and its rest r
unfoldable pub declaration_by : List ℕ → Range → Range → Declaration
declaration_by s w r =
    cond (is_inclusive s w) (states_of 0 (trimmed s r))
    (cond (is_exclusive s w) (states_of 1 (trimmed s r))
    (cond (is_expecting s w) (Expecting r.start)
    Unknown))

-- `validate_start_state`: the form of the name from a to e, and the span of the state that has it
unfoldable pub naming_of : List ℕ → ℕ → ℕ → List State → Result (Option Span) LexErrorKind
naming_of s a e xs =
    cond (is_state_name s a e)
    (cond (ltb (find_state s a e xs) (length xs)) (Ok (Some (span_of (nth_state xs (find_state s a e xs))))) (Ok None)) (Err InvalidStartStateName)
