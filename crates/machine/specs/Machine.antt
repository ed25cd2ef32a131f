-- The run machine (01, The run machine; 02, 2/13 and 3/13). It is given a file's states and rules, a map, the kind of caller, the limit of n, n and the
-- entry's text, and reads neither sheet nor run.
use Rattle.std.specs.Prelude.{ℕ, ◌+◌, ◌*◌, ◌-◌, Bool, true, false, cond, not, ◌&&◌, ◌||◌, List, [], ◌∷◌, ◌++◌, eqb, ltb, leb, length, get_or, take, Ok, Err}
use Rattle.std.proofs.Math.Option.{Option, none, some}
use Rattle.characters.specs.Utf8.{is_edge}
use Rattle.text.specs.Range.{same_bytes}
use Rattle.area.specs.Lists.{all}
use Rattle.name_map.specs.Map.{Entry}
use Rattle.run.specs.declared.StepError.TheVariants.{RowMismatch}
use Rattle.run.specs.declared.Step.TheVariants.{Done, Stopped, Unlinked, Skip, Token}
use Rattle.run.specs.Run.{StepAnswer, Input}
use Rattle.machine.specs.File.{Operation, keep, replace, push, pop, FileState, FileRule, File}

-- ---- what it is given, and what it holds

-- for a whole run; the limit is the greatest n that a start accepts of this kind of caller, and no step reads kind or limit
pub record Given : Type 0 where
  pub file : File
  pub map : List Entry
  pub kind : ℕ
  pub limit : ℕ
  pub n : ℕ
  pub text : List ℕ

-- the last of the stack is the current state
pub record Machine : Type 0 where
  pub position : ℕ
  pub moves : ℕ
  pub stack : List ℕ

-- at first position and moves are 0, and the stack is state 0 alone
abbrev pub fresh : Machine
fresh = record { position = 0; moves = 0; stack = 0 ∷ [] }

-- the last id of the stack
abbrev pub current_state : List ℕ → ℕ
current_state st = get_or st (length st - 1) 0

-- ---- a row

-- two bytes for each length, the low one first
unfoldable pub lengths : List ℕ → List ℕ
lengths [] = []
lengths (low ∷ []) = []
lengths (low ∷ high ∷ row) = (low + high * 256) ∷ lengths row

-- a length is not above what is left, and position plus length is at the edge of a character of the text (02, 2/13)
abbrev pub fits_here : Given → Machine → ℕ → Bool
fits_here g m l = leb l (g.n - m.position) && is_edge g.text (m.position + l)

-- two bytes for each rule, and each length passes the test
unfoldable pub fits : (ℕ → Bool) → ℕ → List ℕ → Bool
fits test rules row = eqb (length row) (rules * 2) && all test (lengths row)

-- ---- the winner

-- one of the ids is this one
unfoldable pub has : List ℕ → ℕ → Bool
has [] id = false
has (x ∷ xs) id = eqb x id || has xs id

-- a rule without a list
unfoldable pub is_empty : List ℕ → Bool
is_empty [] = true
is_empty (x ∷ xs) = false

-- the state of an id is exclusive
abbrev pub is_exclusive : List FileState → ℕ → Bool
is_exclusive states id = (get_or states id (record { exclusive = false })).exclusive

-- its list has the state, or is empty and the state is not exclusive
unfoldable pub is_live : List FileState → ℕ → FileRule → Bool
is_live states state x = has x.list state || (is_empty x.list && not (is_exclusive states state))

-- a rule, and its length in the row
pub record Winner : Type 0 where
  pub rule : FileRule
  pub bytes : ℕ

-- a rule that wins by so many bytes
abbrev pub winner : FileRule → ℕ → Winner
winner x l = record { rule = x; bytes = l }

-- a live rule before others wins unless one of them is longer
unfoldable pub first_or_longer : FileRule → ℕ → Option Winner → Option Winner
first_or_longer x l none = some (winner x l)
first_or_longer x l (some w) = cond (ltb l w.bytes) (some w) (some (winner x l))

-- the greatest length among live rules, the earlier rule at a tie
unfoldable pub winner_of : List FileState → ℕ → List FileRule → List ℕ → Option Winner
winner_of states state [] ls = none
winner_of states state (x ∷ xs) [] = none
winner_of states state (x ∷ xs) (l ∷ ls) =
    let w = winner_of states state xs ls in
    cond (is_live states state x) (first_or_longer x l w) w

-- ---- a step

-- the id of the entry with that name
unfoldable pub id_in : List Entry → List ℕ → Option ℕ
id_in [] name = none
id_in (e ∷ es) name = cond (same_bytes e.name name) (some e.id) (id_in es name)

-- an emptied stack becomes state 0 alone
abbrev pub or_initial : List ℕ → List ℕ
or_initial [] = 0 ∷ []
or_initial (x ∷ xs) = x ∷ xs

-- replace leaves the target alone, push adds it at the end, pop drops the last; an emptied stack becomes state 0 alone
unfoldable pub operate : Operation → List ℕ → List ℕ
operate keep st = st
operate (replace target) st = target ∷ []
operate (push target) st = st ++ (target ∷ [])
operate pop st = or_initial (take (length st - 1) st)

-- position grows by the length, moves by 1, and the stack goes by the winner's operation
unfoldable pub move : Winner → Machine → Machine
move w m = record { position = m.position + w.bytes; moves = m.moves + 1; stack = operate w.rule.operation m.stack }

-- an answer, and what the machine holds then
pub record Answered : Type 0 where
  pub answer : StepAnswer
  pub machine : Machine

-- the record of these
abbrev pub answered : StepAnswer → Machine → Answered
answered a m = record { answer = a; machine = m }

-- a named winner: a token with the map's id, or 'unlinked', which changes nothing
unfoldable pub token : Option ℕ → Winner → Machine → Answered
token none w m = answered (Ok Unlinked) m
token (some id) w m = answered (Ok (Token id m.position w.bytes)) (move w m)

-- a skip by a winner without a name
unfoldable pub wins : Given → Option (List ℕ) → Winner → Machine → Answered
wins g none w m = answered (Ok Skip) (move w m)
wins g (some name) w m = token (id_in g.map name) w m

-- 'stopped' where no rule is live or the greatest length is 0, which changes nothing
unfoldable pub chooses : Given → Option Winner → Machine → Answered
chooses g none m = answered (Ok Stopped) m
chooses g (some w) m = cond (eqb w.bytes 0) (answered (Ok Stopped) m) (wins g w.rule.name w m)

-- 'done' at n; 10 where the row does not fit; both change nothing; else by the winner
unfoldable pub step : Given → Machine → Input → Answered
step g m i =
    let f = g.file in
    cond (eqb m.position g.n) (answered (Ok Done) m)
    (cond (fits (fits_here g m) (length f.rules) i.row)
    (chooses g (winner_of f.states (current_state m.stack) f.rules (lengths i.row)) m)
    (answered (Err RowMismatch) m))
