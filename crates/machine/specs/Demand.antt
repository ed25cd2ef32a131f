-- Demand 3: one statement about a whole list of step calls, from an accepted parse, an accepted link and an accepted start, each step given the text of
-- the start. Where the link's map holds all rule names no answer is 'unlinked'; all else holds of any map (01, The run machine; 02, 2/13 and 3/13).
use Rattle.std.specs.Prelude.{ℕ, ◌+◌, ◌*◌, ◌/◌, ◌%◌, ◌≤◌, ◌<◌, ◌≡◌, cond, List, [], ◌∷◌, ltb, length, get_or, Some, unwrap_or, Ok, Err}
use Rattle.std.proofs.Math.Option.{Option, none, some}
use Rattle.std.proofs.Math.ListN.{get_elem?}
use Rattle.section.specs.Request.{Request}
use Rattle.parse.specs.Parse.{Caps, parse_accepted, parse_call}
use Rattle.sheet_check.specs.SheetCheck.{SheetBytes, sheet_bytes}
use Rattle.parsed_sheet.specs.Accepted.{sheet_left_by}
use Rattle.name_map.specs.Map.{Entry}
use Rattle.link.specs.Link.{linked_answer, LinkLeft, link_call}
use Rattle.input_check.specs.InputCheck.{EdgeOf}
use Rattle.run.specs.declared.StepError.TheVariants.{BrokenSheet, TextMismatch, BrokenRun}
use Rattle.run.specs.declared.Step.TheVariants.{Unlinked}
use Rattle.run.specs.declared.Run.{Run}
use Rattle.run.specs.Run.{StartAnswer, start_accepted, StepAnswer, kiosk, most_kiosk_bytes, limit, Running, Input, RunLeft, start_call}
use Rattle.run_laws.specs.Calls.{calls, last_position}
use Rattle.run_laws.specs.Pieces.{Piece, pieces, Adjoin, covered}
use Rattle.machine.specs.File.{FileRule, File, map_of, file_of}
use Rattle.machine.specs.Machine.{Given, Machine, fresh, current_state, answered, step}
use Rattle.machine.specs.Means.{EntryOf, Means}

-- ---- a run as the machine has it

abbrev pub or_else : Option ℕ → Option ℕ → Option ℕ
or_else none q = q
or_else (some v) q = some v

-- the last id held at the place p, by the stacks held, the newest first
unfoldable pub last_held : ℕ → List (List ℕ) → Option ℕ
last_held p [] = none
last_held p (st ∷ held) = or_else (get_elem? st p) (last_held p held)

-- the two bytes at the place p of the stack: the id held there last, or as they were in s, the stack before the start call
abbrev pub PlaceHolds : Option ℕ → ℕ → List ℕ → List ℕ → Type 0
PlaceHolds none p s b = (get_or b (p * 2) 0 ≡ get_or s (p * 2) 0) × (get_or b (p * 2 + 1) 0 ≡ get_or s (p * 2 + 1) 0)
PlaceHolds (some v) p s b = (get_or b (p * 2) 0 ≡ v % 256) × (get_or b (p * 2 + 1) 0 ≡ v / 256)

-- a run's numbers as the machine has them: n, position and moves are equal, depth is the length of its stack, and the kind is that of the start
abbrev pub run_as : Given → Machine → Run
run_as g m = record { n = g.n; position = m.position; depth = length m.stack; moves = m.moves; kind = g.kind }

-- the run x and its stack's bytes are as the machine has them, which held these stacks before; the current state is declared, and the position is at
-- the edge of a character
pub record AsMachine (g : Given) (m : Machine) (held : List (List ℕ)) (s : List ℕ) (x : Running) : Type 0 where
  pub run : x.run ≡ run_as g m
  pub places : (p : ℕ) → PlaceHolds (last_held p (m.stack ∷ held)) p s x.stack
  pub size : length x.stack ≡ length s
  pub declared : current_state m.stack < length g.file.states
  pub edge : EdgeOf g.text m.position

-- ---- each call

-- the map has an entry for the name of each named rule
pub record MapHolds (f : File) (es : List Entry) : Type 0 where
  pub holds : (k : ℕ) (x : FileRule) (name : List ℕ) → get_elem? f.rules k ≡ some x → x.name ≡ some name → (id : ℕ) × EntryOf es name id

-- the answer is none of 6, 9 and 12, nor 'unlinked' where the map holds all rule names
pub record Allowed (g : Given) (a : StepAnswer) : Type 0 where
  pub not_6 : a ≡ Err BrokenSheet → ⊥
  pub not_9 : a ≡ Err BrokenRun → ⊥
  pub not_12 : a ≡ Err TextMismatch → ⊥
  pub not_unlinked : MapHolds g.file g.map → a ≡ Ok Unlinked → ⊥

-- a call that left o: its answer is the machine's; this and what the machine holds then mean what they should, and nothing else would; and the run
-- and the stack's bytes are as the machine has them
pub record Call (g : Given) (s : List ℕ) (m : Machine) (held : List (List ℕ)) (i : Input) (o : RunLeft StepAnswer) : Type 0 where
  pub answer : o.answer ≡ (step g m i).answer
  pub means : Means g m i (step g m i).answer (step g m i).machine
  pub only : (a : StepAnswer) (next : Machine) → Means g m i a next → answered a next ≡ step g m i
  pub allowed : Allowed g o.answer
  pub leaves : AsMachine g (step g m i).machine (m.stack ∷ held) s o.after

-- each of the calls, the machine going along
unfoldable pub Follows : Given → List ℕ → Machine → List (List ℕ) → List Input → List (RunLeft StepAnswer) → Type 0
Follows g s m held [] [] = Unit {0}
Follows g s m held [] (o ∷ os) = ⊥
Follows g s m held (i ∷ is) [] = ⊥
Follows g s m held (i ∷ is) (o ∷ os) = Call g s m held i o × Follows g s (step g m i).machine (m.stack ∷ held) is os

-- ---- the demand

-- each piece starts at the edge of a character and ends at one, so that its bytes are whole characters (02, 2/13)
unfoldable pub OfCharacters : List ℕ → List Piece → Type 0
OfCharacters text [] = Unit {0}
OfCharacters text (x ∷ xs) = (EdgeOf text x.start × EdgeOf text (x.start + x.bytes)) × OfCharacters text xs

-- of step calls with these inputs that left os, after a start call that left f, over a stack whose bytes were s before it
pub record Demand (g : Given) (s : List ℕ) (f : RunLeft StartAnswer) (is : List Input) (os : List (RunLeft StepAnswer)) : Type 0 where
  -- the limit is that of the kind of caller, n is within it, and at first the run is as the machine has it
  pub limited : limit g.kind ≡ Some g.limit
  pub small : g.n ≤ g.limit
  pub first : AsMachine g fresh [] s f.after
  -- after each call its answer, the run and the stack's bytes are as the machine has them
  pub each : Follows g s fresh [] is os
  -- the tokens and skips cover the bytes up to the position, one behind the other
  pub cover : Adjoin 0 (pieces 0 os) (last_position f.after os)
  -- so each of these bytes is covered once, and no other
  pub once : (x : ℕ) → covered x (pieces 0 os) ≡ cond (ltb x (last_position f.after os)) 1 0
  -- each of them is of whole characters
  pub whole : OfCharacters g.text (pieces 0 os)
  -- at most n calls move, and of a kiosk's run at most 512 (02, 3/13)
  pub few : length (pieces 0 os) ≤ g.n
  pub few_of_kiosk : g.kind ≡ kiosk → length (pieces 0 os) ≤ most_kiosk_bytes

-- ---- what it is demanded of

-- what the parse, link and start calls were given
pub record Session : Type 0 where
  pub request : Request
  pub capacities : Caps
  pub names : List ℕ
  pub entries : List ℕ
  pub area7 : List ℕ
  pub area8 : List ℕ
  pub kind : ℕ
  pub n : ℕ
  pub text : List ℕ
  pub running : Running

-- the sheet that the parse call left
abbrev pub sheet_parsed : Session → SheetBytes
sheet_parsed q = sheet_left_by q.request.source (parse_call q.request q.capacities)

-- what the link call left of it
abbrev pub link_left_of : Session → LinkLeft
link_left_of q = link_call (sheet_parsed q) q.names q.entries q.area7 q.area8

-- a sheet with the area 2 that a link left
abbrev pub linked_sheet : SheetBytes → LinkLeft → SheetBytes
linked_sheet b l = sheet_bytes b.source b.area1 l.area2 b.area3 b.area4 b.area5 b.counts

-- what the start call left
abbrev pub start_left_of : Session → RunLeft StartAnswer
start_left_of q = start_call q.kind q.n q.text q.running

-- the file and the map, by their bytes alone
abbrev pub session_file : Session → File
session_file q = file_of q.request

abbrev pub session_map : Session → List Entry
session_map q = map_of q.names q.entries

-- what the machine is given: the file, flags and verdicts by what they mean, the map, the kind of caller with its limit, n and the text; 0 stands for
-- the limit that an unknown kind has not
abbrev pub given : Session → Given
given q = record {
  file = session_file q;
  map = session_map q;
  kind = q.kind;
  limit = unwrap_or (limit q.kind) 0;
  n = q.n;
  text = q.text;
}

-- the file, the link and the start are accepted
pub record Accepts (q : Session) : Type 0 where
  pub parsed : (parse_call q.request q.capacities).answer ≡ parse_accepted
  pub unmapped : ℕ
  pub unused : ℕ
  pub linked : (link_left_of q).answer ≡ linked_answer unmapped unused
  pub started : (start_left_of q).answer ≡ start_accepted

-- on the linked sheet, after the start
abbrev pub session_calls : Session → List Input → List (RunLeft StepAnswer)
session_calls q is = calls (linked_sheet (sheet_parsed q) (link_left_of q)) (start_left_of q).after is

-- each step is given this text
unfoldable pub AllOver : List ℕ → List Input → Type 0
AllOver text [] = Unit {0}
AllOver text (i ∷ is) = (i.text ≡ text) × AllOver text is

-- the demand, of every session whose calls are accepted and of every list of rows given with the text of the start
unfoldable pub DemandHolds : Type 0
DemandHolds = (q : Session) → Accepts q → (is : List Input) → AllOver q.text is
    → Demand (given q) q.running.stack (start_left_of q) is (session_calls q is)
