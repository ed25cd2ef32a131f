-- Demand 3 over the words and arrays that the exported calls give back (01, Numbers given at the counter, and The run machine).
use Rattle.std.specs.Prelude.{ℕ, ◌%◌, ◌≡◌, List, [], ◌∷◌, map}
use Rattle.answers.specs.Words.{TwoBytes}
use Rattle.area.specs.Bytes.{AllBytes}
use Rattle.parse.specs.Parse.{parse_call}
use Rattle.sheet_check.specs.SheetCheck.{SheetBytes, sheet_bytes}
use Rattle.link.specs.Link.{link_call}
use Rattle.run.specs.Run.{StepAnswer, Running, Input, RunLeft, start_call, step_call, step_fields, step_word}
use Rattle.troymantle.specs.Words.{LeftInWords, in_words}
use Rattle.troymantle.specs.LinkWords.{LinkInWords, in_link_words}
use Rattle.troymantle.specs.RunWords.{start_in_words, step_in_words}
use Rattle.machine.specs.Machine.{Given, Machine, fresh, step}
use Rattle.machine.specs.Demand.{AsMachine, Demand, Session, start_left_of, given, AllOver, session_calls}

-- what the exported parse call gives back
abbrev pub parse_gives : Session → LeftInWords
parse_gives q = in_words (parse_call q.request q.capacities)

-- the sheet of its arrays
abbrev pub sheet_given : Session → SheetBytes
sheet_given q =
    let x : LeftInWords = parse_gives q in
    sheet_bytes q.request.source x.area1 x.area2 x.area3 x.area4 x.area5 x.counts

-- what the exported link call gives back of it
abbrev pub link_gives : Session → LinkInWords
link_gives q = in_link_words (link_call (sheet_given q) q.names q.entries q.area7 q.area8)

-- the sheet with its area 2
abbrev pub linked_given : Session → SheetBytes
linked_given q =
    let b : SheetBytes = sheet_given q in
    sheet_bytes b.source b.area1 (link_gives q).area2 b.area3 b.area4 b.area5 b.counts

-- what the exported start call gives back
abbrev pub start_gives : Session → RunLeft ℕ
start_gives q = start_in_words (start_call q.kind q.n q.text q.running)

-- the file, the link and the start are accepted, by the numbers in the words
pub record AcceptsInWords (q : Session) : Type 0 where
  pub parsed : (parse_gives q).answer ≡ 0
  pub linked : (link_gives q).answer % 65536 ≡ 0
  pub started : (start_gives q).answer ≡ 0

-- a call that gave back o: the word is that of the machine's answer, whose fields have two bytes, and of no other; the run and the stack are as the
-- machine has them
pub record CallInWords (g : Given) (s : List ℕ) (m : Machine) (held : List (List ℕ)) (i : Input) (o : RunLeft ℕ) : Type 0 where
  pub word : o.answer ≡ step_word (step g m i).answer
  pub fits : TwoBytes (step_fields (step g m i).answer)
  pub only : (a : StepAnswer) → TwoBytes (step_fields a) → o.answer ≡ step_word a → a ≡ (step g m i).answer
  pub leaves : AsMachine g (step g m i).machine (m.stack ∷ held) s o.after

-- each of the calls, the machine going along
unfoldable pub FollowsInWords : Given → List ℕ → Machine → List (List ℕ) → List Input → List (RunLeft ℕ) → Type 0
FollowsInWords g s m held [] [] = Unit {0}
FollowsInWords g s m held [] (o ∷ os) = ⊥
FollowsInWords g s m held (i ∷ is) [] = ⊥
FollowsInWords g s m held (i ∷ is) (o ∷ os) = CallInWords g s m held i o × FollowsInWords g s (step g m i).machine (m.stack ∷ held) is os

-- a list of exported step calls on a sheet, each with the run as the one before it gave it back
unfoldable pub calls_in_words : SheetBytes → Running → List Input → List (RunLeft ℕ)
calls_in_words b x [] = []
calls_in_words b x (i ∷ is) = let o : RunLeft ℕ = step_in_words (step_call b x i) in o ∷ calls_in_words b o.after is

-- on the linked sheet, after the start
abbrev pub session_words : Session → List Input → List (RunLeft ℕ)
session_words q is = calls_in_words (linked_given q) (start_gives q).after is

-- what the exported calls give back: it is of calls that meet the demand, and each word tells the machine's answer
pub record InWords (q : Session) (is : List Input) : Type 0 where
  pub same : session_words q is ≡ map step_in_words (session_calls q is)
  pub demand : Demand (given q) q.running.stack (start_left_of q) is (session_calls q is)
  pub each : FollowsInWords (given q) q.running.stack fresh [] is (session_words q is)

-- for every map of bytes, and every list of rows given with the text of the start
unfoldable pub InWordsHolds : Type 0
InWordsHolds = (q : Session) → AllBytes q.entries → AcceptsInWords q → (is : List Input) → AllOver q.text is → InWords q is
