-- A run as a call takes it, and what the start call and the step call do (01, The run, and Numbers given at the counter, 6, 8, 9, 10; 02, 2/13 and
-- 3/13).
use Rattle.std.specs.Prelude.{ℕ, ◌+◌, ◌*◌, ◌-◌, Bool, false, cond, ◌&&◌, List, eqb, leb, length, Option, Some, None, is_some, Result, Ok, Err}
use Rattle.std.proofs.lemmas.List.Edits.{sets}
use Rattle.area.specs.declared.Rule.{Rule}
use Rattle.area.specs.Bytes.{two}
use Rattle.area.specs.Lists.{all}
use Rattle.area.specs.Records.{entry_at, nth_rule, entry_width}
use Rattle.area.specs.Contents.{contents, entry_format}
use Rattle.answers.specs.Numbers.{accepted_number, unknown_caller_number, start_refused_number, text_mismatch_number}
use Rattle.answers.specs.Numbers.{broken_sheet_number, broken_run_number, row_mismatch_number}
use Rattle.answers.specs.Numbers.{done_number, stopped_number, unlinked_number, skip_number, token_number}
use Rattle.answers.specs.Words.{Fields, fields, word}
use Rattle.parse.specs.Parse.{Contents}
use Rattle.sheet_check.specs.SheetCheck.{SheetBytes, decoded, sheet_check, declared}
use Rattle.winner.specs.declared.Best.{Best}
use Rattle.winner.specs.Winner.{Lexer, weight, best}
use Rattle.winner.specs.Top.{good_row}
use Rattle.input_check.specs.InputCheck.{good_text, length_fits}
use Rattle.run.specs.declared.Run.{Run}
use Rattle.run.specs.declared.StartError.{StartError}
use Rattle.run.specs.declared.StartError.TheVariants.{UnknownCaller, StartRefused, TextMismatch as StartTextMismatch}
use Rattle.run.specs.declared.StepError.{StepError}
use Rattle.run.specs.declared.StepError.TheVariants.{BrokenSheet, TextMismatch, BrokenRun, RowMismatch}
use Rattle.run.specs.declared.Step.{Step}
use Rattle.run.specs.declared.Step.TheVariants.{Done, Stopped, Unlinked, Skip, Token}

-- ---- the kinds of callers

-- a seller, and a kiosk (02, 3/13)
abbrev pub seller : ℕ
seller = 0

abbrev pub kiosk : ℕ
kiosk = 1

-- the most bytes of a seller's entry, and so of any
abbrev pub most_bytes : ℕ
most_bytes = 4096

-- the most bytes of a kiosk's entry (02, 3/13)
abbrev pub most_kiosk_bytes : ℕ
most_kiosk_bytes = 512

-- the most bytes of an entry by the kind of its caller; a kind that is neither a seller nor a kiosk has no limit (02, 3/13)
unfoldable pub limit : ℕ → Option ℕ
limit kind = cond (eqb kind seller) (Some most_bytes) (cond (eqb kind kiosk) (Some most_kiosk_bytes) None)

-- there is a limit, and n is not above it
unfoldable pub within_limit : Option ℕ → ℕ → Bool
within_limit None n = false
within_limit (Some most) n = leb n most

-- ---- the run

-- a run's five numbers and its stack, as one value
pub record Running : Type 0 where
  pub run : Run
  pub stack : List ℕ

abbrev pub running : Run → List ℕ → Running
running r s = record { run = r; stack = s }

-- how many moves a run has made
abbrev pub moves_of : Run → ℕ
moves_of r = r.moves

-- how many bytes the stack of an entry of n bytes has at least
abbrev pub stack_bytes : ℕ → ℕ
stack_bytes n = entry_width * (n + 1)

-- a stack with a state id at place k
unfoldable pub put_state : List ℕ → ℕ → ℕ → List ℕ
put_state s k id = sets s (k * entry_width) (two id)

-- the state on top of the stack
abbrev pub current : Running → ℕ
current g = entry_at g.stack (g.run.depth - 1)

-- ---- what a call is given, and what it leaves

-- what a step is given beside the sheet and the run: the entry's text, and a length for each rule (01, The run; 02, 2/13)
pub record Input : Type 0 where
  pub text : List ℕ
  pub row : List ℕ

abbrev pub input : List ℕ → List ℕ → Input
input text row = record { text = text; row = row }

-- what a call leaves: its answer, and the run afterwards
pub record RunLeft (A : Type 0) : Type 0 where
  pub answer : A
  pub after : Running

abbrev pub leaving : {A : Type 0} → A → Running → RunLeft A
leaving a g = record { answer = a; after = g }

abbrev pub run_left : {A : Type 0} → A → Run → List ℕ → RunLeft A
run_left a r s = leaving a (running r s)

-- what the start call answers: that the run began, or that it is refused
abbrev pub StartAnswer : Type 0
StartAnswer = Result (Unit {0}) StartError

abbrev pub start_accepted : StartAnswer
start_accepted = Ok tt

abbrev pub start_unknown_caller : StartAnswer
start_unknown_caller = Err UnknownCaller

abbrev pub start_refused : StartAnswer
start_refused = Err StartRefused

abbrev pub start_text_mismatch : StartAnswer
start_text_mismatch = Err StartTextMismatch

-- what the step call answers: what the step does, or why it is refused
abbrev pub StepAnswer : Type 0
StepAnswer = Result Step StepError

-- ---- the start call

-- the run of an entry of n bytes at its start, by the kind of its caller
abbrev pub first_run : ℕ → ℕ → Run
first_run kind n = record { n = n; position = 0; depth = 1; moves = 0; kind = kind }

-- number 8: n is within the limit of its kind of caller, and the stack long enough for n
unfoldable pub good_start : ℕ → ℕ → List ℕ → Bool
good_start kind n s = within_limit (limit kind) n && leb (stack_bytes n) (length s)

-- 13, 8, then 12; accepted, only the first entry of the stack is changed; refused, nothing is (01, The run; 02, 2/13 and 3/13)
unfoldable pub start_call : ℕ → ℕ → List ℕ → Running → RunLeft StartAnswer
start_call kind n text g =
    cond (is_some (limit kind))
    (cond (good_start kind n g.stack)
    (cond (good_text n text) (run_left start_accepted (first_run kind n) (put_state g.stack 0 0)) (leaving start_text_mismatch g))
    (leaving start_refused g))
    (leaving start_unknown_caller g)

-- ---- the tests of the step call

-- the kind is known, n is within its limit, and the numbers fit each other and the stack
unfoldable pub good_numbers : Running → Bool
good_numbers g =
    let r = g.run in
    within_limit (limit r.kind) r.n && leb r.position r.n && leb 1 r.depth && leb r.depth (r.position + 1)
    && leb (moves_of r) r.position && leb (stack_bytes r.n) (length g.stack)

-- number 9: beside so many states, the numbers fit and every state id in use is declared
unfoldable pub good_run : ℕ → Running → Bool
good_run states g = good_numbers g && all (declared states) (contents entry_format g.stack g.run.depth)

-- a length is not above the bytes that are left, and ends at an edge of the text (01, Numbers given at the counter, 10; 02, 2/13)
abbrev pub fits_in : List ℕ → Run → ℕ → Bool
fits_in text r = length_fits text (r.n - r.position) r.position

-- ---- a move

-- a run with so many entries of its stack in use
abbrev pub with_depth : Run → ℕ → Run
with_depth r d = record { n = r.n; position = r.position; depth = d; moves = moves_of r; kind = r.kind }

-- a run that is so many bytes and one move further
abbrev pub advanced : Run → ℕ → Run
advanced r bytes = record { n = r.n; position = r.position + bytes; depth = r.depth; moves = moves_of r + 1; kind = r.kind }

module _ (g : Running) where
  -- the run with another depth and stack
  abbrev restacked : ℕ → List ℕ → Running
  restacked d s = running (with_depth g.run d) s

  -- the top is removed; state 0 alone where nothing is left
  unfoldable pub popped : Running
  popped = cond (eqb g.run.depth 1) (restacked 1 (put_state g.stack 0 0)) (restacked (g.run.depth - 1) g.stack)

  -- what the operation of a rule does: 1 replace, 2 push, 3 pop, otherwise nothing
  unfoldable pub operated : Rule → Running
  operated x =
      cond (eqb x.operation 1) (restacked 1 (put_state g.stack 0 x.target))
      (cond (eqb x.operation 2) (restacked (g.run.depth + 1) (put_state g.stack g.run.depth x.target))
      (cond (eqb x.operation 3) popped g))

  -- a move by a rule over so many bytes
  unfoldable pub move_by : Rule → ℕ → Running
  move_by x bytes = let o = operated x in running (advanced o.run bytes) o.stack

  -- the rule wins by so many bytes: a token where it is named and has an id, 'unlinked' where it has none, a skip where it is not named
  unfoldable pub won_by : Rule → ℕ → RunLeft StepAnswer
  won_by x bytes =
      cond (eqb x.named 1)
      (cond (eqb x.has_id 1) (leaving (Ok (Token x.id g.run.position bytes)) (move_by x bytes)) (leaving (Ok Unlinked) g))
      (leaving (Ok Skip) (move_by x bytes))

-- ---- the step call

module _ (x : Lexer) (g : Running) where
  -- the greatest length is 0, or the winner
  unfoldable pub choose : Best → RunLeft StepAnswer
  choose b = cond (eqb b.length 0) (leaving (Ok Stopped) g) (won_by g (nth_rule x.rules b.rule) b.length)

  -- a row that fits
  unfoldable pub step_row : List ℕ → RunLeft StepAnswer
  step_row row = choose (best (weight x (current g) row) (length x.rules))

  -- 12, 9, 'done', 10, then the winner
  unfoldable pub step_run : Input → RunLeft StepAnswer
  step_run i =
      cond (good_text g.run.n i.text)
      (cond (good_run (length x.states) g)
      (cond (eqb g.run.position g.run.n)
      (leaving (Ok Done) g)
      (cond (good_row (fits_in i.text g.run) (length x.rules) i.row) (step_row i.row) (leaving (Err RowMismatch) g)))
      (leaving (Err BrokenRun) g))
      (leaving (Err TextMismatch) g)

-- what a step reads of the contents of a sheet
abbrev pub lexer_of : Contents → Lexer
lexer_of c = record { states = c.states; rules = c.rules; lists = c.lists }

-- 6 first of all
unfoldable pub step_call : SheetBytes → Running → Input → RunLeft StepAnswer
step_call b g i = cond (sheet_check b) (step_run (lexer_of (decoded b)) g i) (leaving (Err BrokenSheet) g)

-- ---- the answers as words

-- the number of each answer, and its values (01, Numbers given at the counter)
unfoldable pub start_fields : StartAnswer → Fields
start_fields (Ok _) = fields accepted_number 0 0 0
start_fields (Err UnknownCaller) = fields unknown_caller_number 0 0 0
start_fields (Err StartRefused) = fields start_refused_number 0 0 0
start_fields (Err StartTextMismatch) = fields text_mismatch_number 0 0 0

-- an answer of the step by what it does: it stays, by the number that says why; it skips; or it gives a token, with its id, start and length
pub data View : Type 0 where
  stays : ℕ → View
  skip : View
  token : ℕ → ℕ → ℕ → View

unfoldable pub view : StepAnswer → View
view (Err BrokenSheet) = stays broken_sheet_number
view (Err TextMismatch) = stays text_mismatch_number
view (Err BrokenRun) = stays broken_run_number
view (Err RowMismatch) = stays row_mismatch_number
view (Ok Done) = stays done_number
view (Ok Stopped) = stays stopped_number
view (Ok Unlinked) = stays unlinked_number
view (Ok Skip) = skip
view (Ok (Token id start bytes)) = token id start bytes

unfoldable pub view_fields : View → Fields
view_fields (stays number) = fields number 0 0 0
view_fields skip = fields skip_number 0 0 0
view_fields (token id start bytes) = fields token_number id start bytes

abbrev pub step_fields : StepAnswer → Fields
step_fields a = view_fields (view a)

abbrev pub start_word : StartAnswer → ℕ
start_word a = word (start_fields a)

abbrev pub step_word : StepAnswer → ℕ
step_word a = word (step_fields a)
