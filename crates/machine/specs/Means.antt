-- What an answer of the run machine means, and the machine that is next, in 01's words (01, The run machine; 02, 2/13). The winner is stated here: by
-- every live rule of the file, and not by how a machine looks for it. So is where a length may end: by the characters of the text, and not by its bytes.
use Rattle.std.specs.Prelude.{ℕ, ◌+◌, ◌*◌, ◌-◌, ◌≤◌, ◌<◌, ◌≡◌, false, List, [], ◌⊎◌, length, get_or, Ok, Err}
use Rattle.std.proofs.Math.Option.{none, some}
use Rattle.std.proofs.Math.ListN.{get_elem?}
use Rattle.name_map.specs.Map.{Entry}
use Rattle.input_check.specs.InputCheck.{EdgeOf}
use Rattle.run.specs.declared.StepError.TheVariants.{BrokenSheet, TextMismatch, BrokenRun, RowMismatch}
use Rattle.run.specs.declared.Step.TheVariants.{Done, Stopped, Unlinked, Skip, Token}
use Rattle.run.specs.Run.{StepAnswer, Input}
use Rattle.machine.specs.File.{FileRule}
use Rattle.machine.specs.Machine.{Given, Machine, current_state, is_exclusive, Winner, move}

-- ---- a row

-- the length that a row has for rule k: two bytes, the low one first
abbrev pub length_at : List ℕ → ℕ → ℕ
length_at row k = get_or row (k * 2) 0 + get_or row (k * 2 + 1) 0 * 256

-- a length fits: it is not above what is left, and position plus length is at the edge of a character of the text
pub record LengthFits (g : Given) (m : Machine) (l : ℕ) : Type 0 where
  pub low : l ≤ g.n - m.position
  pub edge : EdgeOf g.text (m.position + l)

-- the position is not n, and the input's row fits: two bytes for each rule, and every length fits
pub record Fitting (g : Given) (m : Machine) (i : Input) : Type 0 where
  pub before : m.position ≡ g.n → ⊥
  pub size : length i.row ≡ length g.file.rules * 2
  pub each : (k : ℕ) → k < length g.file.rules → LengthFits g m (length_at i.row k)

-- the row has another size, or some rule's length does not fit
abbrev pub Misfit : Given → Machine → Input → Type 0
Misfit g m i =
    (length i.row ≡ length g.file.rules * 2 → ⊥)
    ⊎ ((k : ℕ) × (k < length g.file.rules) × (LengthFits g m (length_at i.row k) → ⊥))

-- ---- the winner

-- a place of the list has the id
abbrev pub Has : List ℕ → ℕ → Type 0
Has ids id = (j : ℕ) × (get_elem? ids j ≡ some id)

-- the rule's list has the current state, or is empty and that state is not exclusive
abbrev pub Live : Given → Machine → FileRule → Type 0
Live g m x =
    Has x.list (current_state m.stack)
    ⊎ ((x.list ≡ []) × (is_exclusive g.file.states (current_state m.stack) ≡ false))

-- every live rule has length 0; so it is too where none is live
abbrev pub NoneMatches : Given → Machine → Input → Type 0
NoneMatches g m i = (k : ℕ) (x : FileRule) → get_elem? g.file.rules k ≡ some x → Live g m x → length_at i.row k ≡ 0

-- the row fits; the winner is live and has so many bytes, at least one; no live rule has more, and no earlier one as many
pub record Won (g : Given) (m : Machine) (i : Input) (w : Winner) : Type 0 where
  pub fitting : Fitting g m i
  pub place : ℕ
  pub rule : get_elem? g.file.rules place ≡ some w.rule
  pub live : Live g m w.rule
  pub has : length_at i.row place ≡ w.bytes
  pub some_bytes : 0 < w.bytes
  pub greatest : (k : ℕ) (x : FileRule) → get_elem? g.file.rules k ≡ some x → Live g m x → length_at i.row k ≤ w.bytes
  pub earliest : (k : ℕ) (x : FileRule) → k < place → get_elem? g.file.rules k ≡ some x → Live g m x → length_at i.row k < w.bytes

-- an entry of the map has that name, and that id
abbrev pub EntryOf : List Entry → List ℕ → ℕ → Type 0
EntryOf es name id = (j : ℕ) × (e : Entry) × (get_elem? es j ≡ some e) × (e.name ≡ name) × (e.id ≡ id)

-- ---- the answers

-- what an answer means of the machine m, an input, and the machine that is next; 6, 9 and 12 the machine never gives
abbrev pub Means : Given → Machine → Input → StepAnswer → Machine → Type 0
Means g m i (Err BrokenSheet) next = ⊥
Means g m i (Err TextMismatch) next = ⊥
Means g m i (Err BrokenRun) next = ⊥
Means g m i (Ok Done) next = (m.position ≡ g.n) × (next ≡ m)
Means g m i (Err RowMismatch) next = (m.position ≡ g.n → ⊥) × Misfit g m i × (next ≡ m)
Means g m i (Ok Stopped) next = Fitting g m i × NoneMatches g m i × (next ≡ m)
Means g m i (Ok Unlinked) next =
    (w : Winner) × Won g m i w × (name : List ℕ) × (w.rule.name ≡ some name) × ((id : ℕ) → EntryOf g.map name id → ⊥) × (next ≡ m)
Means g m i (Ok Skip) next = (w : Winner) × Won g m i w × (w.rule.name ≡ none) × (next ≡ move w m)
Means g m i (Ok (Token id start bytes)) next =
    (w : Winner) × Won g m i w × (name : List ℕ) × (w.rule.name ≡ some name) × EntryOf g.map name id
    × (start ≡ m.position) × (bytes ≡ w.bytes) × (next ≡ move w m)
