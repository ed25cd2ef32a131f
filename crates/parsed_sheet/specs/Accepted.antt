-- What holds of the contents that an accepted parse yields: of each record by its place in its list, and of the lists as wholes (01, Areas,
-- and the sheet check at the end of Linking).
use Rattle.std.specs.Prelude.{ℕ, ◌+◌, ◌*◌, ◌≤◌, ◌<◌, ◌≡◌, Bool, true, cond, List, [], eqb, ltb, length}
use Rattle.names.specs.Names.{DistinctNames}
use Rattle.area.specs.declared.State.{State}
use Rattle.area.specs.declared.Rule.{Rule}
use Rattle.area.specs.declared.Expected.{Expected}
use Rattle.area.specs.Records.{nth_state, state_of, rule_of, expected_of, state_fields, rule_fields, expected_fields}
use Rattle.area.specs.Contents.{Format, Held, state_format, rule_format, entry_format, text_format, expected_format}
use Rattle.declarations.specs.Declarations.{state}
use Rattle.parse.specs.Parse.{Contents, Caps, Left, counts_of}
use Rattle.sheet_check.specs.SheetCheck.{SheetBytes, sheet_bytes}
use Rattle.area.specs.Lists.{all, Each}

-- a number that fits a byte, and one that fits a field (01, the introduction)
abbrev pub is_byte : ℕ → Bool
is_byte v = ltb v 256

abbrev pub is_field : ℕ → Bool
is_field v = ltb v 65536

-- a list passes neither the limit of its area nor the cap bytes of it (01, Numbers given at the counter, 4)
pub record Fits {A : Type 0} (F : Format A) (cap : ℕ) (xs : List A) : Type 0 where
  pub few : length xs ≤ F.most
  pub fits : length xs * F.width ≤ cap

-- a state of a source of n bytes (01, Areas, 1)
pub record StateHolds (n j : ℕ) (x : State) : Type 0 where
  pub ordered : x.start ≤ x.end
  pub inside : x.end ≤ n
  pub exclusive : x.exclusive ≤ 1

-- an expected name of a source of n bytes (01, Areas, 5)
pub record ExpectedHolds (n j : ℕ) (x : Expected) : Type 0 where
  pub ordered : x.start ≤ x.end
  pub inside : x.end ≤ n

-- a list entry is one of so many states (01, Areas, 3)
abbrev pub EntryHolds : ℕ → ℕ → ℕ → Type 0
EntryHolds states j id = id < states

-- the rule at the position j in a source of n bytes, beside so many states, list entries and bytes of rewritten text: its id is its position
-- (01, Areas, 2, and Rules, the end)
pub record RuleHolds (n states entries rewritten j : ℕ) (x : Rule) : Type 0 where
  pub has_id : x.has_id ≡ 1
  pub id : x.id ≡ j
  pub named : x.named ≤ 1
  pub place : x.place ≤ 1
  pub ordered : x.span_start ≤ x.span_end
  pub inside : x.span_end ≤ n
  pub name : x.name_from + x.name_length ≤ n
  pub text : x.text_from + x.text_length ≤ cond (eqb x.place 1) rewritten n
  pub list : x.list_from + x.list_count ≤ entries
  pub operation : x.operation ≤ 3
  pub target : x.target < states

-- the states: state 0 is INITIAL (01, Areas, 1)
pub record StatesHold (n cap : ℕ) (xs : List State) : Type 0 where
  pub some : 0 < length xs
  pub initial : nth_state xs 0 ≡ state 0 0 0
  pub each : Each (StateHolds n) (state_of (λ _. 0)) xs
  pub fits : Fits state_format cap xs

pub record ExpectedsHold (n cap : ℕ) (xs : List Expected) : Type 0 where
  pub each : Each (ExpectedHolds n) (expected_of (λ _. 0)) xs
  pub fits : Fits expected_format cap xs

pub record EntriesHold (states cap : ℕ) (ids : List ℕ) : Type 0 where
  pub each : Each (EntryHolds states) 0 ids
  pub fits : Fits entry_format cap ids

-- rewritten text (01, Areas, 4)
pub record TextHolds (cap : ℕ) (t : List ℕ) : Type 0 where
  pub bytes : all is_byte t ≡ true
  pub fits : Fits text_format cap t

pub record RulesHold (s : List ℕ) (states entries rewritten cap : ℕ) (rs : List Rule) : Type 0 where
  pub each : Each (RuleHolds (length s) states entries rewritten) (rule_of (λ _. 0)) rs
  pub distinct : DistinctNames s rs
  pub fits : Fits rule_format cap rs

-- the contents of an accepted parse of the source s, into areas of so many bytes
pub record ContentsHold (s : List ℕ) (k : Caps) (c : Contents) : Type 0 where
  pub states : StatesHold (length s) k.c1 c.states
  pub rules : RulesHold s (length c.states) (length c.lists) (length c.text) k.c2 c.rules
  pub lists : EntriesHold (length c.states) k.c3 c.lists
  pub text : TextHolds k.c4 c.text
  pub expected : ExpectedsHold (length s) k.c5 c.expected
  pub faults : c.faults ≡ []

-- each list fits its area
pub record ContentsFit (k : Caps) (c : Contents) : Type 0 where
  pub states : Fits state_format k.c1 c.states
  pub rules : Fits rule_format k.c2 c.rules
  pub lists : Fits entry_format k.c3 c.lists
  pub text : Fits text_format k.c4 c.text
  pub expected : Fits expected_format k.c5 c.expected

-- each number of each record fits a field
pub record FieldsFit (c : Contents) : Type 0 where
  pub states : all (λ x. all is_field (state_fields x)) c.states ≡ true
  pub rules : all (λ x. all is_field (rule_fields x)) c.rules ≡ true
  pub lists : all is_field c.lists ≡ true
  pub expected : all (λ x. all is_field (expected_fields x)) c.expected ≡ true

-- the sheet that the parse call of the source s leaves: its areas 1 to 5 and its counts
abbrev pub sheet_left_by : List ℕ → Left → SheetBytes
sheet_left_by s l = sheet_bytes s l.area1 l.area2 l.area3 l.area4 l.area5 l.counts

-- areas 1 to 5 hold the lists and zeros behind them, and the counts are their lengths
pub record AreasHold (c : Contents) (l : Left) : Type 0 where
  pub states : Held state_format l.area1 (length c.states)
  pub rules : Held rule_format l.area2 (length c.rules)
  pub lists : Held entry_format l.area3 (length c.lists)
  pub text : Held text_format l.area4 (length c.text)
  pub expected : Held expected_format l.area5 (length c.expected)
  pub counts : l.counts ≡ counts_of c
