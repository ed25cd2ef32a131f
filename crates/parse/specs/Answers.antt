-- What a file comes to, with counts of records in place of the records, and what the areas hold then (01, Areas).
use Rattle.std.specs.Prelude.{Result, Ok, Err, ℕ, ◌≡◌, Bool, true, false, cond, List, [], ◌∷◌, eqb, length}
use Rattle.area.specs.Bytes.{zeros}
use Rattle.area.specs.declared.Fault.{Fault as FaultSpan}
use Rattle.area.specs.Contents.{contents, state_format, rule_format, entry_format, text_format, expected_format, fault_format, Held}
use Rattle.fault.specs.declared.Stop.{Stop}
use Rattle.fault.specs.declared.Stop.TheVariants.{Fault, Full}
use Rattle.fault.specs.Kinds.{kind_number}
use Rattle.fault.specs.Faults.{add_fault}
use Rattle.declarations.specs.declared.DeclarationCounts.{DeclarationCounts}
use Rattle.rules_section.specs.declared.RuleCounts.{RuleCounts}
use Rattle.parse.specs.Parse.{ParseAnswer, parse_accepted, Contents, Outcome, long_file, unknown_flag, invalid_utf8, area_full, faulty, accepted, closed}
use Rattle.parse.specs.declared.FileCounts.{FileCounts}
use Rattle.parse.specs.declared.ParseError.{ParseError}
use Rattle.parse.specs.declared.ParseError.TheVariants.{LongFile, UnknownFlag, InvalidUtf8, AreaFull, FaultyFile}

-- what a parse that stops comes to, with these faults so far: the fault that ends it, or an area that is full
abbrev pub stopped : ℕ → List FaultSpan → Stop → Outcome
stopped cap fs (Fault error) = closed (add_fault cap (kind_number error.kind) error.at error.at fs)
stopped cap fs (Full name) = area_full name

-- the outcome that an error stands for
abbrev pub refused : List ℕ → ParseError → Outcome
refused l6 LongFile = long_file
refused l6 UnknownFlag = unknown_flag
refused l6 InvalidUtf8 = invalid_utf8
refused l6 (AreaFull name) = area_full name
refused l6 (FaultyFile n) = faulty (contents fault_format l6 n)

-- an answer that leaves the counts out: accepted, or refused
abbrev pub answered : Result FileCounts ParseError → ParseAnswer
answered (Ok q) = parse_accepted
answered (Err x) = Err x

-- the six counts that are left: zeros where the file is refused
abbrev pub counts_left : Result FileCounts ParseError → List ℕ
counts_left (Ok q) = q.states ∷ q.rules ∷ q.entries ∷ q.text ∷ q.expected ∷ 0 ∷ []
counts_left (Err x) = zeros 6

-- its faults are kept in area 6
abbrev pub has_faults : ParseError → Bool
has_faults LongFile = false
has_faults UnknownFlag = false
has_faults InvalidUtf8 = false
has_faults (AreaFull name) = false
has_faults (FaultyFile n) = true

-- the error x stands for the outcome o, and area 6 holds the faults that it counts
pub record Refuses (o : Outcome) (l6 : List ℕ) (x : ParseError) : Type 0 where
  pub says : o ≡ refused l6 x
  pub faults : (n : ℕ) → x ≡ FaultyFile n → Held fault_format l6 n

-- no rules, and so many fault spans
abbrev pub nothing_ruled : ℕ → RuleCounts
nothing_ruled n = record { sheet = record { rules = 0; entries = 0; text = 0 }; faults = n }

-- at the end of the file: no fault, or so many fault spans
abbrev pub judged_by : DeclarationCounts → RuleCounts → Result FileCounts ParseError
judged_by d q =
    cond (eqb q.faults 0)
    (Ok (record { states = d.names.states; rules = q.sheet.rules; entries = q.sheet.entries; text = q.sheet.text; expected = d.expected }))
    (Err (FaultyFile q.faults))

-- what stands in the areas of a file without faults
abbrev pub contents_in : List ℕ → List ℕ → List ℕ → List ℕ → List ℕ → FileCounts → Contents
contents_in l1 l2 l3 l4 l5 q = record {
  states = contents state_format l1 q.states;
  rules = contents rule_format l2 q.rules;
  lists = contents entry_format l3 q.entries;
  text = contents text_format l4 q.text;
  expected = contents expected_format l5 q.expected;
  faults = [];
}

-- the outcome that counts or an error stand for
abbrev pub outcome_of : List ℕ → List ℕ → List ℕ → List ℕ → List ℕ → List ℕ → Result FileCounts ParseError → Outcome
outcome_of l1 l2 l3 l4 l5 l6 (Ok q) = accepted (contents_in l1 l2 l3 l4 l5 q)
outcome_of l1 l2 l3 l4 l5 l6 (Err x) = refused l6 x

-- the areas hold these many, area 6 none, and zeros behind them
pub record HeldFile (l1 l2 l3 l4 l5 l6 : List ℕ) (q : FileCounts) : Type 0 where
  pub states : Held state_format l1 q.states
  pub rules : Held rule_format l2 q.rules
  pub entries : Held entry_format l3 q.entries
  pub text : Held text_format l4 q.text
  pub expected : Held expected_format l5 q.expected
  pub faults : Held fault_format l6 0

-- p stands for the outcome o, and the areas hold what it counts
pub record Parses (o : Outcome) (l1 l2 l3 l4 l5 l6 : List ℕ) (p : Result FileCounts ParseError) : Type 0 where
  pub says : o ≡ outcome_of l1 l2 l3 l4 l5 l6 p
  pub clean : (q : FileCounts) → p ≡ Ok q → HeldFile l1 l2 l3 l4 l5 l6 q
  pub faults : (n : ℕ) → p ≡ Err (FaultyFile n) → Held fault_format l6 n

-- the areas are zero, of these many bytes
pub record Cleared (c1 c2 c3 c4 c5 c6 : ℕ) (l1 l2 l3 l4 l5 l6 : List ℕ) : Type 0 where
  pub is1 : l1 ≡ zeros c1
  pub is2 : l2 ≡ zeros c2
  pub is3 : l3 ≡ zeros c3
  pub is4 : l4 ≡ zeros c4
  pub is5 : l5 ≡ zeros c5
  pub is6 : l6 ≡ zeros c6

-- every area is zero
abbrev pub Zeroed : List ℕ → List ℕ → List ℕ → List ℕ → List ℕ → List ℕ → Type 0
Zeroed l1 l2 l3 l4 l5 l6 = Cleared (length l1) (length l2) (length l3) (length l4) (length l5) (length l6) l1 l2 l3 l4 l5 l6
