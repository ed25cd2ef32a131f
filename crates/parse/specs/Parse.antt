-- The meaning of a file, and of the parse call (01, Numbers given at the counter, and Areas).
use Rattle.std.specs.Prelude.{Result, Ok, Err, ℕ, cond, List, [], ◌∷◌, eqb, ltb, length}
use Rattle.std.proofs.Math.Option.{Option, none, some}
use Rattle.characters.specs.Utf8.{utf8}
use Rattle.area.specs.declared.AreaName.{AreaName}
use Rattle.area.specs.declared.AreaName.TheVariants as Areas
use Rattle.area.specs.Names.{area_number}
use Rattle.area.specs.declared.State.{State}
use Rattle.area.specs.declared.Rule.{Rule}
use Rattle.area.specs.declared.Expected.{Expected}
use Rattle.area.specs.declared.Fault.{Fault}
use Rattle.area.specs.Bytes.{zeros}
use Rattle.answers.specs.Numbers.{accepted_number, long_file_number, unknown_flag_number, invalid_utf8_number, area_full_number, faulty_file_number, most_source}
use Rattle.answers.specs.Words.{Fields, fields, word}
use Rattle.area.specs.Contents.{append, laid, state_format, rule_format, entry_format, text_format, expected_format, fault_format}
use Rattle.fault.specs.Step.{Out, go, bad, full, next, onto, written}
use Rattle.fault.specs.Faults.{add_fault}
use Rattle.section.specs.declared.options.Options.{Options}
use Rattle.section.specs.Request.{Request}
use Rattle.declarations.specs.Declarations.{Declared, declarations, state}
use Rattle.rules_section.specs.RulesSection.{Ruled, rules_section}
use Rattle.declarations.specs.Declarations as D
use Rattle.rules_section.specs.RulesSection as R
use Rattle.parse.specs.declared.ParseError.{ParseError}
use Rattle.parse.specs.declared.ParseError.TheVariants.{LongFile, UnknownFlag, InvalidUtf8, AreaFull, FaultyFile}

-- what stands in the six areas
pub record Contents : Type 0 where
  pub states : List State
  pub rules : List Rule
  pub lists : List ℕ
  pub text : List ℕ
  pub expected : List Expected
  pub faults : List Fault

-- how many bytes each area has
pub record Caps : Type 0 where
  pub c1 : ℕ
  pub c2 : ℕ
  pub c3 : ℕ
  pub c4 : ℕ
  pub c5 : ℕ
  pub c6 : ℕ

abbrev pub caps : ℕ → ℕ → ℕ → ℕ → ℕ → ℕ → Caps
caps x1 x2 x3 x4 x5 x6 = record { c1 = x1; c2 = x2; c3 = x3; c4 = x4; c5 = x5; c6 = x6 }

abbrev pub declaration_caps : Caps → D.Caps
declaration_caps k = record { c1 = k.c1; c5 = k.c5; c6 = k.c6 }

abbrev pub rule_caps : Caps → R.Caps
rule_caps k = record { c2 = k.c2; c3 = k.c3; c4 = k.c4 }

-- what becomes of a file: refused by the number 1, 2 or 3; an area was full (4); these faults (5); or accepted
pub data Outcome : Type 0 where
  long_file : Outcome
  unknown_flag : Outcome
  invalid_utf8 : Outcome
  area_full : AreaName → Outcome
  faulty : List Fault → Outcome
  accepted : Contents → Outcome

-- the fault list with the fault that ends parsing as the last, or none where area 6 has no room for it
unfoldable pub closed : Option (List Fault) → Outcome
closed none = area_full Areas.Faults
closed (some fs) = faulty fs

-- what a section comes to: on with g, or the end; area 6 has cap bytes
abbrev pub ending : {S : Type 0} → (S → List Fault) → ℕ → Out S → (ℕ → S → Outcome) → Outcome
ending faults cap (go i s) g = g i s
ending faults cap (bad kind at s) g = closed (add_fault cap kind at at (faults s))
ending faults cap (full name) g = area_full name

-- number 5 where the fault list is not empty at the end
unfoldable pub judge : Contents → Outcome
judge b = cond (eqb (length b.faults) 0) (accepted b) (faulty b.faults)

abbrev pub contents_of : Declared → Ruled → Contents
contents_of d r =
    record { states = d.states; rules = r.rules; lists = r.lists; text = r.text; expected = d.expected; faults = r.faults }

-- no rules yet
abbrev pub no_rules : Declared → Ruled
no_rules d = record { rules = []; lists = []; text = []; faults = d.faults }

-- nothing is declared yet
abbrev pub undeclared : Declared
undeclared = record { states = []; expected = []; faults = [] }

abbrev pub with_states : Declared → List State → Declared
with_states d xs = record { states = xs; expected = d.expected; faults = d.faults }

-- state 0 is written first of all: INITIAL with the span (0,0), not exclusive; then the declarations
unfoldable pub opening : List ℕ → Options → D.Caps → Declared → Out Declared
opening s options k d =
    next (onto (with_states d) (written Areas.States 0 (append state_format k.c1 (state 0 0 0 ∷ []) d.states))) (declarations s options k)

module _ (q : Request) (k : Caps) where
  -- the rules from i on, and what follows them
  unfoldable pub rules_from : ℕ → Declared → Outcome
  rules_from i d =
      ending (λ r. r.faults) k.c6 (rules_section q d.states (rule_caps k) k.c6 i (no_rules d)) (λ j r. judge (contents_of d r))

  -- the file from its start
  unfoldable pub file : Outcome
  file = ending (λ d. d.faults) k.c6 (opening q.source q.options (declaration_caps k) undeclared) rules_from

  -- 1, 2, 3, then 4 or 5, whichever comes first
  unfoldable pub outcome : Outcome
  outcome =
      cond (ltb most_source (length q.source)) long_file
      (cond q.unknown_flags unknown_flag
      (cond (utf8 q.source) file invalid_utf8))

-- ---- the call

-- accepted, or refused by a number
abbrev pub ParseAnswer : Type 0
ParseAnswer = Result (Unit {0}) ParseError

abbrev pub parse_accepted : ParseAnswer
parse_accepted = Ok tt

-- what the call leaves: its answer, the six counts and the six areas
pub record Left : Type 0 where
  pub answer : ParseAnswer
  pub counts : List ℕ
  pub area1 : List ℕ
  pub area2 : List ℕ
  pub area3 : List ℕ
  pub area4 : List ℕ
  pub area5 : List ℕ
  pub area6 : List ℕ

abbrev pub left : ParseAnswer → List ℕ → List ℕ → List ℕ → List ℕ → List ℕ → List ℕ → List ℕ → Left
left r n x1 x2 x3 x4 x5 x6 = record { answer = r; counts = n; area1 = x1; area2 = x2; area3 = x3; area4 = x4; area5 = x5; area6 = x6 }

-- 1 to 4: all six areas zero
abbrev pub cleared : ParseAnswer → Caps → Left
cleared r k = left r (zeros 6) (zeros k.c1) (zeros k.c2) (zeros k.c3) (zeros k.c4) (zeros k.c5) (zeros k.c6)

-- 5: all but the fault records
abbrev pub faults_left : List Fault → Caps → Left
faults_left fs k =
    left (Err (FaultyFile (length fs))) (zeros 6) (zeros k.c1) (zeros k.c2) (zeros k.c3) (zeros k.c4) (zeros k.c5) (laid fault_format k.c6 fs)

-- the count of each area's records or bytes
abbrev pub counts_of : Contents → List ℕ
counts_of b = length b.states ∷ length b.rules ∷ length b.lists ∷ length b.text ∷ length b.expected ∷ length b.faults ∷ []

-- accepted: everything past the records is zero
abbrev pub sheet_left : Contents → Caps → Left
sheet_left b k =
    left parse_accepted (counts_of b)
    (laid state_format k.c1 b.states)
    (laid rule_format k.c2 b.rules)
    (laid entry_format k.c3 b.lists)
    (laid text_format k.c4 b.text)
    (laid expected_format k.c5 b.expected)
    (laid fault_format k.c6 b.faults)

-- what the call leaves by the outcome (01, Numbers given at the counter)
unfoldable pub leaves : Caps → Outcome → Left
leaves k long_file = cleared (Err LongFile) k
leaves k unknown_flag = cleared (Err UnknownFlag) k
leaves k invalid_utf8 = cleared (Err InvalidUtf8) k
leaves k (area_full name) = cleared (Err (AreaFull name)) k
leaves k (faulty fs) = faults_left fs k
leaves k (accepted b) = sheet_left b k

-- the parse call
unfoldable pub parse_call : Request → Caps → Left
parse_call q k = leaves k (outcome q k)

-- ---- the answers as words

-- the number and the value of each answer (01, Numbers given at the counter)
unfoldable pub parse_fields : ParseAnswer → Fields
parse_fields (Ok x) = fields accepted_number 0 0 0
parse_fields (Err LongFile) = fields long_file_number 0 0 0
parse_fields (Err UnknownFlag) = fields unknown_flag_number 0 0 0
parse_fields (Err InvalidUtf8) = fields invalid_utf8_number 0 0 0
parse_fields (Err (AreaFull name)) = fields area_full_number (area_number name) 0 0
parse_fields (Err (FaultyFile n)) = fields faulty_file_number n 0 0

abbrev pub parse_word : ParseAnswer → ℕ
parse_word x = word (parse_fields x)
