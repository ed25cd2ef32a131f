-- Files to try, cases 1 to 12, as one table (01, Files to try). ⏎ is U+000A.
use Rattle.std.specs.Prelude.{ℕ, ◌+◌, ◌≡◌, cond, List, [], ◌∷◌, map, eqb, get_or}
use Rattle.text.specs.Range.{part}
use Rattle.area.specs.declared.State.{State}
use Rattle.area.specs.declared.Rule.{Rule}
use Rattle.area.specs.Records.{rule_of}
use Rattle.fault.specs.Faults.{fault}
use Rattle.declarations.specs.Declarations.{state}
use Rattle.section.specs.Request.{asked}
use Rattle.parse.specs.Parse.{Caps, caps, Contents, Outcome, long_file, unknown_flag, invalid_utf8, area_full, faulty, accepted, outcome}

-- a file, its flags, what becomes of it, and the text of each of its rules
pub record Row : Type 0 where
  pub file : List ℕ
  pub flags : ℕ
  pub becomes : Outcome
  pub texts : List (List ℕ)

-- the record of these
abbrev pub row : List ℕ → ℕ → Outcome → List (List ℕ) → Row
row s flags o ts = record { file = s; flags = flags; becomes = o; texts = ts }

-- a rule by its 14 fields (01, Areas, 2)
abbrev pub rule : List ℕ → Rule
rule fields = rule_of (λ j. get_or fields j 0)

-- accepted: states, rules, lists and rewritten text; no expected names
abbrev pub sheet : List State → List Rule → List ℕ → List ℕ → Outcome
sheet xs rs ids t = accepted (record { states = xs; rules = rs; lists = ids; text = t; expected = []; faults = [] })

-- the state INITIAL alone (01, Areas, 1)
abbrev pub initial_only : List State
initial_only = state 0 0 0 ∷ []

-- ---- the table

-- each case has its number in 01, and its file above its row (01, Files to try)
abbrev pub table : List Row
table =
    -- 1. empty: kind 0 at 0
    row [] 0 (faulty (fault 0 0 0 0 ∷ [])) []
    -- 2. `%%` and `%%%%`: no rules
    ∷ row (0x25 ∷ 0x25 ∷ []) 0 (sheet initial_only [] [] []) []
    ∷ row (0x25 ∷ 0x25 ∷ 0x25 ∷ 0x25 ∷ []) 0 (sheet initial_only [] [] []) []
    -- 3. `%s A  B⏎%%`: kind 8 at 5
    ∷ row (0x25 ∷ 0x73 ∷ 0x20 ∷ 0x41 ∷ 0x20 ∷ 0x20 ∷ 0x42 ∷ 0x0a ∷ 0x25 ∷ 0x25 ∷ []) 0 (faulty (fault 0 8 5 5 ∷ [])) []
    -- 4. `%x INITIAL⏎%%`: kind 6, (0,0) and (3,10)
    ∷ row (0x25 ∷ 0x78 ∷ 0x20 ∷ 0x49 ∷ 0x4e ∷ 0x49 ∷ 0x54 ∷ 0x49 ∷ 0x41 ∷ 0x4c ∷ 0x0a ∷ 0x25 ∷ 0x25 ∷ []) 0 (faulty (fault 0 6 0 0 ∷ fault 0 6 3 10 ∷ [])) []
    -- 5. `%%⏎a 'N'⏎b 'N'⏎c 'N'`: kind 9, (6,7), (12,13) and (18,19)
    ∷ row (0x25 ∷ 0x25 ∷ 0x0a ∷ 0x61 ∷ 0x20 ∷ 0x27 ∷ 0x4e ∷ 0x27 ∷ 0x0a ∷ 0x62 ∷ 0x20 ∷ 0x27 ∷ 0x4e ∷ 0x27 ∷ 0x0a ∷ 0x63 ∷ 0x20 ∷ 0x27 ∷ 0x4e ∷ 0x27 ∷ []) 0 (faulty (fault 0 9 6 7 ∷ fault 0 9 12 13 ∷ fault 0 9 18 19 ∷ [])) []
    -- 6. `%%⏎\qab\ ;`: the text is `q`
    ∷ row (0x25 ∷ 0x25 ∷ 0x0a ∷ 0x5c ∷ 0x71 ∷ 0x61 ∷ 0x62 ∷ 0x5c ∷ 0x20 ∷ 0x3b ∷ []) 0
    (sheet initial_only (rule (1 ∷ 0 ∷ 0 ∷ 9 ∷ 9 ∷ 0 ∷ 0 ∷ 1 ∷ 0 ∷ 1 ∷ 0 ∷ 0 ∷ 0 ∷ 0 ∷ []) ∷ []) [] (0x71 ∷ []))
    ((0x71 ∷ []) ∷ [])
    -- 7. `%%⏎\qab\  ;`: the text is `qab` and a blank
    ∷ row (0x25 ∷ 0x25 ∷ 0x0a ∷ 0x5c ∷ 0x71 ∷ 0x61 ∷ 0x62 ∷ 0x5c ∷ 0x20 ∷ 0x20 ∷ 0x3b ∷ []) 0
    (sheet initial_only (rule (1 ∷ 0 ∷ 0 ∷ 10 ∷ 10 ∷ 0 ∷ 0 ∷ 1 ∷ 0 ∷ 4 ∷ 0 ∷ 0 ∷ 0 ∷ 0 ∷ []) ∷ []) [] (0x71 ∷ 0x61 ∷ 0x62 ∷ 0x20 ∷ []))
    ((0x71 ∷ 0x61 ∷ 0x62 ∷ 0x20 ∷ []) ∷ [])
    -- 8. `%%⏎\x{41} ;` has the text `x{41}`; in `%%⏎\x41 ;` the escape stays, place 0
    ∷ row (0x25 ∷ 0x25 ∷ 0x0a ∷ 0x5c ∷ 0x78 ∷ 0x7b ∷ 0x34 ∷ 0x31 ∷ 0x7d ∷ 0x20 ∷ 0x3b ∷ []) 0
    (sheet initial_only (rule (1 ∷ 0 ∷ 0 ∷ 10 ∷ 10 ∷ 0 ∷ 0 ∷ 1 ∷ 0 ∷ 5 ∷ 0 ∷ 0 ∷ 0 ∷ 0 ∷ []) ∷ []) [] (0x78 ∷ 0x7b ∷ 0x34 ∷ 0x31 ∷ 0x7d ∷ []))
    ((0x78 ∷ 0x7b ∷ 0x34 ∷ 0x31 ∷ 0x7d ∷ []) ∷ [])
    ∷ row (0x25 ∷ 0x25 ∷ 0x0a ∷ 0x5c ∷ 0x78 ∷ 0x34 ∷ 0x31 ∷ 0x20 ∷ 0x3b ∷ []) 0
    (sheet initial_only (rule (1 ∷ 0 ∷ 0 ∷ 8 ∷ 8 ∷ 0 ∷ 0 ∷ 0 ∷ 3 ∷ 4 ∷ 0 ∷ 0 ∷ 0 ∷ 0 ∷ []) ∷ []) [] [])
    ((0x5c ∷ 0x78 ∷ 0x34 ∷ 0x31 ∷ []) ∷ [])
    -- 9. `%%⏎\b ;` with flags 0: the text is `\b`, place 1; with flag 2 it is `\x08`
    ∷ row (0x25 ∷ 0x25 ∷ 0x0a ∷ 0x5c ∷ 0x62 ∷ 0x20 ∷ 0x3b ∷ []) 0
    (sheet initial_only (rule (1 ∷ 0 ∷ 0 ∷ 6 ∷ 6 ∷ 0 ∷ 0 ∷ 1 ∷ 0 ∷ 2 ∷ 0 ∷ 0 ∷ 0 ∷ 0 ∷ []) ∷ []) [] (0x5c ∷ 0x62 ∷ []))
    ((0x5c ∷ 0x62 ∷ []) ∷ [])
    ∷ row (0x25 ∷ 0x25 ∷ 0x0a ∷ 0x5c ∷ 0x62 ∷ 0x20 ∷ 0x3b ∷ []) 2
    (sheet initial_only (rule (1 ∷ 0 ∷ 0 ∷ 6 ∷ 6 ∷ 0 ∷ 0 ∷ 1 ∷ 0 ∷ 4 ∷ 0 ∷ 0 ∷ 0 ∷ 0 ∷ []) ∷ []) [] (0x5c ∷ 0x78 ∷ 0x30 ∷ 0x38 ∷ []))
    ((0x5c ∷ 0x78 ∷ 0x30 ∷ 0x38 ∷ []) ∷ [])
    -- 10. `%x S⏎%%⏎<S>\" ;`: the list is 1, the text `\"`
    ∷ row (0x25 ∷ 0x78 ∷ 0x20 ∷ 0x53 ∷ 0x0a ∷ 0x25 ∷ 0x25 ∷ 0x0a ∷ 0x3c ∷ 0x53 ∷ 0x3e ∷ 0x5c ∷ 0x22 ∷ 0x20 ∷ 0x3b ∷ []) 0
    (sheet (state 0 0 0 ∷ state 3 4 1 ∷ []) (rule (1 ∷ 0 ∷ 0 ∷ 14 ∷ 14 ∷ 0 ∷ 0 ∷ 0 ∷ 11 ∷ 2 ∷ 0 ∷ 1 ∷ 0 ∷ 0 ∷ []) ∷ []) (1 ∷ []) [])
    ((0x5c ∷ 0x22 ∷ []) ∷ [])
    -- 11. `%%⏎ a ;`: kind 11, (3,7)
    ∷ row (0x25 ∷ 0x25 ∷ 0x0a ∷ 0x20 ∷ 0x61 ∷ 0x20 ∷ 0x3b ∷ []) 0 (faulty (fault 0 11 3 7 ∷ [])) []
    -- 12. `%%⏎a <S`: kind 7 at 4
    ∷ row (0x25 ∷ 0x25 ∷ 0x0a ∷ 0x61 ∷ 0x20 ∷ 0x3c ∷ 0x53 ∷ []) 0 (faulty (fault 0 7 4 4 ∷ [])) []
    ∷ []

-- ---- what it says

-- room for all: the areas of the program `sheet` (01, Files to try, the end)
abbrev pub areas : Caps
areas = caps 384 57344 32768 32768 32768 32768

-- a rule's text, in the rewritten text or in the source s (01, Areas, 4)
abbrev pub text_of : List ℕ → Contents → Rule → List ℕ
text_of s b x = part (cond (eqb x.place 1) b.text s) x.text_from (x.text_from + x.text_length)

-- the texts of the rules of an accepted file; other files have none
abbrev pub texts_of : List ℕ → Outcome → List (List ℕ)
texts_of s (accepted b) = map (text_of s b) b.rules
texts_of s (faulty fs) = []
texts_of s (area_full name) = []
texts_of s long_file = []
texts_of s unknown_flag = []
texts_of s invalid_utf8 = []

-- row by row, each file becomes what its row says, and its rules have these texts. There are no verdicts
pub record Right (rows : List Row) : Type 0 where
  pub becomes : map (λ r. outcome (asked r.file r.flags []) areas) rows ≡ map (λ r. r.becomes) rows
  pub texts : map (λ r. texts_of r.file r.becomes) rows ≡ map (λ r. r.texts) rows
