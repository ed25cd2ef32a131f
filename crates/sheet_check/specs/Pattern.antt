-- The pattern of a rule, as a part of the source or of the rewritten text (01, Areas, 4).
use Rattle.std.specs.Prelude.{ℕ, ◌+◌, Bool, cond, ◌&&◌, List, [], eqb, ltb, length, take, drop, Option, Some, None}
use Rattle.area.specs.declared.Rule.{Rule}
use Rattle.area.specs.Records.{nth_rule}
use Rattle.answers.specs.Numbers.{accepted_number, broken_sheet_number}
use Rattle.answers.specs.Words.{Fields, fields, word}
use Rattle.area.specs.declared.RuleText.{RuleText}
use Rattle.sheet_check.specs.SheetCheck.{SheetBytes, decoded, sheet_check}

-- the sheet passes its check, and the rule's number is not past the last (01, Numbers given at the counter, 6)
abbrev pub has_rule : SheetBytes → ℕ → Bool
has_rule b k = sheet_check b && ltb k (length (decoded b).rules)

-- where a rule's text stands: its place, from where, and its length
abbrev pub part_of : Rule → RuleText
part_of x = record { place = x.place; from = x.text_from; length = x.text_length }

-- the part of rule k; none where number 6 holds
unfoldable pub pattern_part : SheetBytes → ℕ → Option RuleText
pattern_part b k = cond (has_rule b k) (Some (part_of (nth_rule (decoded b).rules k))) None

-- the bytes of a part: place 1 is in the rewritten text, place 0 in the source; an empty part where number 6 holds
unfoldable pub text_of : SheetBytes → Option RuleText → List ℕ
text_of b (Some x) = take x.length (drop x.from (cond (eqb x.place 1) (decoded b).text b.source))
text_of b None = []

-- where a part starts in memory, for a source and an area 4 that start at s and at t (each a block of memory and an offset in it)
unfoldable pub start_of : ℕ × ℕ → ℕ × ℕ → Option RuleText → ℕ × ℕ
start_of s t (Some x) = cond (eqb x.place 1) (t.0, x.from + t.1) (s.0, x.from + s.1)
start_of s t None = s

-- what a call hands back: where it starts in memory, and its bytes
pub record Handed : Type 0 where
  pub start : ℕ × ℕ
  pub text : List ℕ

abbrev pub handed : ℕ × ℕ → List ℕ → Handed
handed p l = record { start = p; text = l }

-- the text of rule k
abbrev pub pattern_text : SheetBytes → ℕ → List ℕ
pattern_text b k = text_of b (pattern_part b k)

-- the pattern call, for a source and an area 4 that start at s and at t
abbrev pub pattern_call : ℕ × ℕ → ℕ × ℕ → SheetBytes → ℕ → Handed
pattern_call s t b k = handed (start_of s t (pattern_part b k)) (pattern_text b k)

-- the number of each answer
unfoldable pub number_of : Option RuleText → ℕ
number_of (Some x) = accepted_number
number_of None = broken_sheet_number

-- the number and the values of each answer
unfoldable pub pattern_fields : Option RuleText → Fields
pattern_fields (Some x) = fields accepted_number x.place x.from x.length
pattern_fields None = fields broken_sheet_number 0 0 0

abbrev pub pattern_word : Option RuleText → ℕ
pattern_word x = word (pattern_fields x)
