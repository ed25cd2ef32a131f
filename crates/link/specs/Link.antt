-- Linking: the ids of named rules by a map; the numbers of rules and of entries that find no partner; and the link call (01, Linking).
use Rattle.std.specs.Prelude.{ℕ, ◌*◌, Bool, true, false, cond, not, ◌&&◌, List, [], map, eqb, leb, length, Result, Ok, Err}
use Rattle.std.proofs.Math.Option.{Option, none, some}
use Rattle.text.specs.Range.{same_bytes}
use Rattle.area.specs.declared.Rule.{Rule}
use Rattle.area.specs.Records.{entry_width}
use Rattle.area.specs.Contents.{rule_format, entry_format, laid, relaid}
use Rattle.area.specs.Lists.{all, numbers_of}
use Rattle.answers.specs.Numbers.{accepted_number, area_full_number, broken_sheet_number, broken_map_number}
use Rattle.answers.specs.Words.{Fields, fields, word}
use Rattle.sheet_check.specs.SheetCheck.{SheetBytes, name_in, decoded, sheet_check}
use Rattle.link.specs.declared.Linked.{Linked}
use Rattle.link.specs.declared.LinkArea.{LinkArea}
use Rattle.link.specs.declared.LinkArea.TheVariants.{Unmapped, Unused}
use Rattle.link.specs.declared.LinkError.{LinkError}
use Rattle.link.specs.declared.LinkError.TheVariants.{BrokenSheet, BrokenMap, AreaFull}
use Rattle.link.specs.Areas.{link_area_number}
use Rattle.name_map.specs.Map.{Entry, entry, entries_of, id_of, map_check}

-- ---- a rule

abbrev pub is_named : Rule → Bool
is_named x = eqb x.named 1

-- the same rule with another mark and id
unfoldable pub with_id : ℕ → ℕ → Rule → Rule
with_id has i x = record {
  has_id = has;
  id = i;
  named = x.named;
  span_start = x.span_start;
  span_end = x.span_end;
  name_from = x.name_from;
  name_length = x.name_length;
  place = x.place;
  text_from = x.text_from;
  text_length = x.text_length;
  list_from = x.list_from;
  list_count = x.list_count;
  operation = x.operation;
  target = x.target;
}

-- the id that was found, or none: then both fields are 0
unfoldable pub with_found : Option ℕ → Rule → Rule
with_found (some i) x = with_id 1 i x
with_found none x = with_id 0 0 x

-- ---- a rule by its name

unfoldable pub is_none : Option ℕ → Bool
is_none none = true
is_none (some i) = false

-- a named rule without an id
unfoldable pub is_unlinked : Rule → Bool
is_unlinked x = is_named x && eqb x.has_id 0

-- numbers of named rules without an id: after linking, the unmapped ones
unfoldable pub unlinked : List Rule → List ℕ
unlinked xs = numbers_of is_unlinked rule_format.blank xs

-- where the bytes of a rule's name stand is for the sheet to say, so what follows is given the name of each rule
module _ (name : Rule → List ℕ) where
  -- a named rule gets its entry's id or none, an unnamed one keeps its own
  unfoldable pub link_rule : List Entry → Rule → Rule
  link_rule es x = cond (is_named x) (with_found (id_of es (name x)) x) x

  unfoldable pub link_rules : List Entry → List Rule → List Rule
  link_rules es xs = map (link_rule es) xs

  -- a named rule whose name has no entry
  unfoldable pub is_unmapped : List Entry → Rule → Bool
  is_unmapped es x = is_named x && is_none (id_of es (name x))

  -- the rule has these bytes for its name
  unfoldable pub has_that_name : List ℕ → Rule → Bool
  has_that_name bytes x = is_named x && same_bytes bytes (name x)

  -- no rule has these bytes for its name
  unfoldable pub is_unused : List Rule → List ℕ → Bool
  is_unused xs bytes = all (λ x. not (has_that_name bytes x)) xs

  -- numbers of unmapped named rules, by position: area 7
  unfoldable pub unmapped : List Entry → List Rule → List ℕ
  unmapped es xs = numbers_of (is_unmapped es) rule_format.blank xs

  -- numbers of entries that no rule names, in map order: area 8
  unfoldable pub unused : List Entry → List Rule → List ℕ
  unused es xs = numbers_of (λ e. is_unused xs e.name) (entry [] 0) es

-- ---- the call

-- the counts of areas 7 and 8, or why it is refused
abbrev pub LinkAnswer : Type 0
LinkAnswer = Result Linked LinkError

abbrev pub linked_answer : ℕ → ℕ → LinkAnswer
linked_answer a b = Ok (record { unmapped_count = a; unused_count = b })

-- what the call leaves: its answer, and areas 2, 7 and 8
pub record LinkLeft : Type 0 where
  pub answer : LinkAnswer
  pub area2 : List ℕ
  pub area7 : List ℕ
  pub area8 : List ℕ

abbrev pub link_left : LinkAnswer → List ℕ → List ℕ → List ℕ → LinkLeft
link_left r x2 x7 x8 = record { answer = r; area2 = x2; area7 = x7; area8 = x8 }

-- the numbers fit an area (01, Numbers given at the counter, 4)
unfoldable pub fits : List ℕ → List ℕ → Bool
fits ns l = leb (length ns * entry_width) (length l)

-- the same of so many numbers, or number 4 for that area
unfoldable pub room_for : ℕ → List ℕ → LinkArea → Result (Unit {0}) LinkError
room_for n l area = cond (leb (n * entry_width) (length l)) (Ok tt) (Err (AreaFull area))

module _ (name : Rule → List ℕ) where
  -- all three areas written
  unfoldable pub link_all : LinkAnswer → List Rule → List Entry → List ℕ → List ℕ → List ℕ → LinkLeft
  link_all r xs es x2 x7 x8 =
      link_left r (relaid rule_format x2 (link_rules name es xs))
      (laid entry_format (length x7) (unmapped name es xs))
      (laid entry_format (length x8) (unused name es xs))

  -- a sheet and a map that passed their checks: number 4 for area 7, then for area 8
  unfoldable pub link_checked : List Rule → List Entry → List ℕ → List ℕ → List ℕ → LinkLeft
  link_checked xs es x2 x7 x8 =
      cond (fits (unmapped name es xs) x7)
      (cond (fits (unused name es xs) x8)
      (link_all (linked_answer (length (unmapped name es xs)) (length (unused name es xs))) xs es x2 x7 x8)
      (link_left (Err (AreaFull Unused)) x2 x7 x8))
      (link_left (Err (AreaFull Unmapped)) x2 x7 x8)

-- the link call: 6, 7, then 4; a refusal changes nothing
unfoldable pub link_call : SheetBytes → List ℕ → List ℕ → List ℕ → List ℕ → LinkLeft
link_call b names entries x7 x8 =
    cond (sheet_check b)
    (cond (map_check names entries)
    (link_checked (name_in b) (decoded b).rules (entries_of names entries) b.area2 x7 x8)
    (link_left (Err BrokenMap) b.area2 x7 x8))
    (link_left (Err BrokenSheet) b.area2 x7 x8)

-- the number and the values of each answer (01, Numbers given at the counter)
unfoldable pub link_fields : LinkAnswer → Fields
link_fields (Ok x) = fields accepted_number x.unmapped_count x.unused_count 0
link_fields (Err BrokenSheet) = fields broken_sheet_number 0 0 0
link_fields (Err BrokenMap) = fields broken_map_number 0 0 0
link_fields (Err (AreaFull a)) = fields area_full_number (link_area_number a) 0 0

abbrev pub link_word : LinkAnswer → ℕ
link_word x = word (link_fields x)
