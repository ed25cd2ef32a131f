-- The entry of each rule, looked up once, and marks of the entries that a rule has; 01 has none of it.
use Rattle.std.specs.Prelude.{ℕ, ◌<◌, ◌≡◌, Bool, true, false, not, cond, List, length, get_or, Option, Some, None}
use Rattle.std.proofs.Math.Option as Math
use Rattle.area.specs.declared.Rule.{Rule}
use Rattle.area.specs.Records.{nth_rule}
use Rattle.area.specs.Lists.{numbers}
use Rattle.name_map.specs.Map.{Entry, found_entry, id_at}
use Rattle.link.specs.declared.matches.Matches.{Matches}
use Rattle.link.specs.Link.{is_named, with_found, unmapped, unused}

-- the id of the entry that was found
abbrev pub found_id : List Entry → Option ℕ → Math.Option ℕ
found_id es (Some j) = id_at es j
found_id es None = Math.none

-- a named rule gets that id or none, an unnamed one keeps its own
unfoldable pub link_to : List Entry → Option ℕ → Rule → Rule
link_to es found x = cond (is_named x) (with_found (found_id es found) x) x

-- the numbers below n without a mark
abbrev pub unmarked : List Bool → ℕ → List ℕ
unmarked used n = numbers (λ j. not (get_or used j false)) n

-- what was found is an entry
pub record FoundInside (es : List Entry) (found : List (Option ℕ)) : Type 0 where
  pub each : (i j : ℕ) → get_or found i None ≡ Some j → j < length es

-- what was found for the named ones of the first k rules
pub record EntriesFound (name : Rule → List ℕ) (es : List Entry) (xs : List Rule) (k : ℕ) (found : List (Option ℕ)) : Type 0 where
  pub each : (i : ℕ) → i < k → is_named (nth_rule xs i) ≡ true → get_or found i None ≡ found_entry es (name (nth_rule xs i))

-- the number of unmapped rules, the entries that were found, and marks that only the unused entries lack
pub record MatchedInto (name : Rule → List ℕ) (es : List Entry) (xs : List Rule) (count : ℕ) (found : List (Option ℕ)) (used : List Bool) : Type 0 where
  pub missing : count ≡ length (unmapped name es xs)
  pub kept : EntriesFound name es xs (length xs) found
  pub inside : FoundInside es found
  pub without_mark : unmarked used (length es) ≡ unused name es xs

-- the same, as one value
abbrev pub Matched : (Rule → List ℕ) → List Entry → List Rule → Matches → Type 0
Matched name es xs m = MatchedInto name es xs m.unmapped_count m.found m.used
