-- Marks of names, and what a search may use of the rules held (02, 4/13); 01 has none of it. A name is compared with the names of the rules only where
-- its mark is set, so the answer of a search never depends on the marks.
use Rattle.std.specs.Prelude.{ℕ, ◌+◌, ◌*◌, ◌-◌, ◌%◌, ◌≤◌, ◌<◌, ◌≡◌, Bool, true, false, List, length, get_or}
use Rattle.area.specs.declared.Rule.{Rule}
use Rattle.area.specs.Records.{rule_of, nth_rule}
use Rattle.area.specs.Lists.{Each}
use Rattle.names.specs.Names.{name_of, DistinctNames}

-- how many marks there are
abbrev pub mark_count : ℕ
mark_count = 4096

-- the byte that is the k-th from a name's end; of a shorter name the first
abbrev pub from_end : List ℕ → ℕ → ℕ
from_end name k = get_or name (length name - k) 0

-- the place of a name's mark, by its last four bytes and its length
unfoldable pub mark_of : List ℕ → ℕ
mark_of name =
    (from_end name 1 + 10 * from_end name 2 + 100 * from_end name 3 + 1000 * from_end name 4 + length name) % mark_count

-- r is the place of the name's mark, and one of the places
pub record Mark (name : List ℕ) (r : ℕ) : Type 0 where
  pub is : r ≡ mark_of name
  pub small : r < mark_count

-- the marks of the names of the rules xs are set
pub record Marked (s : List ℕ) (xs : List Rule) (marks : List Bool) : Type 0 where
  pub long : length marks ≡ mark_count
  pub each : (j : ℕ) → j < length xs → (nth_rule xs j).named ≡ 1 → get_or marks (mark_of (name_of s (nth_rule xs j))) false ≡ true

-- the name of the rule x ends inside the source, so that it is as long as its record says (02, 4/13)
abbrev pub EndsInside : List ℕ → Rule → Type 0
EndsInside s x = x.name_from + x.name_length ≤ length s

-- the names of the rules xs end inside the source (02, 4/13)
abbrev pub NamesInside : List ℕ → List Rule → Type 0
NamesInside s xs = Each (λ _ x. EndsInside s x) (rule_of (λ _. 0)) xs

-- what a search may use of the rules xs: the marks of their names, that the names end inside the source, and that no two are the same
pub record NamesHeld (s : List ℕ) (xs : List Rule) (marks : List Bool) : Type 0 where
  pub marked : Marked s xs marks
  pub inside : NamesInside s xs
  pub distinct : DistinctNames s xs
