-- Whether a row fits, and a row that fits with its greatest length, by which the step mostly finds the winner without reading every rule. 01 has
-- none of the latter.
use Rattle.std.specs.Prelude.{ℕ, ◌≡◌, ◌*◌, Bool, ◌&&◌, true, false, List, eqb, length, Option, Some, None}
use Rattle.area.specs.Lists.{all}
use Rattle.area.specs.Records.{entry_width}
use Rattle.area.specs.Contents.{contents, entry_format}
use Rattle.winner.specs.declared.Row.{Row}
use Rattle.winner.specs.Winner.{length_in, greatest}

-- number 10: one length for each rule, and each passes the test
unfoldable pub good_row : (ℕ → Bool) → ℕ → List ℕ → Bool
good_row test rules row = eqb (length row) (rules * entry_width) && all test (contents entry_format row rules)

-- a row fits, and x has its lengths and the greatest of them
pub record RowFits (test : ℕ → Bool) (rules : ℕ) (row : List ℕ) (x : Row) : Type 0 where
  pub good : good_row test rules row ≡ true
  pub bytes_are : x.bytes.now ≡ row
  pub rules_are : x.rules ≡ rules
  pub greatest_is : x.top ≡ greatest (length_in row) rules

-- what an answer says of a row: it fits and has that greatest length, or it does not fit
abbrev pub RowTopIs : (ℕ → Bool) → ℕ → List ℕ → Option Row → Type 0
RowTopIs test rules row (Some x) = RowFits test rules row x
RowTopIs test rules row None = good_row test rules row ≡ false
