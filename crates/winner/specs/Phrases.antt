-- What the contracts of the code speak of: the lexer that is lent, and what a function may rely on.
use Rattle.std.specs.Prelude.{ℕ, ◌≤◌, ◌<◌, List, length, cond, eqb, Option, Some, None}
use Rattle.area.specs.declared.State.{State}
use Rattle.area.specs.declared.Rule.{Rule}
use Rattle.area.specs.Records.{nth_rule}
use Rattle.winner.specs.declared.Best.{Best}
use Rattle.winner.specs.Winner.{Lexer, list_end}

-- the lexer of these states, rules and list entries
abbrev pub lexer : List State → List Rule → List ℕ → Lexer
lexer states rules entries = record { states = states; rules = rules; lists = entries }

-- the list of each rule lies inside the list entries
pub record ListsInside (rules : List Rule) (lists : List ℕ) : Type 0 where
  pub each : (k : ℕ) → k < length rules → list_end (nth_rule rules k) ≤ length lists

-- the winner; none where the greatest length is 0
unfoldable pub winning : Best → Option Best
winning b = cond (eqb b.length 0) None (Some b)
