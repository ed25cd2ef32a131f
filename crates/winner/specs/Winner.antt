-- The rule that a step goes by: of the rules that are live in the current state the one with the greatest length, the earlier at a tie
-- (01, The run).
use Rattle.std.specs.Prelude.{ℕ, zero, suc, ◌+◌, max, Bool, cond, ◌&&◌, ◌||◌, List, eqb, ltb}
use Rattle.characters.specs.Walk.{first}
use Rattle.area.specs.declared.State.{State}
use Rattle.area.specs.declared.Rule.{Rule}
use Rattle.area.specs.Records.{entry_at, nth_state, nth_rule, nth_entry}
use Rattle.winner.specs.declared.Best.{Best}

-- ---- what a run reads of a sheet

-- the states, the rules and the list entries (01, Areas, 1 to 3)
pub record Lexer : Type 0 where
  pub states : List State
  pub rules : List Rule
  pub lists : List ℕ

-- ---- a rule that is live

-- where a state stands among the list entries from one place to before another; the end where it does not
unfoldable pub find_in_list : List ℕ → ℕ → ℕ → ℕ → ℕ
find_in_list lists from end state = first (λ i. eqb (nth_entry lists i) state) from end

abbrev pub list_end : Rule → ℕ
list_end x = x.list_from + x.list_count

-- the list of a rule has a state
unfoldable pub in_list : List ℕ → ℕ → Rule → Bool
in_list lists state x = ltb (find_in_list lists x.list_from (list_end x) state) (list_end x)

-- the list of the rule has the state, or is empty and the state is not exclusive
unfoldable pub live : List State → List ℕ → ℕ → Rule → Bool
live states lists state x = in_list lists state x || (eqb x.list_count 0 && eqb (nth_state states state).exclusive 0)

-- ---- its length

-- the length that a row has for rule k
abbrev pub length_in : List ℕ → ℕ → ℕ
length_in row k = entry_at row k

-- the same where the rule is live in the state, and otherwise 0
unfoldable pub weight : Lexer → ℕ → List ℕ → ℕ → ℕ
weight x state row k = cond (live x.states x.lists state (nth_rule x.rules k)) (length_in row k) 0

-- ---- the winner

-- the greatest of f 0 up to f (n - 1), and 0 where n is 0
unfoldable pub greatest : (ℕ → ℕ) → ℕ → ℕ
greatest f zero = 0
greatest f (suc n) = max (greatest f n) (f n)

-- the first place that has it
unfoldable pub earliest : (ℕ → ℕ) → ℕ → ℕ
earliest f n = first (λ k. eqb (f k) (greatest f n)) 0 n

-- the greatest length, and the rule that wins by it
abbrev pub best : (ℕ → ℕ) → ℕ → Best
best f n = record { length = greatest f n; rule = earliest f n }

-- of a rule that wins among the earlier ones and rule k, of that weight, the one that wins
unfoldable pub better : Best → ℕ → ℕ → Best
better b k w = cond (ltb b.length w) (record { length = w; rule = k }) b

-- the first place from i to before e where f is x; e where there is none
abbrev pub first_with : (ℕ → ℕ) → ℕ → ℕ → ℕ → ℕ
first_with f x i e = first (λ k. eqb (f k) x) i e
