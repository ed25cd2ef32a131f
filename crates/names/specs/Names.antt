-- Names of states and of rules: their form, and the record whose name stands in the source from a to e (01, Declarations and Rules).
use Rattle.std.specs.Prelude.{ℕ, ◌+◌, ◌<◌, ◌≡◌, Bool, cond, not, ◌&&◌, ◌||◌, List, [], ◌∷◌, eqb, ltb, length}
use Rattle.characters.specs.Class.{among, is_letter, is_digit}
use Rattle.characters.specs.Walk.{first}
use Rattle.characters.specs.Whitespace.{byte}
use Rattle.text.specs.Range.{part, same_bytes, same_range}
use Rattle.area.specs.declared.State.{State}
use Rattle.area.specs.declared.Rule.{Rule}
use Rattle.area.specs.Records.{nth_state, nth_rule}

-- the bytes from a to before e all pass the test
unfoldable pub all_bytes : (ℕ → Bool) → List ℕ → ℕ → ℕ → Bool
all_bytes test s a e = eqb (first (λ k. not (test (byte s k))) a e) e

-- a letter, a digit, `_` or `.` (01, Declarations)
unfoldable pub is_name_byte : ℕ → Bool
is_name_byte b = is_letter b || (is_digit b || among (0x5f ∷ 0x2e ∷ []) b)

-- a letter, and then bytes of names (01, Declarations)
unfoldable pub is_state_name : List ℕ → ℕ → ℕ → Bool
is_state_name s a e = ltb a e && (is_letter (byte s a) && all_bytes is_name_byte s (a + 1) e)

-- INITIAL, the name of state 0 (01, Areas, 1)
abbrev pub initial : List ℕ
initial = 0x49 ∷ 0x4e ∷ 0x49 ∷ 0x54 ∷ 0x49 ∷ 0x41 ∷ 0x4c ∷ []

-- the state j has the name from a to e: state 0 is INITIAL, the others' names stand at their spans (01, Areas, 1)
unfoldable pub is_state : List ℕ → ℕ → ℕ → List State → ℕ → Bool
is_state s a e xs j = cond (eqb j 0) (same_bytes (part s a e) initial) (same_range s a e s (nth_state xs j).start (nth_state xs j).end)

-- the state of that name; the number of states where there is none (01, Declarations and Rules)
unfoldable pub find_state : List ℕ → ℕ → ℕ → List State → ℕ
find_state s a e xs = first (is_state s a e xs) 0 (length xs)

-- the bytes of a rule's name, in the source s (01, Areas, 2)
unfoldable pub name_of : List ℕ → Rule → List ℕ
name_of s x = part s x.name_from (x.name_from + x.name_length)

-- of two rules that are named, the later has another name (01, Rules: a rule whose name is repeated is dropped)
pub record DistinctNames (s : List ℕ) (xs : List Rule) : Type 0 where
  pub differ : (i j : ℕ) → i < j → j < length xs → (nth_rule xs i).named ≡ 1 → (nth_rule xs j).named ≡ 1
      → name_of s (nth_rule xs i) ≡ name_of s (nth_rule xs j) → ⊥

-- the rule x has the name from a to e: an unnamed rule has none (01, Rules)
unfoldable pub has_name : List ℕ → ℕ → ℕ → Rule → Bool
has_name s a e x = eqb x.named 1 && same_range s a e s x.name_from (x.name_from + x.name_length)

-- the rule of that name; the number of rules where there is none (01, Rules)
unfoldable pub find_rule : List ℕ → ℕ → ℕ → List Rule → ℕ
find_rule s a e xs = first (λ j. has_name s a e (nth_rule xs j)) 0 (length xs)
