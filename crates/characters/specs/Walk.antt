-- Walks over positions, of which every search in a text is an instance. A `let` keeps a walk from computing past its end.
use Rattle.std.specs.Prelude.{◌≡◌, Bool, true, false, cond, ◌||◌, ℕ, zero, suc, ◌+◌, ◌-◌, ◌≤◌, ◌<◌, eqb, Option, Some, None, MatchOption}

-- of the n positions from i on, the first that passes the test; i + n where none does
unfoldable pub first_of : (ℕ → Bool) → ℕ → ℕ → ℕ
first_of test i zero = i
first_of test i (suc n) = let r = first_of test (suc i) n in cond (test i) i r

-- the first position from i to before e that passes the test; e where none does
unfoldable pub first : (ℕ → Bool) → ℕ → ℕ → ℕ
unfolding first_of
first test i e = first_of test i (e - i)

-- of the n positions from i on, the last that passes the test
unfoldable pub last_of : (ℕ → Bool) → ℕ → ℕ → Option ℕ
last_of test i zero = None
last_of test i (suc n) = let r = last_of test i n in cond (test (i + n)) (Some (i + n)) r

-- the last position from i to before e that passes the test
unfoldable pub last : (ℕ → Bool) → ℕ → ℕ → Option ℕ
unfolding last_of
last test i e = last_of test i (e - i)

-- 1 where a test passes, 0 where it does not
abbrev pub one_if : Bool → ℕ
one_if t = cond t 1 0

-- how many of the n positions from i on pass the test
unfoldable pub count_of : (ℕ → Bool) → ℕ → ℕ → ℕ
count_of test i zero = 0
count_of test i (suc n) = count_of test i n + one_if (test (i + n))

-- how many of the positions from i to before e pass the test
unfoldable pub count : (ℕ → Bool) → ℕ → ℕ → ℕ
unfolding count_of
count test i e = count_of test i (e - i)

-- one of the first n positions passes the test
unfoldable pub any : (ℕ → Bool) → ℕ → Bool
any test zero = false
any test (suc n) = any test n || test n

-- k, then next k, and so on until it stays the same: at most n times
unfoldable pub repeat : (ℕ → ℕ) → ℕ → ℕ → ℕ
repeat next zero k = k
repeat next (suc n) k = let j = next k in let r = repeat next n j in cond (eqb j k) k r

-- past characters that follow one another from k on, of which width measures the one at a position, and 0 where none is: at most n of them
unfoldable pub skip : (ℕ → ℕ) → ℕ → ℕ → ℕ
skip width n k = repeat (λ j. j + width j) n k

-- r is n, which is not before i and not past e
pub record Between (i e n r : ℕ) : Type 0 where
  pub is : r ≡ n
  pub from : i ≤ r
  pub to : r ≤ e

-- r is the position n, where it is below e; none where n is e
abbrev pub Below : ℕ → ℕ → Option ℕ → Type 0
Below e n (Some k) = (k < e) × (k ≡ n)
Below e n None = e ≡ n

-- ---- what code that walks promises, of a test that may give the answers at a position

-- the answer is false at each position from i to before r, and true at r where that is before e
pub record FirstTrue (answers : ℕ → Bool → Type 0) (i e r : ℕ) : Type 0 where
  pub fails : (k : ℕ) → i ≤ k → k < r → answers k false
  pub passes : r < e → answers r true

-- r is the first position from i to before e where the answer is true, or e
pub record Finds (answers : ℕ → Bool → Type 0) (i e r : ℕ) : Type 0 where
  pub from : i ≤ r
  pub to : r ≤ e
  pub is : FirstTrue answers i e r

-- q is the last position from i to before e where the answer is true
pub record FoundLast (answers : ℕ → Bool → Type 0) (i e q : ℕ) : Type 0 where
  pub from : i ≤ q
  pub to : q < e
  pub passes : answers q true
  pub fails : (k : ℕ) → q < k → k < e → answers k false

-- o is the last such position, and None where the answer is false at each
pub record FindsLast (answers : ℕ → Bool → Type 0) (i e : ℕ) (o : Option ℕ) : Type 0 where
  pub is : MatchOption o ((k : ℕ) → i ≤ k → k < e → answers k false) (FoundLast answers i e)

-- found says whether the answer is true at one of the first n positions
pub record Asks (answers : ℕ → Bool → Type 0) (n : ℕ) (found : Bool) : Type 0 where
  pub none : found ≡ false → (j : ℕ) → j < n → answers j false
  pub one : found ≡ true → (j : ℕ) × (j < n) × answers j true

-- r is past the characters that follow one another from i on, of which the numbers are the widths: each ends by e
pub record Skips (numbers : ℕ → ℕ → Type 0) (i e r : ℕ) : Type 0 where
  pub rule : (width : ℕ → ℕ) → ((k : ℕ) → 0 < width k → k + width k ≤ e) → ((k n : ℕ) → k ≤ e → numbers k n → n ≡ width k) → Between i e (skip width e i) r
