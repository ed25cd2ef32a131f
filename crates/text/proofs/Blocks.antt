-- Positions that are looked at together: where none of a block passes, the walk for the first that does goes on behind the block, and the walk
-- for the last in front of it; where one may, the walk within the block answers, or it goes on as well.
use mathlib.Core.Path.{◌≡◌, sym, ◌∙◌}
use mathlib.Core.Bool.{Bool, false}
use mathlib.Core.List.{List}
use Prim.Native.Nat.{ℕ, ◌+◌, ◌-◌, ◌≤◌, ◌<◌}
use native.Mathlib.Omega.{arith}
use borrow.Author.Rules.{rules}
use lib.ListN.{length}
use Rattle.characters.specs.Class.{is_blank}
use Rattle.characters.specs.Walk.{any, first, Between}
use Rattle.characters.specs.Whitespace.{byte, at_line_end}
use Rattle.text.specs.Scan.{find_line_end, line_end, last_blank}
use Rattle.characters.specs.Shortcuts.{RulesOut, may_end_line}
use Rattle.characters.proofs.Spaces.{end_may_start}
use Rattle.characters.proofs.Walks.{first_here, first_over, first_from, last_over}
use Rattle.characters.proofs.Firsts.{first_passes, first_before}
use Rattle.characters.proofs.Runs.{block_fails}

-- ---- the first that passes

module _ (test : ℕ → Bool) (i m e : ℕ) (h : i ≤ m) (l : m ≤ e) where
  -- none before m: it goes on from there
  pub first_behind : m ≤ first test i m → first test i e ≡ first test m e
  first_behind n = first_over test i m e h l (λ k a b. first_before test i m h k a (omega arith))

  -- one before m: it is the same up to e
  pub first_cut : first test i m < m → first test i m ≡ first test i e
  first_cut n =
      first_here test (first test i m) e (omega arith) (first_passes test i m h n)
      ∙ sym (first_over test i (first test i m) e (first_from test i m) (omega arith) (first_before test i m h))

-- ---- line ends

-- no line end stands where the byte may end no line
pub may_end : (s : List ℕ) (k : ℕ) (r : Bool) → RulesOut (may_end_line (byte s k)) r → r ≡ false → false ≡ at_line_end s k
may_end s k r f e = sym ((end_may_start s k r f).none e)

-- the loop began at i and stands at k
module _ (s : List ℕ) (i k : ℕ) (before : line_end s i ≡ line_end s k) where
  module _ (l : k + 16 ≤ length s) where
    pub block_without : (r : Bool) → RulesOut (any (λ j. at_line_end s (k + j)) 16) r → r ≡ false → line_end s i ≡ line_end s (k + 16)
    block_without r e f =
        before
        ∙ first_over (at_line_end s) k (k + 16) (length s) (omega arith) l (λ m a b. block_fails (at_line_end s) k 16 m (e.none f) a (omega arith))

    module _ (end : ℕ) (f : Between k (k + 16) (find_line_end s k (k + 16)) end) where
      pub block_ends : end < k + 16 → i ≤ k → Between i (length s) (line_end s i) end
      block_ends h a =
          record {
            is = f.is ∙ first_cut (at_line_end s) k (k + 16) (length s) (omega arith) l (rw (← f.is) h) ∙ sym before;
            from = omega (arith, f.from);
            to = omega arith;
          }

      pub block_passed : k + 16 ≤ end → line_end s i ≡ line_end s (k + 16)
      block_passed h = before ∙ first_behind (at_line_end s) k (k + 16) (length s) (omega arith) l (rw (← f.is) h)

  pub rest_ends : (end : ℕ) → Between k (length s) (line_end s k) end → i ≤ k → Between i (length s) (line_end s i) end
  rest_ends end f a = record { is = f.is ∙ sym before; from = omega (arith, f.from); to = f.to }

pub ruleset passing_blocks = (rules, block_without, block_ends, block_passed, rest_ends)

-- ---- blanks, from the end

-- the loop came down from e and stands at k
pub block_blankless :
    (s : List ℕ) (i k e block next : ℕ) (r : Bool)
    → last_blank s i e ≡ last_blank s i k
    → next ≡ k - block
    → i + block ≤ k
    → RulesOut (any (λ j. is_blank (byte s (next + j))) block) r
    → r ≡ false
    → last_blank s i e ≡ last_blank s i next
block_blankless s i k e block next r before is l f g =
    before
    ∙ last_over (λ x. is_blank (byte s x)) i next k (omega arith) (omega arith)
    (λ m a b. block_fails (λ x. is_blank (byte s x)) next block m (f.none g) a (omega arith))

pub ruleset passing_blankless = (rules, block_blankless)
