-- The first position that passes a test: it passes, those before it fail, and no other position is so. By induction on the positions.
use mathlib.Core.Path.{◌≡◌, refl, sym, ap, subst, ◌∙◌}
use mathlib.Core.Bool.{Bool, true, false, cond, true≢false}
use mathlib.Core.Logic.{◌⊎◌, inl, inr, ⊎_elim}
use Prim.Native.Nat.{ℕ, zero, suc, ◌+◌, ◌-◌, ◌≤◌, ◌<◌}
use native.Mathlib.Nat.{eq-or-lt_of_le}
use native.Mathlib.Omega.{arith}
use Rattle.characters.specs.Walk.{first_of, first}
use Rattle.characters.proofs.Tests.{le_or_lt}
use Rattle.characters.proofs.Walks.{first_here, first_over}

-- p is the first of the positions from i to before e that passes, or e
record First (test : ℕ → Bool) (i e p : ℕ) : Type 0 where
  passes : p < e → test p ≡ true
  before : (m : ℕ) → i ≤ m → m < p → test m ≡ false

first_of_is : (test : ℕ → Bool) (n i : ℕ) → First test i (i + n) (first_of test i n)
unfolding first_of
first_of_is test zero i = record { passes = λ h. absurd (omega (arith, h)); before = λ m h g. absurd (omega (arith, h, g)) }
first_of_is test (suc n) i = go (test i) refl (first_of_is test n (suc i))
  where
    go : (t : Bool) → test i ≡ t → First test (suc i) (suc i + n) (first_of test (suc i) n) → First test i (i + suc n) (cond t i (first_of test (suc i) n))
    go true e f = record { passes = λ h. e; before = λ m h g. absurd (omega (arith, h, g)) }
    go false e f = record {
      passes = λ h. f.passes (omega (arith, h));
      before = λ m h g. ⊎_elim (λ q. ap test (sym q) ∙ e) (λ l. f.before m l g) (eq-or-lt_of_le h);
    }

module _ (test : ℕ → Bool) (i e : ℕ) (h : i ≤ e) where
  first_is : First test i e (first test i e)
  unfolding first
  first_is =
      let q : i + (e - i) ≡ e = omega arith in
      subst (λ (x : ℕ). First test i x (first_of test i (e - i))) q (first_of_is test (e - i) i)

  pub first_passes : first test i e < e → test (first test i e) ≡ true
  first_passes = first_is.passes

  pub first_before : (m : ℕ) → i ≤ m → m < first test i e → test m ≡ false
  first_before = first_is.before

  -- where a position passes, the first that does is not behind it
  pub first_low : (j : ℕ) → i ≤ j → test j ≡ true → first test i e ≤ j
  first_low j g t = by (le_or_lt (first test i e) j)
    where
      by : (first test i e ≤ j) ⊎ (j < first test i e) → first test i e ≤ j
      by (inl l) = l
      by (inr l) = absurd (true≢false (sym t ∙ first_before j g l))

-- the position that passes, with those before it failing, is the first
pub first_only : (test : ℕ → Bool) (i j e : ℕ) → i ≤ j → j < e → test j ≡ true → ((m : ℕ) → i ≤ m → m < j → test m ≡ false) → first test i e ≡ j
first_only test i j e h l t f = first_over test i j e h (omega arith) f ∙ sym (first_here test j e l t)
