-- Code that walks by a test promises something of the test's answers (specs/Walk, at the end). Where the answers are those of a predicate, it has
-- walked as the definitions do; where they only rule the predicate out, so does what was found.
use Rattle.std.proofs.Common.{◌≡◌, refl, sym, ap, ◌∙◌, Bool, true, false, ℕ, ◌+◌, ◌-◌, ◌≤◌, ◌<◌, ◌⊎◌, inl, inr, arith, Option, Some, None}
use Rattle.characters.specs.Walk.{first, last, any, FirstTrue, FindsLast, Asks}
use Rattle.characters.specs.Shortcuts.{RulesOut}
use Rattle.characters.proofs.Tests.{le_or_lt}
use Rattle.characters.proofs.Walks.{first_here, first_none, first_over, last_here, last_none, last_over}
use Rattle.characters.proofs.Runs.{none_of, some_passes}

module _ (answers : ℕ → Bool → Type 0) (test : ℕ → Bool) where
  -- at each position from i to before e the answer is that of the predicate
  abbrev pub Answers : ℕ → ℕ → Type 0
  Answers i e = (k : ℕ) (b : Bool) → i ≤ k → k < e → answers k b → b ≡ test k

  -- what `find` promises, as a function names it: its bounds are facts by themselves, and the rest of it stands whole, or no search would try the law
  pub finds_first : (i e r : ℕ) → Answers i e → i ≤ r → r ≤ e → FirstTrue answers i e r → r ≡ first test i e
  finds_first i e r is from to f = go (le_or_lt e r)
    where
      passed : first test i e ≡ first test r e
      passed = first_over test i r e from to (λ m a b. sym (is m false a (omega (arith, to)) (f.fails m a b)))

      go : (e ≤ r) ⊎ (r < e) → r ≡ first test i e
      go (inl h) = first_none test r e h ∙ sym passed
      go (inr h) = first_here test r e h (sym (is r true from h (f.passes h))) ∙ sym passed

  pub finds_last : (i e : ℕ) (o : Option ℕ) → Answers i e → FindsLast answers i e o → o ≡ last test i e
  finds_last i e None is f = go (le_or_lt e i)
    where
      go : (e ≤ i) ⊎ (i < e) → None ≡ last test i e
      go (inl h) = last_none test i e h
      go (inr h) = last_none test i i (omega arith) ∙ sym (last_over test i i e (omega arith) (omega arith) (λ m a b. sym (is m false a b (f.is m a b))))
  finds_last i e (Some q) is f =
      let one : i < q + 1 = omega (arith, f.is.from) in
      let at : q + 1 - 1 ≡ q = omega arith in
      ap Some (sym at)
      ∙ last_here test i (q + 1) one (ap test at ∙ sym (is q true f.is.from f.is.to f.is.passes))
      ∙ sym (last_over test i (q + 1) e (omega arith) (omega (arith, f.is.to))
      (λ m a b. sym (is m false (omega (arith, f.is.from)) b (f.is.fails m (omega arith) b))))

  pub asks_rules_out : (n : ℕ) (found : Bool) → ((k : ℕ) (b : Bool) → k < n → answers k b → RulesOut (test k) b)
      → Asks answers n found → RulesOut (any test n) found
  asks_rules_out n found is f = record { none = λ e. none_of test n (λ m h. (is m false h (f.none e m h)).none refl) }

  -- each answer is that of the predicate
  pub asks_any : (n : ℕ) (found : Bool) → ((k : ℕ) (b : Bool) → k < n → answers k b → b ≡ test k) → Asks answers n found → found ≡ any test n
  asks_any n false is f = sym (none_of test n (λ m h. sym (is m false h (f.none refl m h))))
  asks_any n true is f =
      let (m, h, one) = f.one refl in
      sym (some_passes test n m h (sym (is m true h one)))
