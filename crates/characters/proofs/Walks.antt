-- The laws of the three walks. A scanner's loop has the invariant that the walk from where it stands answers what the walk from its start does;
-- each law says how that goes on by one step, or ends. The test is a variable, so that each law is proved once for all scanners.
use mathlib.Core.Path.{◌≡◌, refl, sym, ap, subst, ◌∙◌}
use mathlib.Core.Bool.{Bool, true, false, cond, true≢false}
use mathlib.Core.Logic.{⊎_elim}
use Prim.Native.Nat.{ℕ, zero, suc, ◌+◌, ◌-◌, ◌≤◌, ◌<◌}
use native.Mathlib.Nat.{add-zero, eq-or-lt_of_le, eq-zero-or-pos}
use native.Mathlib.Numerals.{add-one}
use native.Mathlib.Omega.{arith}
use borrow.Author.Rules.{rules}
use borrow.Author.Tests.{eqb-true, eqb-false, eq-eqb, ne_eqb}
use lib.Dec.{eqb}
use Rattle.std.proofs.lemmas.Bool.{cond_both}
use Rattle.characters.specs.Walk.{first_of, first, last_of, last, repeat, skip}
use Rattle.std.specs.Prelude.{Option, Some, None}
use Rattle.characters.proofs.Tests.{answer, answer_not, answer_yes, answer_no}

-- ---- the first position that passes

count_up : (i e : ℕ) → i < e → e - i ≡ suc (e - (i + 1))
count_up i e h = omega arith

module _ (test : ℕ → Bool) (i e : ℕ) where
  pub first_here : i < e → test i ≡ true → i ≡ first test i e
  unfolding first
  first_here h t = rw (count_up i e h, t)

  pub first_next : i < e → test i ≡ false → first test i e ≡ first test (i + 1) e
  unfolding first
  first_next h t = rw (count_up i e h, t, add-one)

  pub first_none : e ≤ i → i ≡ first test i e
  unfolding first
  first_none h =
      let z : e - i ≡ 0 = omega arith in
      rw z

-- the loop began at i and stands at k
module _ (test : ℕ → Bool) (i k e : ℕ) (before : first test i e ≡ first test k e) where
  pub first_found : k < e → test k ≡ true → k ≡ first test i e
  first_found h t = first_here test k e h t ∙ sym before

  pub first_again : k < e → test k ≡ false → first test i e ≡ first test (k + 1) e
  first_again h t = before ∙ first_next test k e h t

  pub first_ended : e ≤ k → k ≡ first test i e
  first_ended h = first_none test k e h ∙ sym before

-- with these `search` answers every need of a loop that looks for the first position
pub ruleset scanning = (rules, first_found, first_again, first_ended, answer, answer_not, answer_yes, answer_no, eq-eqb, ne_eqb)

-- the walk neither goes back nor passes its end
first_of_bounds : (test : ℕ → Bool) (n i : ℕ) → (i ≤ first_of test i n) × (first_of test i n ≤ i + n)
unfolding first_of
first_of_bounds test zero i = (omega arith, omega arith)
first_of_bounds test (suc n) i = go (test i) (first_of_bounds test n (suc i))
  where
    go :
        (t : Bool)
        → (suc i ≤ first_of test (suc i) n) × (first_of test (suc i) n ≤ suc i + n)
        → (i ≤ cond t i (first_of test (suc i) n)) × (cond t i (first_of test (suc i) n) ≤ i + suc n)
    go true h = (omega arith, omega arith)
    go false h = (omega arith, omega arith)

module _ (test : ℕ → Bool) (i e : ℕ) where
  pub first_from : i ≤ first test i e
  unfolding first
  first_from = (first_of_bounds test (e - i) i).0

  pub first_to : i ≤ e → first test i e ≤ e
  unfolding first
  first_to h = omega (arith, (first_of_bounds test (e - i) i).1)

-- positions that all fail are passed over at once
module _ (test : ℕ → Bool) where
  over : (n i e : ℕ) → i + n ≤ e → ((m : ℕ) → i ≤ m → m < i + n → test m ≡ false) → first test i e ≡ first test (i + n) e
  over zero i e h f = rw add-zero
  over (suc n) i e h f =
      let q : i + 1 + n ≡ i + suc n = omega arith in
      first_next test i e (omega arith) (f i (omega arith) (omega arith))
      ∙ over n (i + 1) e (omega arith) (λ m a b. f m (omega arith) (omega arith))
      ∙ ap (λ (k : ℕ). first test k e) q

  pub first_over : (i j e : ℕ) → i ≤ j → j ≤ e → ((m : ℕ) → i ≤ m → m < j → test m ≡ false) → first test i e ≡ first test j e
  first_over i j e h k f =
      let q : i + (j - i) ≡ j = omega arith in
      over (j - i) i e (omega arith) (λ m a b. f m a (omega arith)) ∙ ap (λ (x : ℕ). first test x e) q

-- ---- the last position that passes

module _ (test : ℕ → Bool) (i e : ℕ) where
  count_down : i < e → e - i ≡ suc (e - 1 - i)
  count_down h = omega arith

  place : i < e → i + (e - 1 - i) ≡ e - 1
  place h = omega arith

  pub last_here : i < e → test (e - 1) ≡ true → Some (e - 1) ≡ last test i e
  unfolding last
  last_here h t = rw (count_down h, place h, t)

  pub last_next : i < e → test (e - 1) ≡ false → last test i e ≡ last test i (e - 1)
  unfolding last
  last_next h t = rw (count_down h, place h, t)

  pub last_none : e ≤ i → None ≡ last test i e
  unfolding last
  last_none h =
      let z : e - i ≡ 0 = omega arith in
      rw z

-- the loop came down from e and stands at k
module _ (test : ℕ → Bool) (i k e : ℕ) (before : last test i e ≡ last test i k) where
  pub last_found : i < k → test (k - 1) ≡ true → Some (k - 1) ≡ last test i e
  last_found h t = last_here test i k h t ∙ sym before

  pub last_again : i < k → test (k - 1) ≡ false → last test i e ≡ last test i (k - 1)
  last_again h t = before ∙ last_next test i k h t

  pub last_ended : k ≤ i → None ≡ last test i e
  last_ended h = last_none test i k h ∙ sym before

-- positions that all fail are passed over at once
module _ (test : ℕ → Bool) where
  down : (n i j e : ℕ) → j + n ≡ e → i ≤ j → ((m : ℕ) → j ≤ m → m < e → test m ≡ false) → last test i e ≡ last test i j
  down zero i j e q h f =
      let p : e ≡ j = omega arith in
      ap (last test i) p
  down (suc n) i j e q h f =
      last_next test i e (omega arith) (f (e - 1) (omega arith) (omega arith))
      ∙ down n i j (e - 1) (omega arith) h (λ m a b. f m a (omega arith))

  pub last_over : (i j e : ℕ) → i ≤ j → j ≤ e → ((m : ℕ) → j ≤ m → m < e → test m ≡ false) → last test i e ≡ last test i j
  last_over i j e h l f = down (e - j) i j e (omega arith) h f

-- where a position passes, the last that does is not before it
pub record Last (f : Option ℕ) (j e : ℕ) : Type 0 where
  pub place : ℕ
  pub is : f ≡ Some place
  pub from : j ≤ place
  pub to : place < e

last_of_passed : (test : ℕ → Bool) (n i j : ℕ) → i ≤ j → j < i + n → test j ≡ true → Last (last_of test i n) j (i + n)
unfolding last_of
last_of_passed test zero i j h l t = absurd (omega arith)
last_of_passed test (suc n) i j h l t = go (test (i + n)) refl (λ g. last_of_passed test n i j h g t)
  where
    at_most : j ≤ i + n
    at_most = omega arith

    earlier : test (i + n) ≡ false → j < i + n
    earlier e = ⊎_elim (λ q. absurd (true≢false (sym t ∙ ap test q ∙ e))) (λ g. g) (eq-or-lt_of_le at_most)

    go : (b : Bool) → test (i + n) ≡ b → (j < i + n → Last (last_of test i n) j (i + n)) → Last (cond b (Some (i + n)) (last_of test i n)) j (i + suc n)
    go true e before = record { place = i + n; is = refl; from = omega arith; to = omega arith }
    go false e before =
        let r = before (earlier e) in
        record { place = r.place; is = r.is; from = r.from; to = omega (arith, r.to) }

pub last_passed : (test : ℕ → Bool) (i j e : ℕ) → i ≤ j → j < e → test j ≡ true → Last (last test i e) j e
unfolding last
last_passed test i j e h l t =
    let q : i + (e - i) ≡ e = omega arith in
    subst (λ (m : ℕ). Last (last_of test i (e - i)) j m) q (last_of_passed test (e - i) i j h (omega arith) t)

-- ---- a step repeated until it stays

pub repeat_stop : (next : ℕ → ℕ) (n k : ℕ) → next k ≡ k → k ≡ repeat next n k
unfolding repeat
repeat_stop next zero k h = refl
repeat_stop next (suc n) k h = rw (eq-eqb (next k) k h)

-- what each step keeps holds of where the walk ends
pub repeat_keeps : (P : ℕ → Type 0) (next : ℕ → ℕ) → ((k : ℕ) → P k → P (next k)) → (n k : ℕ) → P k → P (repeat next n k)
unfolding repeat
repeat_keeps P next keeps zero k h = h
repeat_keeps P next keeps (suc n) k h = cond_both (eqb (next k) k) k _ P (λ _. h) (λ _. repeat_keeps P next keeps n (next k) (keeps k h))

-- a measure that falls whenever the step changes something bounds how often it does
module _ (next : ℕ → ℕ) (μ : ℕ → ℕ) (falls : (k : ℕ) → (next k ≡ k → ⊥) → μ (next k) < μ k) where
  more : (n k : ℕ) → μ k ≤ n → repeat next n k ≡ repeat next (suc n) k
  unfolding repeat
  more zero k h = go (eqb (next k) k) refl
    where
      go : (t : Bool) → eqb (next k) k ≡ t → k ≡ cond t k (next k)
      go true e = refl
      go false e = absurd (omega (arith, falls k (eqb-false (next k) k e)))
  more (suc n) k h = go (eqb (next k) k) refl (more n (next k))
    where
      go :
          (t : Bool)
          → eqb (next k) k ≡ t
          → (μ (next k) ≤ n → repeat next n (next k) ≡ repeat next (suc n) (next k))
          → cond t k (repeat next n (next k)) ≡ cond t k (repeat next (suc n) (next k))
      go true e ih = refl
      go false e ih = ih (omega (arith, falls k (eqb-false (next k) k e)))

  pub repeat_go : (n k : ℕ) → μ k ≤ n → (next k ≡ k → ⊥) → repeat next n k ≡ repeat next n (next k)
  unfolding repeat
  repeat_go zero k h d = absurd (omega (arith, falls k d))
  repeat_go (suc n) k h d = rw (ne_eqb (next k) k d) (more n (next k) (omega (arith, falls k d)))

  -- with enough turns the step has come to where it stays
  pub repeat_stays : (n k : ℕ) → μ k ≤ n → next (repeat next n k) ≡ repeat next n k
  unfolding repeat
  repeat_stays zero k h = go (eqb (next k) k) refl
    where
      go : (t : Bool) → eqb (next k) k ≡ t → next k ≡ k
      go true e = eqb-true (next k) k e
      go false e = absurd (omega (arith, falls k (eqb-false (next k) k e)))
  repeat_stays (suc n) k h = go (eqb (next k) k) refl (repeat_stays n (next k))
    where
      go :
          (t : Bool)
          → eqb (next k) k ≡ t
          → (μ (next k) ≤ n → next (repeat next n (next k)) ≡ repeat next n (next k))
          → next (cond t k (repeat next n (next k))) ≡ cond t k (repeat next n (next k))
      go true e ih = eqb-true (next k) k e
      go false e ih = ih (omega (arith, falls k (eqb-false (next k) k e)))

-- ---- characters skipped one after the other; each that is measured ends by n

module _ (width : ℕ → ℕ) (n : ℕ) (inside : (k : ℕ) → 0 < width k → k + width k ≤ n) where
  moves : (k : ℕ) → (k + width k ≡ k → ⊥) → 0 < width k
  moves k d = ⊎_elim (λ z. absurd (d (omega arith))) (λ p. p) (eq-zero-or-pos (width k))

  nearer : (k : ℕ) → (k + width k ≡ k → ⊥) → n - (k + width k) < n - k
  nearer k d = omega (arith, moves k d, inside k (moves k d))

  pub skip_stays : (k : ℕ) → width k ≡ 0 → k ≡ skip width n k
  unfolding skip
  skip_stays k z = repeat_stop (λ j. j + width j) n k (omega arith)

  pub skip_goes : (k : ℕ) → 0 < width k → skip width n k ≡ skip width n (k + width k)
  unfolding skip
  skip_goes k p = repeat_go (λ j. j + width j) (λ j. n - j) nearer n k (omega arith) (omega arith)

  -- the walk neither goes back nor passes n
  pub skip_from : (k : ℕ) → k ≤ skip width n k
  unfolding skip
  skip_from k = repeat_keeps (λ j. k ≤ j) (λ j. j + width j) (λ j h. omega arith) n k (omega arith)

  pub skip_to_lem : (k : ℕ) → k ≤ n → skip width n k ≤ n
  unfolding skip
  skip_to_lem k h = repeat_keeps (λ j. j ≤ n) (λ j. j + width j) (λ j l. ⊎_elim (λ z. omega arith) (λ p. inside j p) (eq-zero-or-pos (width j))) n k h

  -- no such character stands where the walk stops
  pub skip_stops : (k : ℕ) → width (skip width n k) ≡ 0
  unfolding skip
  skip_stops k =
      let e = repeat_stays (λ j. j + width j) (λ j. n - j) nearer n k (omega arith) in
      omega (arith, e)

  -- the loop began at i and stands at k, where a character of m bytes stands
  module _ (i k m : ℕ) (before : skip width n i ≡ skip width n k) (is : m ≡ width k) where
    pub skip_ended : m ≡ 0 → k ≡ skip width n i
    skip_ended z = skip_stays k (omega arith) ∙ sym before

    pub skip_again : (m ≡ 0 → ⊥) → skip width n i ≡ skip width n (k + m)
    skip_again d = rw is (before ∙ skip_goes k (omega arith))
