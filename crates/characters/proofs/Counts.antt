-- How many positions pass a test: how the count goes on by one position, that it adds up over neighbouring ranges, and when it is 0.
use mathlib.Core.Path.{◌≡◌, refl, sym, ap, ◌∙◌}
use mathlib.Core.Bool.{Bool, true, false}
use Prim.Native.Nat.{ℕ, zero, suc, ◌+◌, ◌-◌, ◌≤◌, ◌<◌}
use native.Mathlib.Nat.{add-zero}
use native.Mathlib.Omega.{arith}
use Rattle.characters.specs.Walk.{one_if, count_of, count}

one_most : (t : Bool) → one_if t ≤ 1
one_most true = omega arith
one_most false = omega arith

module _ (test : ℕ → Bool) where
  of_most : (i n : ℕ) → count_of test i n ≤ n
  unfolding count_of
  of_most i zero = omega arith
  of_most i (suc n) = omega (arith, of_most i n, one_most (test (i + n)))

  of_split : (i n m : ℕ) → count_of test i (n + m) ≡ count_of test i n + count_of test (i + n) m
  unfolding count_of
  of_split i n zero = ap (count_of test i) (add-zero n) ∙ sym (add-zero (count_of test i n))
  of_split i n (suc m) =
      let p : n + suc m ≡ suc (n + m) = omega arith in
      let q : i + (n + m) ≡ i + n + m = omega arith in
      let same : one_if (test (i + (n + m))) ≡ one_if (test (i + n + m)) = ap (λ (x : ℕ). one_if (test x)) q in
      ap (count_of test i) p ∙ omega (arith, same, of_split i n m)

  module _ (i e : ℕ) where
    pub count_none : e ≤ i → count test i e ≡ 0
    unfolding count
    count_none h =
        let z : e - i ≡ 0 = omega arith in
        rw z

    pub count_most : count test i e ≤ e - i
    unfolding count
    count_most = of_most i (e - i)

  pub count_split : (i k e : ℕ) → i ≤ k → k ≤ e → count test i e ≡ count test i k + count test k e
  unfolding count
  count_split i k e h l =
      let p : e - i ≡ (k - i) + (e - k) = omega arith in
      let q : i + (k - i) ≡ k = omega arith in
      ap (count_of test i) p ∙ of_split i (k - i) (e - k) ∙ ap (λ (m : ℕ). count_of test i (k - i) + count_of test m (e - k)) q

  -- one more position
  pub count_next : (i k : ℕ) → i ≤ k → count test i (k + 1) ≡ count test i k + one_if (test k)
  unfolding count
  count_next i k h =
      let p : k + 1 - i ≡ suc (k - i) = omega arith in
      let q : i + (k - i) ≡ k = omega arith in
      ap (count_of test i) p ∙ ap (λ (m : ℕ). count_of test i (k - i) + one_if (test m)) q

  -- a loop has counted n from i to before k, and then the position k
  module _ (i k n r : ℕ) (before : n ≡ count test i k) where
    pub counted_next : r ≡ one_if (test k) → i ≤ k → n + r ≡ count test i (k + 1)
    counted_next is h = ap (λ (m : ℕ). n + m) is ∙ ap (λ (m : ℕ). m + one_if (test k)) before ∙ sym (count_next i k h)

    pub counted_ended : (e : ℕ) → e ≤ k → k ≤ e → n ≡ count test i e
    counted_ended e g h =
        let q : k ≡ e = omega arith in
        before ∙ ap (count test i) q

  -- where one passes there is one to count
  pub count_some : (i m e : ℕ) → i ≤ m → m < e → test m ≡ true → 0 < count test i e
  count_some i m e h l t =
      let p = count_split i m e h (omega arith) in
      let q = count_split m (m + 1) e (omega arith) (omega arith) in
      let n = count_next m m (omega arith) in
      let o : one_if (test m) ≡ 1 = rw t in
      omega (arith, p, q, n, o)

  -- where none passes none is counted
  of_none : (i n : ℕ) → ((m : ℕ) → i ≤ m → m < i + n → test m ≡ false) → count_of test i n ≡ 0
  unfolding count_of
  of_none i zero f = refl
  of_none i (suc n) f =
      let z : one_if (test (i + n)) ≡ 0 = rw (f (i + n) (omega arith) (omega arith)) in
      omega (arith, z, of_none i n (λ m h l. f m h (omega arith)))

  pub count_failing : (i e : ℕ) → ((m : ℕ) → i ≤ m → m < e → test m ≡ false) → count test i e ≡ 0
  unfolding count
  count_failing i e f = of_none i (e - i) (λ m h l. f m h (omega arith))
