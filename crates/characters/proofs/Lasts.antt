-- The last position that passes a test: it passes and stands within the range, and in a range of two parts it is that of the later part, or else that
-- of the earlier one. By induction on the positions.
use mathlib.Core.Path.{◌≡◌, refl, ap, subst, ◌∙◌}
use mathlib.Core.Bool.{Bool, true, false, cond}
use mathlib.Core.Logic.{◌⊎◌, inl, inr}
use Prim.Native.Nat.{ℕ, zero, suc, ◌+◌, ◌-◌, ◌≤◌, ◌<◌}
use native.Mathlib.Nat.{add-zero, eq-or-lt_of_le}
use native.Mathlib.Omega.{arith}
use Rattle.characters.specs.Walk.{last_of, last}
use Rattle.std.specs.Prelude.{Option, Some, None}

-- one of the positions from i to before e passes, and f is the last that does
pub record LastAt (test : ℕ → Bool) (i e : ℕ) (f : Option ℕ) : Type 0 where
  pub place : ℕ
  pub is : f ≡ Some place
  pub from : i ≤ place
  pub to : place < e
  pub passes : test place ≡ true

-- none of them passes
pub record LastNone (test : ℕ → Bool) (i e : ℕ) (f : Option ℕ) : Type 0 where
  pub is : f ≡ None
  pub fails : (m : ℕ) → i ≤ m → m < e → test m ≡ false

-- what is found, or else what was found before
abbrev pub or_else : Option ℕ → Option ℕ → Option ℕ
or_else (Some k) g = Some k
or_else None g = g

module _ (test : ℕ → Bool) where
  of_is : (n i : ℕ) → LastAt test i (i + n) (last_of test i n) ⊎ LastNone test i (i + n) (last_of test i n)
  unfolding last_of
  of_is zero i = inr (record { is = refl; fails = λ m h l. absurd (omega (arith, h, l)) })
  of_is (suc n) i = go (test (i + n)) refl (of_is n i)
    where
      go :
          (t : Bool)
          → test (i + n) ≡ t
          → LastAt test i (i + n) (last_of test i n) ⊎ LastNone test i (i + n) (last_of test i n)
          → LastAt test i (i + suc n) (cond t (Some (i + n)) (last_of test i n)) ⊎ LastNone test i (i + suc n) (cond t (Some (i + n)) (last_of test i n))
      go true e r = inl (record { place = i + n; is = refl; from = omega arith; to = omega arith; passes = e })
      go false e (inl r) = inl (record { place = r.place; is = r.is; from = r.from; to = omega (arith, r.to); passes = r.passes })
      go false e (inr r) =
          inr (record {
            is = r.is;
            fails = λ m h l. later m h l (eq-or-lt_of_le (at_most m l));
          })
        where
          at_most : (m : ℕ) → m < i + suc n → m ≤ i + n
          at_most m l = omega arith

          later : (m : ℕ) → i ≤ m → m < i + suc n → (m ≡ i + n) ⊎ (m < i + n) → test m ≡ false
          later m h l (inl q) = ap test q ∙ e
          later m h l (inr g) = r.fails m h g

  pub last_is : (i e : ℕ) → i ≤ e → LastAt test i e (last test i e) ⊎ LastNone test i e (last test i e)
  unfolding last
  last_is i e h =
      let q : i + (e - i) ≡ e = omega arith in
      subst (λ (x : ℕ). LastAt test i x (last_of test i (e - i)) ⊎ LastNone test i x (last_of test i (e - i))) q (of_is (e - i) i)

  of_split : (i n m : ℕ) → last_of test i (n + m) ≡ or_else (last_of test (i + n) m) (last_of test i n)
  unfolding last_of
  of_split i n zero = ap (last_of test i) (add-zero n)
  of_split i n (suc m) =
      let p : n + suc m ≡ suc (n + m) = omega arith in
      let q : i + (n + m) ≡ i + n + m = omega arith in
      ap (last_of test i) p ∙ ap (λ (x : ℕ). cond (test x) (Some x) (last_of test i (n + m))) q ∙ go (test (i + n + m)) (of_split i n m)
    where
      go :
          (t : Bool)
          → last_of test i (n + m) ≡ or_else (last_of test (i + n) m) (last_of test i n)
          → cond t (Some (i + n + m)) (last_of test i (n + m)) ≡ or_else (cond t (Some (i + n + m)) (last_of test (i + n) m)) (last_of test i n)
      go true r = refl
      go false r = r

  pub last_split : (i k e : ℕ) → i ≤ k → k ≤ e → last test i e ≡ or_else (last test k e) (last test i k)
  unfolding last
  last_split i k e h l =
      let p : e - i ≡ (k - i) + (e - k) = omega arith in
      let q : i + (k - i) ≡ k = omega arith in
      ap (last_of test i) p ∙ of_split i (k - i) (e - k) ∙ ap (λ (x : ℕ). or_else (last_of test x (e - k)) (last_of test i (k - i))) q
