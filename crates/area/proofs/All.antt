-- Laws of `all` and `all_below`: a list that is joined, cut, mapped or grows at its end, and the records of an area, one after the other.
use mathlib.Core.Path.{◌≡◌, refl, sym, ap, ap₂, subst, ◌∙◌}
use mathlib.Core.Bool.{Bool, true, false, ◌&&◌, and-true, and_assoc}
use mathlib.Core.List.{List, [], ◌∷◌, ◌++◌, map}
use Prim.Native.Nat.{ℕ, zero, suc, ◌+◌, ◌≤◌, ◌<◌}
use native.Mathlib.Numerals.{add-one}
use native.Mathlib.Omega.{arith}
use borrow.Author.Tests.{leb-true, leb-false}
use lib.Dec.{leb}
use lib.ListN.{length, get_or, take, drop}
use Rattle.std.proofs.lemmas.Bool.{and_parts}
use Rattle.area.specs.Contents.{Format, contents, list_of}
use Rattle.area.specs.Lists.{all, all_below}

-- ---- the elements of a list

module _ {A : Type 0} (test : A → Bool) where
  pub all_append : (xs ys : List A) → all test xs ≡ true → all test ys ≡ true → all test (xs ++ ys) ≡ true
  unfolding all
  all_append [] ys h g = g
  all_append (x ∷ xs) ys h g =
      let t = and_parts (test x) (all test xs) h in
      rw t.0 (all_append xs ys t.1 g)

  pub all_take : (n : ℕ) (xs : List A) → all test xs ≡ true → all test (take n xs) ≡ true
  unfolding all
  all_take zero xs h = refl
  all_take (suc n) [] h = refl
  all_take (suc n) (x ∷ xs) h =
      let t = and_parts (test x) (all test xs) h in
      rw t.0 (all_take n xs t.1)

  pub all_drop : (n : ℕ) (xs : List A) → all test xs ≡ true → all test (drop n xs) ≡ true
  unfolding all
  all_drop zero xs h = h
  all_drop (suc n) [] h = refl
  all_drop (suc n) (x ∷ xs) h = all_drop n xs (and_parts (test x) (all test xs) h).1

  pub all_map : (g : A → A) → ((x : A) → test x ≡ true → test (g x) ≡ true) → (xs : List A) → all test xs ≡ true → all test (map g xs) ≡ true
  unfolding all
  all_map g f [] e = refl
  all_map g f (x ∷ xs) e =
      let t = and_parts (test x) (all test xs) e in
      rw (f x t.0) (all_map g f xs t.1)

  -- an element of a list that passes passes
  pub all-at : (xs : List A) (d : A) (k : ℕ) → all test xs ≡ true → k < length xs → test (get_or xs k d) ≡ true
  unfolding all
  all-at [] d k e h = absurd (omega (arith, h))
  all-at (x ∷ xs) d zero e h = (and_parts (test x) (all test xs) e).0
  all-at (x ∷ xs) d (suc k) e h = all-at xs d k (and_parts (test x) (all test xs) e).1 (omega arith)

  -- a list whose elements pass passes
  pub all_from : (xs : List A) (d : A) → ((k : ℕ) → k < length xs → test (get_or xs k d) ≡ true) → all test xs ≡ true
  unfolding all
  all_from [] d f = refl
  all_from (x ∷ xs) d f = rw (f 0 (omega arith)) (all_from xs d (λ k h. f (suc k) (omega arith)))

  -- one element more
  pub all_one_more : (xs : List A) (x : A) → all test (xs ++ (x ∷ [])) ≡ all test xs && test x
  unfolding all
  all_one_more [] x = and-true (test x)
  all_one_more (y ∷ xs) x = ap (λ (b : Bool). test y && b) (all_one_more xs x) ∙ sym (and_assoc (test y) (all test xs) (test x))

-- ---- the records of an area: the first k have been tested

module _ {A : Type 0} (F : Format A) (test : A → Bool) (l : List ℕ) where
  pub all_none : true ≡ all test (contents F l 0)
  unfolding all contents list_of
  all_none = refl

  pub all_next : (k : ℕ) (good t : Bool) (x : A) → good ≡ all test (contents F l k) → x ≡ F.read l k → t ≡ test x
      → good && t ≡ all test (contents F l (k + 1))
  unfolding contents list_of
  all_next k good t x g e q =
      ap₂ (λ (a b : Bool). a && b) g (q ∙ ap test e)
      ∙ sym (ap (λ (m : ℕ). all test (list_of (F.read l) m)) (add-one k) ∙ all_one_more test (list_of (F.read l) k) (F.read l k))

-- ---- the numbers below another

module _ (test : ℕ → Bool) where
  pub below_none : true ≡ all_below test 0
  unfolding all_below
  below_none = refl

  pub below_next : (k : ℕ) (good t : Bool) → good ≡ all_below test k → t ≡ test k → good && t ≡ all_below test (k + 1)
  unfolding all_below
  below_next k good t g q = ap₂ (λ (a b : Bool). a && b) g q ∙ sym (ap (all_below test) (add-one k))

  pub below_at : (n k : ℕ) → all_below test n ≡ true → k < n → test k ≡ true
  unfolding all_below
  below_at zero k e h = absurd (omega (arith, h))
  below_at (suc n) k e h = by (leb n k) refl (λ g. below_at n k (and_parts (all_below test n) (test n) e).0 g)
    where
      by : (b : Bool) → leb n k ≡ b → (k < n → test k ≡ true) → test k ≡ true
      by true q earlier =
          let l : n ≤ k = leb-true n k q in
          let z : n ≡ k = omega arith in
          subst (λ (m : ℕ). test m ≡ true) z (and_parts (all_below test n) (test n) e).1
      by false q earlier = earlier (leb-false n k q)

pub below_same : (f g : ℕ → Bool) (n : ℕ) → ((k : ℕ) → k < n → f k ≡ g k) → all_below f n ≡ all_below g n
unfolding all_below
below_same f g zero h = refl
below_same f g (suc n) h = ap₂ (λ (a b : Bool). a && b) (below_same f g n (λ k l. h k (omega arith))) (h n (omega arith))
