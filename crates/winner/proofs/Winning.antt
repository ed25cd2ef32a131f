-- The rule that wins. The search for a state in a list is a walk; a rule is live by the branches of its definition; and the scan of the
-- rules keeps the greatest weight so far and the first rule that has it, which is what the winner is.
use mathlib.Core.Path.{◌≡◌, refl, sym, ap, ap₂, subst, ◌∙◌}
use mathlib.Core.Bool.{Bool, true, false, cond, or-false}
use mathlib.Core.List.{List}
use mathlib.Core.Logic.{◌⊎◌, inl, inr}
use Prim.Native.Nat.{ℕ, zero, suc, ◌+◌, ◌*◌, ◌≤◌, ◌<◌, max}
use native.Mathlib.Numerals.{add-one}
use native.Mathlib.Omega.{arith}
use borrow.Author.Tests.{le-ltb, ltb-true, ltb-false, eq-eqb, ne_eqb, eqb-true, eqb-false}
use lib.Dec.{eqb, ltb}
use lib.ListN.{length, get_or}
use Rattle.std.specs.Prelude.{Option, is_some}
use Rattle.characters.specs.Walk.{first}
use Rattle.characters.proofs.Below.{below_some}
use Rattle.characters.proofs.Tests.{le_or_lt}
use Rattle.characters.proofs.Walks.{first_none, first_to}
use Rattle.area.specs.declared.State.{State}
use Rattle.area.specs.declared.Rule.{Rule}
use Rattle.area.specs.Records.{entry_width, nth_state, nth_rule, nth_entry}
use Rattle.area.specs.Asked.{FirstFound}
use Rattle.area.specs.Contents.{contents, entry_format}
use Rattle.area.proofs.Contents.{contents_count, contents_read}
use Rattle.winner.specs.declared.Best.{Best}
use Rattle.winner.specs.declared.Row.{Row}
use Rattle.winner.specs.Winner.{Lexer, find_in_list, list_end, in_list, live, length_in, weight, greatest, earliest, best, better, first_with}
use Rattle.characters.proofs.Firsts.{first_passes, first_before, first_low, first_only}

-- ---- a rule that is live

module _ (states : List State) (lists : List ℕ) (state : ℕ) (x : Rule) where
  none_in_list : x.list_count ≡ 0 → in_list lists state x ≡ false
  unfolding in_list find_in_list
  none_in_list z =
      let h : list_end x ≤ x.list_from = omega (arith, z) in
      let none = first_none (λ j. eqb (nth_entry lists j) state) x.list_from (list_end x) h in
      ap (λ (j : ℕ). ltb j (list_end x)) (sym none) ∙ le-ltb x.list_from (list_end x) h

  pub live_empty : x.list_count ≡ 0 → (s : State) → s ≡ nth_state states state → eqb s.exclusive 0 ≡ live states lists state x
  unfolding live
  live_empty z s e = rw (none_in_list z, eq-eqb x.list_count 0 z) (ap (λ (y : State). eqb y.exclusive 0) e)

  pub live_listed : (x.list_count ≡ 0 → ⊥) → (i : ℕ) → i ≡ find_in_list lists x.list_from (list_end x) state → ltb i (list_end x) ≡ live states lists state x
  unfolding live in_list
  live_listed z i is = rw (ne_eqb x.list_count 0 z, or-false) (ap (λ (j : ℕ). ltb j (list_end x)) is)

-- the same, of rule k of a lexer that is seen by its parts
module _ {states : List State} {rules : List Rule} {lists : List ℕ} {lexer : Lexer} (seen : record { states = states; rules = rules; lists = lists } ≡ lexer)
    (state k : ℕ) {x : Rule} (read : x ≡ nth_rule rules k) where
  rule_live : (t : Bool) → t ≡ live states lists state x → t ≡ live lexer.states lexer.lists state (nth_rule lexer.rules k)
  rule_live t e = e ∙ ap (live states lists state) read ∙ ap (λ (y : Lexer). live y.states y.lists state (nth_rule y.rules k)) seen

  pub rule_unlisted : x.list_count ≡ 0 → (s : State) → s ≡ nth_state states state
      → eqb s.exclusive 0 ≡ live lexer.states lexer.lists state (nth_rule lexer.rules k)
  rule_unlisted z s e = rule_live (eqb s.exclusive 0) (live_empty states lists state x z s e)

  pub rule_listed : {post : ℕ → ℕ → Bool → Type 0} {i : Option ℕ} → (x.list_count ≡ 0 → ⊥) → FirstFound post 0 lists x.list_from (list_end x) i
      → ((j id : ℕ) (b : Bool) → post j id b → b ≡ eqb id state)
      → is_some i ≡ live lexer.states lexer.lists state (nth_rule lexer.rules k)
  unfolding find_in_list
  rule_listed {i = i} z found answers =
      let is : is_some i ≡ ltb (find_in_list lists x.list_from (list_end x) state) (list_end x) =
      below_some (list_end x) _ i (found.is (λ j. eqb (nth_entry lists j) state) (λ j b _ _ p. answers j (get_or lists j 0) b p)) in
      rule_live (is_some i) (is ∙ live_listed states lists state x z (find_in_list lists x.list_from (list_end x) state) refl)

-- ---- the greatest of some numbers

module _ (f : ℕ → ℕ) where
  greatest_next : (n : ℕ) → greatest f (suc n) ≡ max (greatest f n) (f n)
  unfolding greatest
  greatest_next n = refl

  pub greatest_none : 0 ≡ greatest f 0
  unfolding greatest
  greatest_none = refl

  -- one number more
  pub greatest_more : (k top x r : ℕ) → top ≡ greatest f k → x ≡ f k → r ≡ max top x → r ≡ greatest f (k + 1)
  greatest_more k top x r e q p = p ∙ ap₂ max e q ∙ sym (greatest_next k) ∙ ap (greatest f) (sym (add-one k))

  -- none is above it
  pub below_greatest : (n j : ℕ) → j < n → f j ≤ greatest f n
  below_greatest zero j h = absurd (omega (arith, h))
  below_greatest (suc n) j h = by (le_or_lt n j) (below_greatest n j)
    where
      by : (n ≤ j) ⊎ (j < n) → (j < n → f j ≤ greatest f n) → f j ≤ greatest f (suc n)
      by (inl g) ih = let q : j ≡ n = omega arith in omega (arith, greatest_next n, ap f q)
      by (inr g) ih = omega (arith, greatest_next n, ih g)

  -- a bound of all is one of it
  pub greatest_low : (q n : ℕ) → ((k : ℕ) → k < n → f k ≤ q) → greatest f n ≤ q
  unfolding greatest
  greatest_low q zero h = omega arith
  greatest_low q (suc n) h = omega (arith, greatest_low q n (λ k g. h k (omega arith)), h n (omega arith))

  record Attained (n : ℕ) : Type 0 where
    place : ℕ
    inside : place < n
    has : f place ≡ greatest f n

  attained : (n : ℕ) → 0 < n → Attained n
  unfolding greatest
  attained zero h = absurd (omega (arith, h))
  attained (suc zero) h = record { place = 0; inside = omega arith; has = omega arith }
  attained (suc (suc n)) h = by (attained (suc n) (omega arith)) (le_or_lt (f (suc n)) (greatest f (suc n)))
    where
      by : Attained (suc n) → (f (suc n) ≤ greatest f (suc n)) ⊎ (greatest f (suc n) < f (suc n)) → Attained (suc (suc n))
      by a (inl g) = record { place = a.place; inside = omega (arith, a.inside); has = omega (arith, a.has, g) }
      by a (inr g) = record { place = suc n; inside = omega arith; has = omega (arith, g) }

  -- where there are any, the first place that has it is one of them
  pub earliest_inside : (n : ℕ) → 0 < n → earliest f n < n
  unfolding earliest
  earliest_inside n h =
      let a = attained n h in
      let low = first_low (λ k. eqb (f k) (greatest f n)) 0 n (omega arith) a.place (omega arith) (eq-eqb (f a.place) (greatest f n) a.has) in
      omega (arith, low, a.inside)

  pub earliest_has : (n : ℕ) → 0 < n → f (earliest f n) ≡ greatest f n
  unfolding earliest
  earliest_has n h = eqb-true (f (earliest f n)) (greatest f n) (first_passes (λ k. eqb (f k) (greatest f n)) 0 n (omega arith) (earliest_inside n h))

  -- the same where it is not 0
  pub winner_inside : (n : ℕ) → (greatest f n ≡ 0 → ⊥) → earliest f n < n
  unfolding greatest
  winner_inside zero h = absurd (h refl)
  winner_inside (suc n) h = earliest_inside (suc n) (omega arith)

  earliest_to : (n : ℕ) → earliest f n ≤ n
  unfolding earliest
  earliest_to n = first_to (λ k. eqb (f k) (greatest f n)) 0 n (omega arith)

  -- those before it are below
  pub earliest_first : (n j : ℕ) → j < earliest f n → j < n → f j < greatest f n
  unfolding earliest
  earliest_first n j h g =
      let no : (f j ≡ greatest f n → ⊥) = eqb-false (f j) (greatest f n) (first_before (λ k. eqb (f k) (greatest f n)) 0 n (omega arith) j (omega arith) h) in
      omega (arith, below_greatest n j g)

  -- where the greatest is 0 each is, and the first place has it
  pub best_zero : (n : ℕ) → greatest f n ≡ 0 → record { length = 0; rule = 0 } ≡ best f n
  best_zero n z = λ i. record { length = sym z i; rule = by (le_or_lt (earliest f n) 0) i }
    where
      by : (earliest f n ≤ 0) ⊎ (0 < earliest f n) → 0 ≡ earliest f n
      by (inl h) = omega arith
      by (inr h) = absurd (omega (arith, earliest_first n 0 h (omega (arith, earliest_to n)), z))

  -- one more number
  earliest_only : (n j : ℕ) → j < n → f j ≡ greatest f n → ((m : ℕ) → m < j → f m < greatest f n) → earliest f n ≡ j
  unfolding earliest
  earliest_only n j h e l =
      first_only (λ k. eqb (f k) (greatest f n)) 0 j n (omega arith) h (eq-eqb (f j) (greatest f n) e)
      (λ m z g. ne_eqb (f m) (greatest f n) (λ q. omega (arith, l m g, q)))

  pub best_none : record { length = 0; rule = 0 } ≡ best f 0
  unfolding greatest earliest first
  best_none = refl

  best_new : (n : ℕ) → greatest f n < f n → record { length = f n; rule = n } ≡ best f (suc n)
  best_new n h =
      let q : f n ≡ greatest f (suc n) = omega (arith, greatest_next n, h) in
      let e : n ≡ earliest f (suc n) = sym (earliest_only (suc n) n (omega arith) q (λ m g. omega (arith, below_greatest n m g, h, q))) in
      λ i. record { length = q i; rule = e i }

  best_old : (n : ℕ) → f n ≤ greatest f n → best f n ≡ best f (suc n)
  best_old n h = by (le_or_lt n 0)
    where
      q : greatest f n ≡ greatest f (suc n)
      q = omega (arith, greatest_next n, h)

      first_one : n ≤ 0 → earliest f n ≡ earliest f (suc n)
      first_one z = omega (arith, earliest_to n, earliest_inside (suc n) (omega arith))

      later : 0 < n → earliest f n ≡ earliest f (suc n)
      later g =
          sym (earliest_only (suc n) (earliest f n) (omega (arith, earliest_inside n g)) (earliest_has n g ∙ q)
          (λ m l. omega (arith, earliest_first n m l (omega (arith, l, earliest_inside n g)), q)))

      by : (n ≤ 0) ⊎ (0 < n) → best f n ≡ best f (suc n)
      by (inl z) = λ i. record { length = q i; rule = first_one z i }
      by (inr g) = λ i. record { length = q i; rule = later g i }

  pub best_next : (n : ℕ) → better (best f n) n (f n) ≡ best f (n + 1)
  unfolding better
  best_next n = by (ltb (greatest f n) (f n)) refl ∙ ap (best f) (sym (add-one n))
    where
      by : (t : Bool) → ltb (greatest f n) (f n) ≡ t → cond t (record { length = f n; rule = n }) (best f n) ≡ best f (suc n)
      by true e = best_new n (ltb-true (greatest f n) (f n) e)
      by false e = best_old n (ltb-false (greatest f n) (f n) e)

-- ---- a bound of the lengths is one of the greatest weight

module _ (x : Lexer) (state : ℕ) (row : List ℕ) where
  weight_under : (t : Bool) (l q : ℕ) → l ≤ q → cond t l 0 ≤ q
  weight_under true l q h = h
  weight_under false l q h = omega arith

  pub weights_low : (q n : ℕ) → ((k : ℕ) → k < n → length_in row k ≤ q) → greatest (weight x state row) n ≤ q
  unfolding weight
  weights_low q n h =
      greatest_low (weight x state row) q n (λ k g. weight_under (live x.states x.lists state (nth_rule x.rules k)) (length_in row k) q (h k g))

-- ---- the lengths of a row

module _ (row : List ℕ) (n : ℕ) {lengths : List ℕ} (are : lengths ≡ contents entry_format row n) where
  pub lengths_count : length lengths ≡ n
  lengths_count = ap length are ∙ contents_count entry_format row n

  pub length_read : (k : ℕ) → k < n → get_or lengths k 0 ≡ length_in row k
  length_read k h = ap (λ (l : List ℕ). get_or l k 0) are ∙ contents_read entry_format row n k h

-- a row that was made of some bytes: what holds of its parts holds of them
module _ (rules : ℕ) (row : List ℕ) (x : Row) (made : (x.bytes.now ≡ row) × (x.rules ≡ rules)) where
  pub of_row : (P : ℕ → List ℕ → Type 0) → P x.rules x.bytes.now → P rules row
  of_row P h = subst (λ (n : ℕ). P n row) made.1 (subst (P x.rules) made.0 h)

  pub long_row : length row ≡ rules * entry_width → length x.bytes.now ≡ x.rules * entry_width
  long_row e = ap length made.0 ∙ e ∙ ap (λ (n : ℕ). n * entry_width) (sym made.1)

-- ---- the scan of the rules

module _ (x : Lexer) (state : ℕ) (row : List ℕ) where
  pub scan_next : (k : ℕ) (b e : Best) (bytes : ℕ) → b ≡ best (weight x state row) k → bytes ≡ length_in row k
      → e ≡ better b k (cond (live x.states x.lists state (nth_rule x.rules k)) bytes 0)
      → e ≡ best (weight x state row) (k + 1)
  unfolding weight
  scan_next k b e bytes q eb ee =
      ee ∙ ap₂ (λ (y : Best) (n : ℕ). better y k (cond (live x.states x.lists state (nth_rule x.rules k)) n 0)) q eb ∙ best_next (weight x state row) k

  -- a rule that has the length of no live rule wins nothing
  pub scan_past : (k : ℕ) (b : Best) (bytes top n : ℕ) → b ≡ best (weight x state row) k → bytes ≡ length_in row k
      → n ≡ first_with (weight x state row) top 0 n → k < n → bytes ≡ top → b ≡ best (weight x state row) (k + 1)
  unfolding weight better
  scan_past k b bytes top n q eb none h is =
      sym (same (live x.states x.lists state (nth_rule x.rules k)) other) ∙ ap (λ (y : Best). better y k (weight x state row k)) q
      ∙ best_next (weight x state row) k
    where
      other : weight x state row k ≡ top → ⊥
      other =
          eqb-false (weight x state row k) top
          (first_before (λ j. eqb (weight x state row j) top) 0 n (omega arith) k (omega arith) (omega (arith, none, h)))

      same : (t : Bool) → (cond t (length_in row k) 0 ≡ top → ⊥) → better b k (cond t (length_in row k) 0) ≡ b
      same true differs = absurd (differs (sym eb ∙ is))
      same false differs =
          let z : ltb b.length 0 ≡ false = le-ltb b.length 0 (omega arith) in
          rw z refl
