-- The winner by the greatest length of a row. The weight of a rule is its length or 0, so that no weight is above the greatest length, and a
-- live rule that has it wins; the rules of other lengths are passed over in the search for the first of them.
use Rattle.std.specs.Prelude.{Option, Some, None}
use mathlib.Core.Path.{◌≡◌, refl, sym, ap, subst, ◌∙◌}
use mathlib.Core.Bool.{Bool, true, false, cond, ◌&&◌, and-true, and-false}
use mathlib.Core.List.{List}
use Prim.Native.Nat.{ℕ, ◌≤◌, ◌<◌}
use native.Mathlib.Omega.{arith}
use borrow.Author.Tests.{eq-eqb, ne_eqb, eqb-true, eqb-false}
use lib.Dec.{eqb}
use lib.ListN.{length, get_or}
use Rattle.characters.proofs.Firsts.{first_passes}
use Rattle.area.specs.Asked.{FirstFound}
use Rattle.area.specs.Contents.{contents, entry_format}
use Rattle.area.specs.Records.{nth_rule}
use Rattle.characters.specs.Walk.{Below}
use Rattle.winner.specs.declared.Best.{Best}
use Rattle.winner.specs.Winner.{Lexer, live, length_in, weight, greatest, earliest, best, first_with}
use Rattle.winner.specs.Phrases.{winning}
use Rattle.winner.proofs.Winning.{below_greatest, best_zero, weights_low, lengths_count, length_read}

-- ---- the first live rule that has a length

-- rule k is live
abbrev pub live_at : Lexer → ℕ → ℕ → Bool
live_at lexer state k = live lexer.states lexer.lists state (nth_rule lexer.rules k)

module _ (lexer : Lexer) (state : ℕ) (row : List ℕ) (top : ℕ) (some : 0 < top) where
  -- a rule has a weight that is not 0 where the row has it and the rule is live
  weight_is : (k : ℕ) → eqb (weight lexer state row k) top ≡ (eqb (length_in row k) top && live_at lexer state k)
  unfolding weight
  weight_is k = by (live_at lexer state k)
    where
      by : (t : Bool) → eqb (cond t (length_in row k) 0) top ≡ (eqb (length_in row k) top && t)
      by true = sym (and-true (eqb (length_in row k) top))
      by false = ne_eqb 0 top (λ q. omega (arith, some, q)) ∙ sym (and-false (eqb (length_in row k) top))

  module _ (n : ℕ) {post : ℕ → ℕ → Bool → Type 0} {lengths : List ℕ} (are : lengths ≡ contents entry_format row n) where
    pub longest_found : (r : Option ℕ) → FirstFound post 0 lengths 0 (length lengths) r
        → ((k : ℕ) (l : ℕ) (b : Bool) → post k l b → b ≡ (eqb l top && live_at lexer state k)) → Below n (first_with (weight lexer state row) top 0 n) r
    longest_found r found answers =
        subst (λ (m : ℕ). Below m (first_with (weight lexer state row) top 0 m) r) (lengths_count row n are)
        (found.is (λ k. eqb (weight lexer state row k) top) (λ k b _ h p.
        let read : get_or lengths k 0 ≡ length_in row k = length_read row n are k (omega (arith, h, lengths_count row n are)) in
        answers k (get_or lengths k 0) b p ∙ ap (λ (l : ℕ). eqb l top && live_at lexer state k) read ∙ sym (weight_is k)))

-- ---- the winner

module _ {b x : Best} (is : b ≡ x) where
  pub none_wins : b.length ≡ 0 → None ≡ winning x
  unfolding winning
  none_wins z = subst (λ (y : Best). None ≡ winning y) is (rw (eq-eqb b.length 0 z) refl)

  pub one_wins : (b.length ≡ 0 → ⊥) → Some b ≡ winning x
  unfolding winning
  one_wins z = subst (λ (y : Best). Some b ≡ winning y) is (rw (ne_eqb b.length 0 z) refl)

-- what an answer says of the best
module _ (b : Best) where
  pub none_won : None ≡ winning b → b.length ≡ 0
  unfolding winning
  none_won e = by (eqb b.length 0) refl e
    where
      by : (t : Bool) → eqb b.length 0 ≡ t → None ≡ cond t None (Some b) → b.length ≡ 0
      by true q e = eqb-true b.length 0 q
      by false q e = absurd cc

  pub one_won : {x : Best} → Some x ≡ winning b → (x ≡ b) × (b.length ≡ 0 → ⊥)
  unfolding winning
  one_won {x} e = by (eqb b.length 0) refl e
    where
      by : (t : Bool) → eqb b.length 0 ≡ t → Some x ≡ cond t None (Some b) → (x ≡ b) × (b.length ≡ 0 → ⊥)
      by true q e = absurd cc
      by false q e = (cc, eqb-false b.length 0 q)

module _ (lexer : Lexer) (state : ℕ) (row : List ℕ) (top n : ℕ) (is : top ≡ greatest (length_in row) n) where
  weights_under : greatest (weight lexer state row) n ≤ top
  weights_under = weights_low lexer state row top n (λ k h. omega (arith, below_greatest (length_in row) n k h, is))

  pub winner_none : top ≡ 0 → None ≡ winning (best (weight lexer state row) n)
  winner_none z = none_wins (best_zero (weight lexer state row) n (omega (arith, weights_under, z))) refl

  best_first : (k : ℕ) → k ≡ first_with (weight lexer state row) top 0 n → k < n
      → record { length = top; rule = k } ≡ best (weight lexer state row) n
  unfolding earliest
  best_first k e h =
      let t : ℕ → Bool = λ j. eqb (weight lexer state row j) top in
      let w : weight lexer state row k ≡ top =
      eqb-true (weight lexer state row k) top (ap t e ∙ first_passes t 0 n (omega arith) (omega (arith, e, h))) in
      let q : top ≡ greatest (weight lexer state row) n = omega (arith, weights_under, w, below_greatest (weight lexer state row) n k h) in
      let p : k ≡ earliest (weight lexer state row) n = e ∙ ap (λ (m : ℕ). first_with (weight lexer state row) m 0 n) q in
      λ i. record { length = q i; rule = p i }

  pub winner_first : 0 < top → {o : Option ℕ} → Below n (first_with (weight lexer state row) top 0 n) o → {k : ℕ} → o ≡ Some k
      → Some (record { length = top; rule = k }) ≡ winning (best (weight lexer state row) n)
  winner_first some found {k} q =
      let b = subst (Below n (first_with (weight lexer state row) top 0 n)) q found in
      one_wins (best_first k b.1 b.0) (λ z. omega (arith, some, z))
