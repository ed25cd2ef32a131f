-- The first text of some bytes stands before the first end, and the others behind it.
use Rattle.std.proofs.Common.{arith, ℕ, suc, ◌-◌, ◌≤◌, ◌≡◌, ◌<◌, ◌+◌, ◌∙◌, refl, sym, ap, subst, nat_lt, List, [], ◌∷◌, length, take, drop}
use Rattle.std.proofs.Common.{Bool, true, false, cond, eqb, not, true≢false, Option, Some, None, is_some}
use Rattle.std.proofs.lemmas.Bool.{ltb-true, ltb-false}
use Rattle.std.proofs.lemmas.List.{take_all, length-drop}
use Rattle.std.specs.List.{position, position_or_len}
use Rattle.streams.specs.Texts.{texts, before_first}

module _ (end : ℕ) where
  -- the byte ends a text
  abbrev ends : ℕ → Bool
  ends b = eqb b end

  -- the n bytes in front as a text, and the texts behind the byte that ends it
  abbrev cut : ℕ → List ℕ → List (List ℕ)
  cut n xs = take n xs ∷ texts end (drop (suc n) xs)

  -- the bytes as one text, if there are any
  abbrev one_text : List ℕ → List (List ℕ)
  one_text [] = []
  one_text (x ∷ xs) = (x ∷ xs) ∷ []

  by_byte : (b : Bool) (x : ℕ) (xs : List ℕ) (n : ℕ) → (n < length xs → texts end xs ≡ cut n xs) → cond (not b) (1 + n) 0 < length (x ∷ xs)
      → cond b ([] ∷ texts end xs) (before_first x (texts end xs)) ≡ cut (cond (not b) (suc n) 0) (x ∷ xs)
  by_byte true x xs n on l = refl
  by_byte false x xs n on l = ap (before_first x) (on (omega arith))

  text_found : (xs : List ℕ) → position_or_len ends xs < length xs → texts end xs ≡ cut (position_or_len ends xs) xs
  text_found [] l = absurd (omega arith)
  text_found (x ∷ xs) l =
      let n = position_or_len ends xs in
      let one : suc n ≡ 1 + n = omega arith in
      subst (λ k. texts end (x ∷ xs) ≡ cut (cond (not (ends x)) k 0) (x ∷ xs)) one (by_byte (ends x) x xs n (text_found xs) l)

  by_none : (b : Bool) (x : ℕ) (xs : List ℕ) (n : ℕ) → ¬ (cond (not b) (1 + n) 0 < length (x ∷ xs)) → (¬ (n < length xs) → texts end xs ≡ one_text xs)
      → cond b ([] ∷ texts end xs) (before_first x (texts end xs)) ≡ (x ∷ xs) ∷ []
  by_none true x xs n h on = absurd (h (omega arith))
  by_none false x [] n h on = refl
  by_none false x (y ∷ ys) n h on = ap (before_first x) (on (λ l. h (omega (arith, l))))

  text_whole : (xs : List ℕ) → ¬ (position_or_len ends xs < length xs) → texts end xs ≡ one_text xs
  text_whole [] h = refl
  text_whole (x ∷ xs) h = by_none (ends x) x xs (position_or_len ends xs) h (text_whole xs)

  is_found : (b : Bool) (m n : ℕ) → cond b (Some m) None ≡ Some n → (b ≡ true) × (m ≡ n)
  is_found true m n e = (refl, ap (λ (o : Option ℕ). elim o [ None ↦ m | Some z ↦ z ]) e)
  is_found false m n e = absurd (true≢false (sym (ap is_some e)))

  is_missing : (b : Bool) (m : ℕ) → cond b (Some m) None ≡ None → b ≡ false
  is_missing true m e = absurd (true≢false (ap is_some e))
  is_missing false m e = refl

  -- the first text ends at the first end
  pub first_text : (xs : List ℕ) (r : Option ℕ) (n : ℕ) → r ≡ position ends xs → r ≡ Some n
      → texts end xs ≡ take n xs ∷ texts end (take (length xs - (n + 1)) (drop (n + 1) xs))
  first_text xs r n p e =
      let m = position_or_len ends xs in
      let f = is_found (nat_lt m (length xs)) m n (sym p ∙ e) in
      let next : suc n ≡ n + 1 = omega arith in
      let behind : take (length xs - (n + 1)) (drop (n + 1) xs) ≡ drop (n + 1) xs = take_all _ _ (omega (arith, length-drop (n + 1) xs)) in
      let all : texts end xs ≡ cut n xs = subst (λ k. texts end xs ≡ cut k xs) f.1 (text_found xs (ltb-true _ _ f.0)) in
      all ∙ ap (λ k. take n xs ∷ texts end (drop k xs)) next ∙ ap (λ ys. take n xs ∷ texts end ys) (sym behind)

  -- where no byte ends a text, all is one
  pub last_text : (xs : List ℕ) (r : Option ℕ) → r ≡ position ends xs → r ≡ None → 0 < length xs → texts end xs ≡ xs ∷ []
  last_text [] r p e l = absurd (omega arith)
  last_text (x ∷ xs) r p e l =
      let m = position_or_len ends (x ∷ xs) in
      let all : length (x ∷ xs) ≤ m = ltb-false m (length (x ∷ xs)) (is_missing (nat_lt m (length (x ∷ xs))) m (sym p ∙ e)) in
      text_whole (x ∷ xs) (λ h. omega (arith, h, all))
