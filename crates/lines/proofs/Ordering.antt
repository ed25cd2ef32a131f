-- The places of a text only go up, and at each edge by something: so at most one offset that is allowed stands at a place, none before an offset whose
-- place is not past it, and none from an offset on whose place is.
use mathlib.Core.Path.{◌≡◌, refl, sym, ap, subst, ◌∙◌}
use mathlib.Core.Bool.{Bool, true, false, ◌&&◌, ◌||◌, true≢false, or-true}
use mathlib.Core.List.{List}
use mathlib.Core.Logic.{◌⊎◌, inl, inr, ⊎_elim}
use Prim.Native.Nat.{ℕ, ◌+◌, ◌≤◌, ◌<◌}
use native.Mathlib.Nat.{eq-zero-or-pos}
use native.Mathlib.Omega.{arith}
use borrow.Author.Tests.{ltb-true, lt-ltb, eqb-true, eq-eqb, ne_eqb, not-false}
use lib.Dec.{eqb, leb, ltb}
use lib.ListN.{length}
use Rattle.std.proofs.lemmas.Bool.{false_from_ne_true, and_parts}
use Rattle.characters.specs.Utf8.{is_continuation, at_edge}
use Rattle.characters.specs.Walk.{count}
use Rattle.characters.specs.Whitespace.{byte}
use Rattle.characters.proofs.Tests.{range_of, le_or_lt}
use Rattle.characters.proofs.Counts.{count_some, count_failing}
use Rattle.lines.specs.declared.Place.{Place}
use Rattle.lines.specs.Lines.{line_feed, ends_line, line_num, col_num, place, is_allowed, stands, line_of, column_of}
use Rattle.lines.specs.Places.{place_at, is_past}
use Rattle.lines.proofs.Moving.{line_on, column_on}

-- ---- which of two places is past the other

abbrev Past : Place → Place → Type 0
Past p q = (line_of q < line_of p) ⊎ ((line_of q ≡ line_of p) × (column_of q < column_of p))

module _ (p q : Place) where
  past_says : is_past p q ≡ true → Past p q
  past_says e = go (ltb (line_of q) (line_of p)) refl e
    where
      go : (t : Bool) → ltb (line_of q) (line_of p) ≡ t → t || (eqb (line_of q) (line_of p) && ltb (column_of q) (column_of p)) ≡ true → Past p q
      go true f g = inl (ltb-true (line_of q) (line_of p) f)
      go false f g =
          inr (
            eqb-true (line_of q) (line_of p) (and_parts (eqb (line_of q) (line_of p)) (ltb (column_of q) (column_of p)) g).0,
            ltb-true (column_of q) (column_of p) (and_parts (eqb (line_of q) (line_of p)) (ltb (column_of q) (column_of p)) g).1,
          )

  past_is : Past p q → is_past p q ≡ true
  past_is (inl h) = rw (lt-ltb (line_of q) (line_of p) h)
  past_is (inr h) = rw (eq-eqb (line_of q) (line_of p) h.0, lt-ltb (column_of q) (column_of p) h.1) (or-true (ltb (line_of q) (line_of p)))

  not_past : is_past p q ≡ false → Past p q → ⊥
  not_past e h = true≢false (sym (past_is h) ∙ e)

  line_low : is_past p q ≡ false → line_of p ≤ line_of q
  line_low e = ⊎_elim (λ h. h) (λ h. absurd (not_past e (inl h))) (le_or_lt (line_of p) (line_of q))

  column_low : is_past p q ≡ false → line_of q ≡ line_of p → column_of p ≤ column_of q
  column_low e l = ⊎_elim (λ h. h) (λ h. absurd (not_past e (inr (l, h)))) (le_or_lt (column_of p) (column_of q))

-- neither is past the other: they are the same
pub neither_past : (p q : Place) → is_past p q ≡ false → is_past q p ≡ false → p ≡ q
neither_past p q e f =
    let l : line_of p ≡ line_of q = omega (arith, line_low p q e, line_low q p f) in
    let c : column_of p ≡ column_of q = omega (arith, column_low p q e (sym l), column_low q p f l) in
    λ j. place (l j) (c j)

-- a place is not past itself
itself_not_past : (p : Place) → is_past p p ≡ true → ⊥
itself_not_past p e = ⊎_elim (λ h. omega arith) (λ h. omega (arith, h.1)) (past_says p p e)

pub not_past_itself : (p : Place) → is_past p p ≡ false
not_past_itself p = false_from_ne_true (is_past p p) (itself_not_past p)

-- ---- the places of a text

module _ (s : List ℕ) (i k : ℕ) where
  -- on a later line, or on the same line as many columns on as characters start between
  on_or_below : i ≤ k → (line_num s i < line_num s k) ⊎ ((line_num s i ≡ line_num s k) × (col_num s k ≡ col_num s i + count (at_edge s) i k))
  on_or_below h =
      ⊎_elim
      (λ z. inr (omega (arith, z, line_on s i k h), column_on s i k h z))
      (λ n. inl (omega (arith, n, line_on s i k h)))
      (eq-zero-or-pos (count (ends_line s) i k))

  pub places_rise : (q : Place) → i ≤ k → is_past (place_at s i) q ≡ true → is_past (place_at s k) q ≡ true
  unfolding place_at
  places_rise q h e = past_is (place_at s k) q (by (past_says (place_at s i) q e) (on_or_below h))
    where
      by :
          Past (place (line_num s i) (col_num s i)) q
          → (line_num s i < line_num s k) ⊎ ((line_num s i ≡ line_num s k) × (col_num s k ≡ col_num s i + count (at_edge s) i k))
          → Past (place (line_num s k) (col_num s k)) q
      by (inl a) (inl b) = inl (omega arith)
      by (inl a) (inr b) = inl (omega (arith, b.0))
      by (inr a) (inl b) = inl (omega (arith, a.0))
      by (inr a) (inr b) = inr (omega (arith, a.0, b.0), omega (arith, a.1, b.1))

  -- from an edge on by something
  pub edges_rise : i < k → at_edge s i ≡ true → is_past (place_at s k) (place_at s i) ≡ true
  unfolding place_at
  edges_rise h e = past_is (place_at s k) (place_at s i) (by (on_or_below (omega arith)))
    where
      by :
          (line_num s i < line_num s k) ⊎ ((line_num s i ≡ line_num s k) × (col_num s k ≡ col_num s i + count (at_edge s) i k))
          → Past (place (line_num s k) (col_num s k)) (place (line_num s i) (col_num s i))
      by (inl b) = inl b
      by (inr b) = inr (b.0, omega (arith, b.1, count_some (at_edge s) i i k (omega arith) h e))

-- inside a character the place stays
pub inside_stays : (s : List ℕ) (i : ℕ) → at_edge s i ≡ false → place_at s (i + 1) ≡ place_at s i
unfolding place_at
inside_stays s i e =
    let z = count_failing (ends_line s) i (i + 1) (λ m h l. ap (ends_line s) (one m h l) ∙ no_end) in
    let n = count_failing (at_edge s) i (i + 1) (λ m h l. ap (at_edge s) (one m h l) ∙ e) in
    let l : line_num s (i + 1) ≡ line_num s i = omega (arith, line_on s i (i + 1) (omega arith), z) in
    let c : col_num s (i + 1) ≡ col_num s i = omega (arith, column_on s i (i + 1) (omega arith) z, n) in
    λ j. place (l j) (c j)
  where
    one : (m : ℕ) → i ≤ m → m < i + 1 → m ≡ i
    one m h l = omega arith

    no_end : ends_line s i ≡ false
    no_end = ne_eqb (byte s i) line_feed (λ q. omega (arith, q, (range_of 0x80 0xbf (byte s i) (not-false (is_continuation (byte s i)) e)).0))

-- ---- which offsets stand at a place

module _ (s : List ℕ) (q : Place) (m : ℕ) (e : stands s q m ≡ true) where
  same_line_and_column : eqb (line_num s m) (line_of q) && eqb (col_num s m) (column_of q) ≡ true
  same_line_and_column = (and_parts (is_allowed s m) (eqb (line_num s m) (line_of q) && eqb (col_num s m) (column_of q)) e).1

  pub stands_at : place_at s m ≡ q
  unfolding place_at
  stands_at =
      let l = eqb-true (line_num s m) (line_of q) (and_parts (eqb (line_num s m) (line_of q)) (eqb (col_num s m) (column_of q)) same_line_and_column).0 in
      let c = eqb-true (col_num s m) (column_of q) (and_parts (eqb (line_num s m) (line_of q)) (eqb (col_num s m) (column_of q)) same_line_and_column).1 in
      λ j. place (l j) (c j)

  pub stands_allowed : is_allowed s m ≡ true
  stands_allowed = (and_parts (is_allowed s m) (eqb (line_num s m) (line_of q) && eqb (col_num s m) (column_of q)) e).0

pub stands_where : (s : List ℕ) (q : Place) (m : ℕ) → is_allowed s m ≡ true → place_at s m ≡ q → stands s q m ≡ true
unfolding place_at
stands_where s q m a p = rw (a, eq-eqb (line_num s m) (line_of q) (ap line_of p), eq-eqb (col_num s m) (column_of q) (ap column_of p))

module _ (s : List ℕ) (q : Place) (m k : ℕ) where
  -- none from an offset on whose place is past it
  pub none_behind : is_past (place_at s k) q ≡ true → k ≤ m → stands s q m ≡ false
  none_behind p h =
      false_from_ne_true (stands s q m) (λ e. itself_not_past q (subst (λ (x : Place). is_past x q ≡ true) (stands_at s q m e) (places_rise s k m q h p)))

  -- and none before one whose place is not
  pub none_before : is_past (place_at s k) q ≡ false → m < k → stands s q m ≡ false
  none_before p h =
      false_from_ne_true (stands s q m)
      (λ e. true≢false (sym (subst (λ (x : Place). is_past (place_at s k) x ≡ true) (stands_at s q m e) (edges_rise s m k h (edge e))) ∙ p))
    where
      edge : stands s q m ≡ true → at_edge s m ≡ true
      edge e = (and_parts (leb m (length s)) (at_edge s m) (stands_allowed s q m e)).1
