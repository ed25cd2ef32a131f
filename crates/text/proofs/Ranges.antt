-- Equal texts: the comparison says equality of lists, and the library's test of two slices is the same. So two texts differ if one byte does, and where
-- their last bytes are the same, what stands before these decides. Ranges that are split at the same place are compared by their parts.
use mathlib.Core.Path.{◌≡◌, refl, sym, ap, ap₂, ◌∙◌}
use mathlib.Core.Bool.{Bool, true, false, ◌&&◌, false≢true, and-true, and_assoc}
use mathlib.Core.List.{List, [], ◌∷◌, ◌++◌}
use Prim.Native.Nat.{ℕ, suc, ◌+◌, ◌-◌, ◌≤◌, ◌<◌, min}
use native.Mathlib.Omega.{arith}
use borrow.Author.Rules.{rules}
use borrow.Author.Tests.{eq-eqb, eqb-true}
use lib.Dec.{eqb}
use lib.ListN.{length, take, drop, length-drop, length-take}
use lib.Seq.{take_all, take-add, take-length, take-suc, drop-drop, drop-cons}
use Rattle.characters.specs.Whitespace.{byte}
use Rattle.text.specs.Range.{part, same_bytes, same_range, lookahead_is}
use Rattle.text.proofs.Parts.{part_length, part_size}
use Rattle.std.specs.Prelude.{Some, None}
use Rattle.std.specs.Cmp.Lexicographic.{pointwise}
use Rattle.std.proofs.lemmas.Cmp.{nat_list_eq_equiv}
use Rattle.std.proofs.Common.{inl, inr}
use Rattle.std.proofs.lemmas.Bool.{cases_lt, and_parts}
use Rattle.std.specs.List.{slice_range}

-- ---- same_bytes is equality

pub same_equal : (xs ys : List ℕ) → same_bytes xs ys ≡ true → xs ≡ ys
unfolding same_bytes
same_equal [] [] e = refl
same_equal [] (y ∷ ys) e = absurd (false≢true e)
same_equal (x ∷ xs) [] e = absurd (false≢true e)
same_equal (x ∷ xs) (y ∷ ys) e =
    ap₂ (λ (a : ℕ) (l : List ℕ). a ∷ l) (eqb-true x y (and_parts (eqb x y) (same_bytes xs ys) e).0) (same_equal xs ys (and_parts (eqb x y) (same_bytes xs ys) e).1)

pub same_self : (xs : List ℕ) → same_bytes xs xs ≡ true
unfolding same_bytes
same_self [] = refl
same_self (x ∷ xs) = rw (eq-eqb x x refl) (same_self xs)

pub same_not : (xs ys : List ℕ) → (xs ≡ ys → ⊥) → same_bytes xs ys ≡ false
same_not xs ys d = go (same_bytes xs ys) refl
  where
    go : (t : Bool) → same_bytes xs ys ≡ t → t ≡ false
    go true e = absurd (d (same_equal xs ys e))
    go false e = refl

pub same_lengths : (xs ys : List ℕ) → (length xs ≡ length ys → ⊥) → false ≡ same_bytes xs ys
same_lengths xs ys d = sym (same_not xs ys (λ q. d (ap length q)))

-- texts that differ at one place are not the same
pub same_places : (xs ys : List ℕ) (k : ℕ) → (byte xs k ≡ byte ys k → ⊥) → false ≡ same_bytes xs ys
same_places xs ys k d = sym (same_not xs ys (λ q. d (ap (λ (l : List ℕ). byte l k) q)))

no_bytes : (l : List ℕ) → length l ≡ 0 → l ≡ []
no_bytes [] e = refl
no_bytes (x ∷ xs) e = absurd (omega arith)

-- what stands behind lists of one length is compared by itself
same-append : (xs ys us vs : List ℕ) → length xs ≡ length ys → same_bytes (xs ++ us) (ys ++ vs) ≡ same_bytes xs ys && same_bytes us vs
unfolding same_bytes
same-append [] [] us vs q = refl
same-append [] (b ∷ ys) us vs q = absurd (omega arith)
same-append (a ∷ xs) [] us vs q = absurd (omega arith)
same-append (a ∷ xs) (b ∷ ys) us vs q =
    rw (same-append xs ys us vs (omega arith)) (sym (and_assoc (eqb a b) (same_bytes xs ys) (same_bytes us vs)))

-- the test of slices is the same
pointwise_same : (xs ys : List ℕ) → pointwise eqb xs ys ≡ same_bytes xs ys
unfolding same_bytes
pointwise_same [] [] = refl
pointwise_same [] (y ∷ ys) = refl
pointwise_same (x ∷ xs) [] = refl
pointwise_same (x ∷ xs) (y ∷ ys) = ap (λ (b : Bool). eqb x y && b) (pointwise_same xs ys)

-- two slices
pub slices_same : (xs ys zs : List ℕ) (r : Bool) → xs ≡ zs → r ≡ pointwise eqb xs ys → r ≡ same_bytes zs ys
slices_same xs ys zs r is e = e ∙ pointwise_same xs ys ∙ ap (λ (l : List ℕ). same_bytes l ys) is

-- ---- two texts by their lengths, by a byte that differs, and by what stands before their last bytes

pub no_bytes_same : (xs ys : List ℕ) → length xs ≡ 0 → length xs ≡ length ys → true ≡ same_bytes xs ys
no_bytes_same xs ys none long = rw (no_bytes xs none, no_bytes ys (sym long ∙ none)) (sym (same_self []))

-- the last byte stands at k, and m bytes before it
last_and_front : (l : List ℕ) (k m : ℕ) → k + 1 ≡ length l → m + 1 ≡ length l → l ≡ take m l ++ (byte l k ∷ [])
last_and_front l k m at before =
    let z : k ≡ m = omega arith in
    let e : length l ≡ suc m = omega arith in
    sym (take-length l) ∙ ap (λ (j : ℕ). take j l) e ∙ take-suc l m 0 (omega arith) ∙ ap (λ (j : ℕ). take m l ++ (byte l j ∷ [])) (sym z)

module _ (xs ys : List ℕ) (k m : ℕ) (r : Bool) where
  pub texts_same : k + 1 ≡ length xs → m + 1 ≡ length xs → length xs ≡ length ys → byte xs k ≡ byte ys k
      → r ≡ pointwise eqb (take m xs) (take m ys) → r ≡ same_bytes xs ys
  unfolding same_bytes
  texts_same at before long last e =
      let x = last_and_front xs k m at before in
      let y = last_and_front ys k m (at ∙ long) (before ∙ long) in
      let one : same_bytes (byte xs k ∷ []) (byte ys k ∷ []) ≡ true = rw (eq-eqb (byte xs k) (byte ys k) last) refl in
      let fronts : length (take m xs) ≡ length (take m ys) = omega (arith, length-take m xs, length-take m ys) in
      e ∙ pointwise_same (take m xs) (take m ys)
      ∙ sym (and-true (same_bytes (take m xs) (take m ys)))
      ∙ ap (λ (b : Bool). same_bytes (take m xs) (take m ys) && b) (sym one)
      ∙ sym (same-append (take m xs) (take m ys) (byte xs k ∷ []) (byte ys k ∷ []) fronts)
      ∙ ap₂ same_bytes (sym x) (sym y)

pub ruleset texts_compared = (rules, same_lengths, no_bytes_same, same_places, texts_same)

-- ---- a range and its parts

-- a range that is cut where its text ends, as the library cuts a slice
module _ (s : List ℕ) (a e r : ℕ) (fits : r ≡ min e (length s)) where
  pub part_inside : slice_range s a r ≡ part s a e
  unfolding part
  part_inside = elim (cases_lt e (length s)) [
    | inl h ↦ let z : r ≡ e = omega arith in ap (slice_range s a) z
    | inr h ↦ take_all (r - a) (drop a s) (omega (arith, length-drop a s)) ∙ sym (take_all (e - a) (drop a s) (omega (arith, length-drop a s)))
  ]

  pub part_outside : r < a → [] ≡ part s a e
  part_outside h = sym (no_bytes (part s a e) (part_size s a e ∙ omega arith))

pub ruleset cutting = (rules, part_inside, part_outside)

-- ---- ranges that are split at the same place: the parts are compared, each by itself

pub part_none : (s : List ℕ) (a e : ℕ) → e ≤ a → part s a e ≡ []
part_none s a e h = no_bytes (part s a e) (omega (arith, part_size s a e))

part_split : (s : List ℕ) (a m e : ℕ) → a ≤ m → m ≤ e → part s a e ≡ part s a m ++ part s m e
unfolding part
part_split s a m e h l =
    let q : e - a ≡ m - a + (e - m) = omega arith in
    let z : a + (m - a) ≡ m = omega arith in
    rw (q, take-add (m - a) (e - m) (drop a s), drop-drop (m - a) a s, z)

part_one : (s : List ℕ) (a e : ℕ) → e ≡ a + 1 → e ≤ length s → part s a e ≡ byte s a ∷ []
unfolding part
part_one s a e h l =
    let q : e - a ≡ suc 0 = omega arith in
    rw (q, drop-cons s a 0 (omega arith))

module _ (s : List ℕ) (a e : ℕ) (t : List ℕ) (c d : ℕ) where
  -- ranges split at m and p, as far behind their starts, are the same where both their parts are
  pub range_split :
      (m p : ℕ)
      → (a ≤ m) × (m ≤ e) × (m ≤ length s)
      → (c ≤ p) × (p ≤ d) × (p ≤ length t)
      → m - a ≡ p - c
      → same_range s a e t c d ≡ same_range s a m t c p && same_range s m e t p d
  unfolding same_range
  range_split m p x y q =
      rw (part_split s a m e x.0 x.1, part_split t c p d y.0 y.1)
      (same-append (part s a m) (part t c p) (part s m e) (part t p d) (part_length s a m (part s a m) refl x.2 ∙ q ∙ sym (part_length t c p (part t c p) refl y.2)))

  range_one : e ≡ a + 1 → d ≡ c + 1 → e ≤ length s → d ≤ length t → same_range s a e t c d ≡ eqb (byte s a) (byte t c)
  unfolding same_range same_bytes
  range_one x y ls lt = rw (part_one s a e x ls, part_one t c d y lt) (and-true (eqb (byte s a) (byte t c)))

module _ (s : List ℕ) (a : ℕ) (t : List ℕ) (c : ℕ) where
  -- k + 1 bytes are the same where k bytes are, and the next one
  pub range_more :
      (k : ℕ)
      → a + k < length s
      → c + k < length t
      → same_range s a (a + k) t c (c + k) && eqb (byte s (a + k)) (byte t (c + k)) ≡ same_range s a (a + (k + 1)) t c (c + (k + 1))
  range_more k h l =
      let one = range_one s (a + k) (a + (k + 1)) t (c + k) (c + (k + 1)) (omega arith) (omega arith) (omega arith) (omega arith) in
      rw (← one) (sym (range_split s a (a + (k + 1)) t c (c + (k + 1)) (a + k) (c + k) (omega arith) (omega arith) (omega arith)))

-- n bytes behind the first i are the same where a comparison of those behind the first j answers the same and no byte is left
pub bytes_end_lem :
    (s : List ℕ) (a : ℕ) (t : List ℕ) (c n i j : ℕ)
    → same_range s (a + i) (a + n) t (c + i) (c + n) ≡ same_range s (a + j) (a + n) t (c + j) (c + n)
    → n ≤ j
    → true ≡ same_range s (a + i) (a + n) t (c + i) (c + n)
unfolding same_range same_bytes
bytes_end_lem s a t c n i j before h = sym (before ∙ rw (part_none s (a + j) (a + n) (omega arith), part_none t (c + j) (c + n) (omega arith)))

-- ---- a word

part_short : (s : List ℕ) (a n : ℕ) → length s - a < n → (length (part s a (a + n)) ≡ n → ⊥)
part_short s a n h e = omega (arith, e, part_size s a (a + n))

-- no word stands where the text is shorter
pub ahead_short : (s w : List ℕ) (i : ℕ) → length s - i < length w → None ≡ lookahead_is s w i
unfolding lookahead_is
ahead_short s w i h = rw (← same_lengths (part s i (i + length w)) w (part_short s i (length w) h))

-- a slice up to the end of its text
rest_whole : (s : List ℕ) (i : ℕ) → take (length s - i) (drop i s) ≡ drop i s
rest_whole s i = take_all (length s - i) (drop i s) (omega (arith, length-drop i s))

module _ (s w : List ℕ) (i : ℕ) (r : Bool) (is : r ≡ pointwise eqb w (take (length w) (take (length s - i) (drop i s)))) where
  stands : same_bytes (part s i (i + length w)) w ≡ r
  unfolding part
  stands =
      let n : i + length w - i ≡ length w = omega arith in
      rw n
      (sym (pointwise_same (take (length w) (drop i s)) w)
      ∙ nat_list_eq_equiv.symm (take (length w) (drop i s)) w
      ∙ ap (λ (l : List ℕ). pointwise eqb w (take (length w) l)) (sym (rest_whole s i))
      ∙ sym is)

  pub ahead_yes : r ≡ true → Some (i + length w) ≡ lookahead_is s w i
  unfolding lookahead_is
  ahead_yes e = rw (stands, e)

  pub ahead_no : r ≡ false → None ≡ lookahead_is s w i
  unfolding lookahead_is
  ahead_no e = rw (stands, e)

pub ruleset looking_ahead = (rules, ahead_yes, ahead_no)
