-- Where characters start in a text of code points: at the edges, and nowhere else. The first byte of a character is not from 80 to BF, the bytes
-- inside it are; so on well-formed text an edge is where no byte of 80 to BF stands.
use mathlib.Core.Path.{◌≡◌, refl, sym, ap, subst, ◌∙◌}
use mathlib.Core.Bool.{Bool, true, false, not, ◌&&◌, true≢false}
use mathlib.Core.List.{List, [], ◌∷◌, ◌++◌, append_assoc, append-nil}
use mathlib.Core.Logic.{◌⊎◌, inl, inr}
use Prim.Native.Nat.{ℕ, ◌+◌, ◌-◌, ◌/◌, ◌≤◌, ◌<◌}
use native.Mathlib.Nat.{le_refl, eq-or-lt_of_le}
use native.Mathlib.Omega.{arith}
use borrow.Author.Tests.{le-leb, lt-leb, leb-true}
use lib.Dec.{leb}
use lib.ListN.{length, length-append, get_or-eq_default}
use Rattle.std.proofs.lemmas.Bool.{and_parts}
use Rattle.characters.specs.Whitespace.{byte}
use Rattle.characters.specs.Unicode.{encode, encode_all, Edge, JudgesEdge}
use Rattle.characters.specs.Utf8.{is_continuation, at_edge, is_edge}
use Rattle.characters.proofs.Tests.{in_range, above_range, le_or_lt}
use Rattle.characters.proofs.Codes.{by_size, encode_1, encode_2, encode_3, encode_4, encode_all-append}
use Rattle.characters.proofs.Ascii.{first-at, inner_at}

-- the first byte of a character is no byte from 80 to BF
first_outside : (y : ℕ) (t : List ℕ) → is_continuation (byte (encode y ++ t) 0) ≡ false
first_outside y t =
    by_size y
    (λ r. rw (encode_1 y r, lt-leb 0x80 y r))
    (λ l r. rw (encode_2 y l r) (above_range 0x80 0xbf (0xc0 + y / 0x40) (omega arith)))
    (λ l r. rw (encode_3 y l r) (above_range 0x80 0xbf (0xe0 + y / 0x1000) (omega arith)))
    (λ l. rw (encode_4 y l) (above_range 0x80 0xbf (0xf0 + y / 0x40000) (omega arith)))

module _ (xs : List ℕ) (x : ℕ) where
  -- how long a text is that goes on with x, and where the bytes of x end
  pub length_all : (ys : List ℕ) → length (encode_all (xs ++ x ∷ ys)) ≡ length (encode_all xs) + (length (encode x) + length (encode_all ys))
  unfolding encode_all
  length_all ys =
      ap length (encode_all-append xs (x ∷ ys))
      ∙ length-append (encode_all xs) (encode x ++ encode_all ys)
      ∙ ap (λ (n : ℕ). length (encode_all xs) + n) (length-append (encode x) (encode_all ys))

  pub edge_behind : length (encode_all (xs ++ x ∷ [])) ≡ length (encode_all xs) + length (encode x)
  unfolding encode_all
  edge_behind = omega (arith, length_all [])

  -- inside the character is no edge
  pub no_edge_inside : (t : List ℕ) (m : ℕ) → length (encode_all xs) + 1 ≤ m → m < length (encode_all xs) + length (encode x)
      → at_edge (encode_all (xs ++ x ∷ t)) m ≡ false
  no_edge_inside t m h l =
      let q : length (encode_all xs) + (m - length (encode_all xs)) ≡ m = omega arith in
      let b = inner_at xs x t (m - length (encode_all xs)) (omega arith) (omega arith) in
      let d : is_continuation (byte (encode_all (xs ++ x ∷ t)) (length (encode_all xs) + (m - length (encode_all xs)))) ≡ true =
      in_range 0x80 0xbf _ b.0 (omega (arith, b.1)) in
      ap (λ (k : ℕ). at_edge (encode_all (xs ++ x ∷ t)) k) (sym q) ∙ ap not d

-- behind the last byte no character goes on
pub end_edge : (s : List ℕ) → at_edge s (length s) ≡ true
end_edge s = ap (λ (b : ℕ). not (is_continuation b)) (get_or-eq_default s 0 (le_refl (length s)))

-- an edge is where another character starts, or the text ends
pub edge_at : (xs ys : List ℕ) → at_edge (encode_all (xs ++ ys)) (length (encode_all xs)) ≡ true
edge_at xs [] = ap (λ (l : List ℕ). at_edge (encode_all l) (length (encode_all xs))) (append-nil xs) ∙ end_edge (encode_all xs)
edge_at xs (y ∷ ys) = ap (λ (b : ℕ). not (is_continuation b)) (first-at xs y ys) ∙ ap not (first_outside y (encode_all ys))

-- and every place of the text where no character goes on is an edge: from the edge behind xs on it is searched character by character
edge_from :
    (xs ys : List ℕ) (b : ℕ)
    → length (encode_all xs) ≤ b
    → b ≤ length (encode_all (xs ++ ys))
    → at_edge (encode_all (xs ++ ys)) b ≡ true
    → Edge (xs ++ ys) b
edge_from xs [] b l h t =
    let q : length (encode_all (xs ++ [])) ≡ length (encode_all xs) = ap (λ (zs : List ℕ). length (encode_all zs)) (append-nil xs) in
    record { before = xs; behind = []; all = refl; bytes = omega arith }
edge_from xs (y ∷ ys) b l h t =
    by (eq-or-lt_of_le l) (le_or_lt (length (encode_all xs) + length (encode y)) b)
    (λ g. edge_from (xs ++ y ∷ []) ys b g
    (subst (λ (zs : List ℕ). b ≤ length (encode_all zs)) (sym moved) h)
    (subst (λ (zs : List ℕ). at_edge (encode_all zs) b ≡ true) (sym moved) t))
  where
    moved : (xs ++ y ∷ []) ++ ys ≡ xs ++ y ∷ ys
    moved = append_assoc xs (y ∷ []) ys

    by :
        (length (encode_all xs) ≡ b) ⊎ (length (encode_all xs) < b)
        → (length (encode_all xs) + length (encode y) ≤ b) ⊎ (b < length (encode_all xs) + length (encode y))
        → (length (encode_all (xs ++ y ∷ [])) ≤ b → Edge ((xs ++ y ∷ []) ++ ys) b)
        → Edge (xs ++ y ∷ ys) b
    by (inl q) r on = record { before = xs; behind = y ∷ ys; all = refl; bytes = sym q }
    by (inr q) (inl r) on = subst (λ (zs : List ℕ). Edge zs b) moved (on (omega (arith, edge_behind xs y)))
    by (inr q) (inr r) on = absurd (true≢false (sym t ∙ no_edge_inside xs y ys b (omega arith) r))

-- ---- the test is exact

module _ (cs : List ℕ) (b : ℕ) where
  pub edge_passes : Edge cs b → is_edge (encode_all cs) b ≡ true
  edge_passes e = rw (le-leb b (length (encode_all cs)) inside, e.all, e.bytes) (edge_at e.before e.behind)
    where
      inside : b ≤ length (encode_all cs)
      inside = rw (e.all, encode_all-append e.before e.behind) (omega (arith, e.bytes, length-append (encode_all e.before) (encode_all e.behind)))

  pub edge_is : is_edge (encode_all cs) b ≡ true → Edge cs b
  unfolding encode_all
  edge_is t =
      let inside = leb-true b (length (encode_all cs)) (and_parts (leb b (length (encode_all cs))) (at_edge (encode_all cs) b) t).0 in
      edge_from [] cs b (omega arith) inside (and_parts (leb b (length (encode_all cs))) (at_edge (encode_all cs) b) t).1

  pub edge_judges : JudgesEdge cs b (is_edge (encode_all cs) b)
  edge_judges = record { sound = edge_is; complete = edge_passes }

-- the test on a byte that was read
pub edge_tested : (s : List ℕ) (b x : ℕ) (t : Bool) → x ≡ byte s b → t ≡ is_continuation x → leb b (length s) && not t ≡ is_edge s b
edge_tested s b x t e q = ap (λ (u : Bool). leb b (length s) && not u) (q ∙ ap is_continuation e)
