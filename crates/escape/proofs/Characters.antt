-- An escape is a whole character in the sense of Unicode: in a text of code points the character that starts at an edge ends behind the bytes of its
-- code point. The bytes up to there are inside it, from 80 to BF; at the next edge stands the first byte of another character, which is not, or the end.
use mathlib.Core.Path.{◌≡◌, sym, ap, ◌∙◌}
use mathlib.Core.Bool.{true}
use mathlib.Core.List.{List, [], ◌∷◌, ◌++◌, append_assoc}
use Prim.Native.Nat.{ℕ, ◌+◌}
use native.Mathlib.Omega.{arith}
use lib.ListN.{length, length-append}
use Rattle.characters.specs.Walk.{first}
use Rattle.characters.specs.Unicode.{encode, encode_all}
use Rattle.characters.specs.Utf8.{at_edge}
use Rattle.characters.proofs.Walks.{first_here, first_none, first_over}
use Rattle.characters.proofs.Codes.{encode_long}
use Rattle.characters.proofs.Ascii.{ascii_whole}
use Rattle.characters.proofs.Edges.{length_all, edge_behind, no_edge_inside, edge_at}
use Rattle.escape.specs.Escape.{next_backslash, char_end, next_escape}
use Rattle.escape.proofs.Backslashes.{is_backslash}

module _ (xs : List ℕ) (x : ℕ) where
  -- behind x another character starts, or the pattern ends
  edge_next : (y : ℕ) (t : List ℕ) → at_edge (encode_all (xs ++ x ∷ y ∷ t)) (length (encode_all xs) + length (encode x)) ≡ true
  edge_next y t =
      ap (λ (k : ℕ). at_edge (encode_all (xs ++ x ∷ y ∷ t)) k) (sym (edge_behind xs x))
      ∙ ap (λ (l : List ℕ). at_edge (encode_all l) (length (encode_all (xs ++ x ∷ [])))) (sym (append_assoc xs (x ∷ []) (y ∷ t)))
      ∙ edge_at (xs ++ x ∷ []) (y ∷ t)

  stops : (ys zs : List ℕ) → length (encode_all xs) + length (encode x) ≡ first (at_edge (encode_all (xs ++ x ∷ (ys ++ zs)))) (length (encode_all xs) + length (encode x)) (length (encode_all (xs ++ x ∷ ys)))
  unfolding encode_all
  stops [] zs = first_none _ _ _ (omega (arith, length_all xs x []))
  stops (y ∷ ys) zs =
      first_here (at_edge (encode_all (xs ++ x ∷ (y ∷ (ys ++ zs))))) _ _
      (omega (arith, length_all xs x (y ∷ ys), encode_long y, length-append (encode y) (encode_all ys)))
      (edge_next y (ys ++ zs))

  -- the pattern ends behind the characters xs, x and ys, and zs follow it: at x a character has the bytes of x
  pub char_end_at : (ys zs : List ℕ) → char_end (encode_all ((xs ++ x ∷ ys) ++ zs)) (length (encode_all (xs ++ x ∷ ys))) (length (encode_all xs)) ≡ length (encode_all xs) + length (encode x)
  char_end_at ys zs =
      ap (λ (l : List ℕ). char_end (encode_all l) (length (encode_all (xs ++ x ∷ ys))) (length (encode_all xs))) (append_assoc xs (x ∷ ys) zs)
      ∙ first_over (at_edge (encode_all (xs ++ x ∷ (ys ++ zs)))) (length (encode_all xs) + 1) (length (encode_all xs) + length (encode x)) (length (encode_all (xs ++ x ∷ ys)))
      (omega (arith, encode_long x))
      (omega (arith, length_all xs x ys))
      (no_edge_inside xs x (ys ++ zs))
      ∙ sym (stops ys zs)

-- at the code point of a backslash the next escape is that backslash and the whole character x behind it
module _ (xs : List ℕ) (x : ℕ) (ys zs : List ℕ) where
  backslash-at : next_backslash (encode_all ((xs ++ 0x5c ∷ x ∷ ys) ++ zs)) (length (encode_all (xs ++ 0x5c ∷ x ∷ ys))) (length (encode_all xs)) ≡ length (encode_all xs)
  unfolding encode
  backslash-at =
      sym (first_here (is_backslash (encode_all ((xs ++ 0x5c ∷ x ∷ ys) ++ zs))) (length (encode_all xs)) (length (encode_all (xs ++ 0x5c ∷ x ∷ ys)))
      (omega (arith, length_all xs 0x5c (x ∷ ys)))
      (ap (λ (l : List ℕ). is_backslash (encode_all l) (length (encode_all xs))) (append_assoc xs (0x5c ∷ x ∷ ys) zs)
      ∙ (ascii_whole xs 0x5c (x ∷ (ys ++ zs)) 0x5c (omega arith)).edge))

  char_behind : char_end (encode_all ((xs ++ 0x5c ∷ x ∷ ys) ++ zs)) (length (encode_all (xs ++ 0x5c ∷ x ∷ ys))) (length (encode_all xs) + 1) ≡ length (encode_all xs) + 1 + length (encode x)
  unfolding encode
  char_behind =
      ap (λ (k : ℕ). char_end (encode_all ((xs ++ 0x5c ∷ x ∷ ys) ++ zs)) (length (encode_all (xs ++ 0x5c ∷ x ∷ ys))) k) (sym (edge_behind xs 0x5c))
      ∙ ap (λ (l : List ℕ). char_end (encode_all (l ++ zs)) (length (encode_all l)) (length (encode_all (xs ++ 0x5c ∷ [])))) (sym (append_assoc xs (0x5c ∷ []) (x ∷ ys)))
      ∙ char_end_at (xs ++ 0x5c ∷ []) x ys zs
      ∙ ap (λ (k : ℕ). k + length (encode x)) (edge_behind xs 0x5c)

  pub escape_at :
      next_escape (encode_all ((xs ++ 0x5c ∷ x ∷ ys) ++ zs)) (length (encode_all (xs ++ 0x5c ∷ x ∷ ys))) (length (encode_all xs))
      ≡ record { backslash = length (encode_all xs); start = length (encode_all xs) + 1; end = length (encode_all xs) + 1 + length (encode x) }
  unfolding next_escape
  escape_at = rw (backslash-at, char_behind)
