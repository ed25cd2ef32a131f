-- The line and column are those of an editor: in a text of code points the place goes on by one character as `behind_one` says, so by induction it is
-- `behind_all` of the characters before the offset. No offset but the edges is allowed.
use mathlib.Core.Path.{◌≡◌, refl, sym, ap, ◌∙◌}
use mathlib.Core.Bool.{Bool, true, false, cond}
use mathlib.Core.List.{List, [], ◌∷◌, ◌++◌, append_assoc, append-nil}
use mathlib.Core.Logic.{⊎_elim}
use Prim.Native.Nat.{ℕ, ◌+◌, ◌-◌, ◌≤◌, ◌<◌}
use native.Mathlib.Nat.{eq-or-lt_of_le}
use native.Mathlib.Omega.{arith}
use borrow.Author.Tests.{eqb-true}
use lib.Dec.{eqb}
use lib.ListN.{length}
use Rattle.std.specs.Prelude.{Ok, Err}
use Rattle.std.proofs.lemmas.Bool.{false_from_ne_true}
use Rattle.characters.specs.Utf8.{at_edge}
use Rattle.characters.specs.Unicode.{encode, encode_all, Edge}
use Rattle.characters.specs.Walk.{one_if, last, count}
use Rattle.characters.proofs.Counts.{count_none, count_next, count_split, count_failing}
use Rattle.characters.proofs.Codes.{encode_long}
use Rattle.characters.proofs.Ascii.{ascii_whole}
use Rattle.characters.proofs.Edges.{edge_behind, no_edge_inside, edge_at, edge_passes, edge_is}
use Rattle.characters.proofs.Decoding.{utf8_judges}
use Rattle.lines.specs.declared.Place.{Place}
use Rattle.lines.specs.declared.PlaceError.TheVariants.{NoSuchPlace}
use Rattle.lines.specs.Lines.{ends_line, line_num, col_num, behind_end, place, is_allowed, place_in, line_column}
use Rattle.lines.specs.Places.{place_at}
use Rattle.lines.specs.CodePoints.{behind_one, behind_all, ByCodePointsHolds}
use Rattle.lines.proofs.Testing.{tested_text}
use Rattle.lines.proofs.Moving.{line_on, column_on, column_anew, start_inside}
use Rattle.lines.proofs.Placing.{first_placed}

-- ---- one character

module _ (ws : List ℕ) (x : ℕ) (ys : List ℕ) where
  abbrev whole : List ℕ
  whole = encode_all (ws ++ x ∷ ys)

  abbrev here : ℕ
  here = length (encode_all ws)

  abbrev width : ℕ
  width = length (encode x)

  -- one character starts in it
  one_starts : count (at_edge whole) here (here + width) ≡ 1
  one_starts =
      let first : at_edge whole here ≡ true = edge_at ws (x ∷ ys) in
      let o : one_if (at_edge whole here) ≡ 1 = rw first in
      let none : count (at_edge whole) (here + 1) (here + width) ≡ 0 =
      count_failing (at_edge whole) (here + 1) (here + width) (λ m h l. no_edge_inside ws x ys m h l) in
      omega (
        arith,
        o,
        none,
        count_none (at_edge whole) here here (omega arith),
        count_next (at_edge whole) here here (omega arith),
        count_split (at_edge whole) here (here + 1) (here + width) (omega arith) (omega (arith, encode_long x)),
      )

  -- a line ends in it exactly if it is U+000A, which has one byte
  ends_at : (m : ℕ) → here ≤ m → m < here + width → eqb x 0x0a ≡ false → ends_line whole m ≡ false
  ends_at m h l e =
      ⊎_elim
      (λ q. ap (ends_line whole) (sym q) ∙ (ascii_whole ws x ys 0x0a (omega arith)).edge ∙ e)
      (λ g. let q : m ≡ here + (m - here) = omega arith in
      ap (ends_line whole) q ∙ (ascii_whole ws x ys 0x0a (omega arith)).inside (m - here) (omega arith) (omega arith))
      (eq-or-lt_of_le h)

  -- U+000A goes to the next line
  behind_line_feed : eqb x 0x0a ≡ true → place_at whole (here + width) ≡ place (line_num whole here + 1) 1
  unfolding place_at
  behind_line_feed e =
      let w : width ≡ 1 = (ascii_whole ws x ys 0x0a (omega arith)).wide (eqb-true x 0x0a e) in
      let ends : ends_line whole here ≡ true = (ascii_whole ws x ys 0x0a (omega arith)).edge ∙ e in
      let o : one_if (ends_line whole here) ≡ 1 = rw ends in
      let n : count (ends_line whole) here (here + 1) ≡ 1 = omega (
        arith,
        o,
        count_none (ends_line whole) here here (omega arith),
        count_next (ends_line whole) here here (omega arith),
      ) in
      let some : count (ends_line whole) here (here + 1) ≡ 0 → ⊥ = λ z. omega (arith, n, z) in
      let inside = start_inside whole here (here + 1) (omega arith) some in
      let none = count_none (at_edge whole) (behind_end (last (ends_line whole) here (here + 1))) (here + 1) (omega (arith, inside.0)) in
      let l : line_num whole (here + 1) ≡ line_num whole here + 1 = omega (arith, n, line_on whole here (here + 1) (omega arith)) in
      let c : col_num whole (here + 1) ≡ 1 = omega (arith, none, column_anew whole here (here + 1) (omega arith) some) in
      ap (λ (k : ℕ). place (line_num whole (here + k)) (col_num whole (here + k))) w ∙ (λ j. place (l j) (c j))

  -- any other character to the next column
  behind_other : eqb x 0x0a ≡ false → place_at whole (here + width) ≡ place (line_num whole here) (col_num whole here + 1)
  unfolding place_at
  behind_other e =
      let none : count (ends_line whole) here (here + width) ≡ 0 = count_failing (ends_line whole) here (here + width) (λ m h l. ends_at m h l e) in
      let l : line_num whole (here + width) ≡ line_num whole here = omega (arith, none, line_on whole here (here + width) (omega arith)) in
      let c : col_num whole (here + width) ≡ col_num whole here + 1 = omega (arith, column_on whole here (here + width) (omega arith) none, one_starts) in
      λ j. place (l j) (c j)

  behind_character : place_at whole (here + width) ≡ behind_one (place_at whole here) x
  unfolding place_at behind_one
  behind_character = go (eqb x 0x0a) refl
    where
      go : (t : Bool) → eqb x 0x0a ≡ t → place_at whole (here + width)
          ≡ cond t (place (line_num whole here + 1) 1) (place (line_num whole here) (col_num whole here + 1))
      go true e = behind_line_feed e
      go false e = behind_other e

-- ---- the characters one after the other, behind the characters ws

behind_from :
    (ws xs ys : List ℕ)
    → place_at (encode_all (ws ++ (xs ++ ys))) (length (encode_all (ws ++ xs)))
    ≡ behind_all (place_at (encode_all (ws ++ (xs ++ ys))) (length (encode_all ws))) xs
unfolding behind_all
behind_from ws [] ys = ap (λ (zs : List ℕ). place_at (encode_all (ws ++ ys)) (length (encode_all zs))) (append-nil ws)
behind_from ws (x ∷ xs) ys = rest (behind_from (ws ++ x ∷ []) xs ys)
  where
    one : place_at (encode_all (ws ++ x ∷ (xs ++ ys))) (length (encode_all (ws ++ x ∷ [])))
        ≡ behind_one (place_at (encode_all (ws ++ x ∷ (xs ++ ys))) (length (encode_all ws))) x
    one = ap (place_at (encode_all (ws ++ x ∷ (xs ++ ys)))) (edge_behind ws x) ∙ behind_character ws x (xs ++ ys)

    rest :
        place_at (encode_all ((ws ++ x ∷ []) ++ (xs ++ ys))) (length (encode_all ((ws ++ x ∷ []) ++ xs)))
        ≡ behind_all (place_at (encode_all ((ws ++ x ∷ []) ++ (xs ++ ys))) (length (encode_all (ws ++ x ∷ [])))) xs
        → place_at (encode_all (ws ++ (x ∷ (xs ++ ys)))) (length (encode_all (ws ++ x ∷ xs)))
        ≡ behind_all (behind_one (place_at (encode_all (ws ++ (x ∷ (xs ++ ys)))) (length (encode_all ws))) x) xs
    rest r =
        ap (λ (zs : List ℕ). place_at (encode_all zs) (length (encode_all (ws ++ x ∷ xs)))) (sym (append_assoc ws (x ∷ []) (xs ++ ys)))
        ∙ ap (λ (zs : List ℕ). place_at (encode_all ((ws ++ x ∷ []) ++ (xs ++ ys))) (length (encode_all zs))) (sym (append_assoc ws (x ∷ []) xs))
        ∙ r
        ∙ ap (λ (zs : List ℕ). behind_all (place_at (encode_all zs) (length (encode_all (ws ++ x ∷ [])))) xs) (append_assoc ws (x ∷ []) (xs ++ ys))
        ∙ ap (λ (p : Place). behind_all p xs) one

pub place_behind : (xs ys : List ℕ) → place_at (encode_all (xs ++ ys)) (length (encode_all xs)) ≡ behind_all (place 1 1) xs
unfolding encode_all
place_behind xs ys = behind_from [] xs ys ∙ ap (λ (p : Place). behind_all p xs) (sym (first_placed (encode_all (xs ++ ys))))

-- ---- the call

module _ (cs : List ℕ) (b : ℕ) where
  at_edge_lem : (e : Edge cs b) → place_in (encode_all cs) b ≡ Ok (behind_all (place 1 1) e.before)
  unfolding place_in place_at
  at_edge_lem e =
      let found : place_at (encode_all cs) b ≡ behind_all (place 1 1) e.before =
      ap (λ (zs : List ℕ). place_at (encode_all zs) b) e.all
      ∙ ap (place_at (encode_all (e.before ++ e.behind))) e.bytes
      ∙ place_behind e.before e.behind in
      rw (edge_passes cs b e) (ap Ok found)

  off_edge : (Edge cs b → ⊥) → place_in (encode_all cs) b ≡ Err NoSuchPlace
  unfolding place_in
  off_edge none = rw (false_from_ne_true (is_allowed (encode_all cs) b) (λ e. none (edge_is cs b e)))

pub by_code_points : ByCodePointsHolds
unfolding line_column
by_code_points s short formed =
    let text = (utf8_judges s).sound formed in
    let same : (b : ℕ) → line_column s b ≡ place_in (encode_all text.scalar_values) b =
    λ b. tested_text s (place_in s b) (record { short = short; well_formed = formed }) ∙ ap (λ (x : List ℕ). place_in x b) (sym text.bytes) in
    record {
      text = text;
      edge = λ b e. same b ∙ at_edge_lem text.scalar_values b e;
      elsewhere = λ b none. same b ∙ off_edge text.scalar_values b none;
    }
