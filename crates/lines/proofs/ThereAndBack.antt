-- There and back: an offset that is answered stands at its place, and no other offset does, since places rise from edge to edge. What a call answers
-- of a text that passes the tests 1 and 3 is read off its definition.
use mathlib.Core.Path.{◌≡◌, refl, sym, ap, ◌∙◌}
use mathlib.Core.Bool.{Bool, true, false, cond, false≢true}
use mathlib.Core.List.{List}
use Prim.Native.Nat.{ℕ, ◌+◌}
use native.Mathlib.Omega.{arith}
use borrow.Author.Tests.{leb-true, le-leb}
use lib.Dec.{leb}
use lib.ListN.{length}
use Rattle.std.proofs.lemmas.Bool.{and_parts}
use Rattle.std.specs.Prelude.{Result, Ok, Err}
use Rattle.std.specs.Result.{is_ok}
use Rattle.characters.specs.Utf8.{at_edge}
use Rattle.characters.proofs.Firsts.{first_passes, first_only}
use Rattle.lines.specs.declared.Byte.{Byte}
use Rattle.lines.specs.declared.Place.{Place}
use Rattle.lines.specs.declared.PlaceError.{PlaceError}
use Rattle.lines.specs.declared.PlaceError.TheVariants.{NoSuchPlace}
use Rattle.lines.specs.Lines.{place, line_num, col_num, is_allowed, place_in, line_column, stands, offset_of, offset_in, offset_at}
use Rattle.lines.specs.Places.{place_at, is_past}
use Rattle.lines.specs.ThereAndBack.{Has, ThereAndBack}
use Rattle.lines.proofs.Testing.{Text, tested_text, text_known, ok_or_else}
use Rattle.lines.proofs.Ordering.{not_past_itself, stands_at, stands_where, stands_allowed, none_before}

-- ---- what line_column says

-- the offset b of a text is allowed, and its place is p
pub record Placed (s : List ℕ) (b : ℕ) (p : Place) : Type 0 where
  pub text : Text s
  pub allowed : is_allowed s b ≡ true
  pub is : place_at s b ≡ p

module _ (s : List ℕ) (b : ℕ) (p : Place) where
  pub known_placed : line_column s b ≡ Ok p → Placed s b p
  unfolding line_column place_in place_at
  known_placed e = let known = text_known s (place_in s b) p e in go (is_allowed s b) refl known.0 known.1
    where
      go : (v : Bool) → is_allowed s b ≡ v → Text s → cond v (Ok (place (line_num s b) (col_num s b))) (Err NoSuchPlace) ≡ Ok p → Placed s b p
      go true z text e = record { text = text; allowed = z; is = ap (λ (x : Result Place PlaceError). ok_or_else x p) e }
      go false z text e = absurd (false≢true (ap is_ok e))

  pub placed_known : Placed s b p → line_column s b ≡ Ok p
  unfolding line_column place_in place_at
  placed_known h = tested_text s (place_in s b) h.text ∙ rw h.allowed (ap Ok h.is)

-- ---- what offset_at says

module _ (s : List ℕ) (p : Place) where
  of_text : Text s → offset_at s p ≡ offset_in s p
  unfolding offset_at
  of_text h = tested_text s (offset_in s p) h

  -- the first offset that stands there is within the text, or none does
  in_cases : (t : Bool) → leb (offset_of s p) (length s) ≡ t → offset_in s p ≡ cond t (Ok (record { 0 = offset_of s p })) (Err NoSuchPlace)
  unfolding offset_in
  in_cases t e = ap (λ (u : Bool). cond u (Ok (record { 0 = offset_of s p })) (Err NoSuchPlace)) e

  found_stands : (b : Byte) → offset_in s p ≡ Ok b → stands s p b.0 ≡ true
  found_stands b e = go (leb (offset_of s p) (length s)) refl
    where
      go : (t : Bool) → leb (offset_of s p) (length s) ≡ t → stands s p b.0 ≡ true
      go false x = absurd (false≢true (ap is_ok (sym (in_cases false x) ∙ e)))
      go true x =
          let within = leb-true (offset_of s p) (length s) x in
          let is : offset_of s p ≡ b.0 = ap (λ (y : Result Byte PlaceError). (ok_or_else y b).0) (sym (in_cases true x) ∙ e) in
          ap (stands s p) (sym is) ∙ first_passes (stands s p) 0 (length s + 1) (omega arith) (omega arith)

  -- the offset that stands there is the one that is found
  pub stands_found : (b : ℕ) → stands s p b ≡ true → offset_in s p ≡ Ok (record { 0 = b })
  stands_found b e =
      let inside = leb-true b (length s) (and_parts (leb b (length s)) (at_edge s b) (stands_allowed s p b e)).0 in
      let near : is_past (place_at s b) p ≡ false = ap (λ (x : Place). is_past x p) (stands_at s p b e) ∙ not_past_itself p in
      let found = first_only (stands s p) 0 b (length s + 1) (omega arith) (omega arith) e (λ m h g. none_before s p m b near g) in
      in_cases true (le-leb (offset_of s p) (length s) (omega (arith, found, inside))) ∙ ap (λ (x : ℕ). Ok (record { 0 = x })) found

-- ---- the two together

module _ (s : List ℕ) where
  has_stands : (b : ℕ) (p : Place) → Has s b p → stands s p b ≡ true
  has_stands b p e =
      let h = known_placed s b p e in
      stands_where s p b h.allowed h.is

  goes_back : (b : ℕ) (p : Place) → Has s b p → offset_at s p ≡ Ok (record { 0 = b })
  goes_back b p e = of_text s p (known_placed s b p e).text ∙ stands_found s p b (has_stands b p e)

  goes_there : (p : Place) (b : Byte) → offset_at s p ≡ Ok b → Has s b.0 p
  unfolding offset_at
  goes_there p b e =
      let known = text_known s (offset_in s p) b e in
      let at = found_stands s p b known.1 in
      placed_known s b.0 p (record { text = known.0; allowed = stands_allowed s p b.0 at; is = stands_at s p b.0 at })

  refused_nowhere : (p : Place) → offset_at s p ≡ Err NoSuchPlace → (b : ℕ) → Has s b p → ⊥
  refused_nowhere p e b h = false≢true (ap is_ok (sym e ∙ goes_back b p h))

  nowhere_refused : Text s → (p : Place) → ((b : ℕ) → Has s b p → ⊥) → offset_at s p ≡ Err NoSuchPlace
  nowhere_refused text p none = of_text s p text ∙ go (leb (offset_of s p) (length s)) refl
    where
      go : (t : Bool) → leb (offset_of s p) (length s) ≡ t → offset_in s p ≡ Err NoSuchPlace
      go true x = absurd (none (offset_of s p) (goes_there p (record { 0 = offset_of s p }) (of_text s p text ∙ in_cases s p true x)))
      go false x = in_cases s p false x

  pub there_and_back : ThereAndBack s
  there_and_back =
      record {
        back = goes_back;
        there = goes_there;
        refused = refused_nowhere;
        only = λ h u p none. nowhere_refused (record { short = h; well_formed = u }) p none;
      }
