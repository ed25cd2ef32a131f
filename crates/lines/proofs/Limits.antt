-- What is answered fits: a line and a column are at most 65,536, an offset at most 65,535. So words, with what is written, tell the answers apart.
use mathlib.Core.Path.{◌≡◌, refl, sym, ap, ◌∙◌}
use mathlib.Core.Bool.{cond}
use mathlib.Core.List.{List}
use Prim.Native.Nat.{ℕ, ◌≤◌}
use native.Mathlib.Omega.{arith}
use borrow.Author.Tests.{leb-true}
use lib.Dec.{eqb, leb}
use lib.ListN.{length, get_or}
use Rattle.std.proofs.lemmas.Bool.{and_parts}
use Rattle.std.specs.Prelude.{Result, Ok, Err}
use Rattle.answers.specs.Numbers.{accepted_number, long_file_number, invalid_utf8_number, no_such_place_number, most_source}
use Rattle.answers.specs.Words.{Fields, TwoBytes, TellsApart}
use Rattle.answers.proofs.Words.{tells_by, two_bytes, no_values}
use Rattle.characters.specs.Utf8.{at_edge}
use Rattle.lines.specs.declared.Place.{Place}
use Rattle.lines.specs.declared.Byte.{Byte}
use Rattle.lines.specs.declared.PlaceError.{PlaceError}
use Rattle.lines.specs.declared.PlaceError.TheVariants.{LongFile, InvalidUtf8, NoSuchPlace}
use Rattle.lines.specs.Lines.{
  place,
  line_of,
  column_of,
  line_column,
  line_column_fields,
  line_column_word,
  place_left,
  LineColumnLeft,
  line_column_left,
  offset_at,
  offset_fields,
  refusal_number,
}
use Rattle.lines.specs.Places.{place_at, SmallPlace, SmallOffset}
use Rattle.lines.proofs.Moving.{line_to, column_to}
use Rattle.lines.proofs.ThereAndBack.{Placed, known_placed, there_and_back}

module _ (s : List ℕ) (b : ℕ) (p : Place) (h : Placed s b p) where
  placed_to : b ≤ most_source
  placed_to = omega (arith, leb-true b (length s) (and_parts (leb b (length s)) (at_edge s b) h.allowed).0, h.text.short)

  placed_line : line_of p ≤ 65536
  unfolding place_at
  placed_line = omega (arith, ap line_of h.is, line_to s b, placed_to)

  placed_column : column_of p ≤ 65536
  unfolding place_at
  placed_column = omega (arith, ap column_of h.is, column_to s b, placed_to)

pub place_small : (s : List ℕ) (b : ℕ) (x : Result Place PlaceError) → x ≡ line_column s b → SmallPlace x
place_small s b x is =
    record {
      line = λ p e. omega (arith, placed_line s b p (known_placed s b p (sym is ∙ e)));
      column = λ p e. omega (arith, placed_column s b p (known_placed s b p (sym is ∙ e)));
    }

pub offset_small : (s : List ℕ) (p : Place) (x : Result Byte PlaceError) → x ≡ offset_at s p → SmallOffset x
offset_small s p x is =
    record {
      offset = λ b e. let h = known_placed s b.0 p ((there_and_back s).there p b (sym is ∙ e)) in omega (arith, placed_to s b.0 p h);
    }

-- the fields of what offset_at answers have two bytes
pub offset_fields_small : (s : List ℕ) (p : Place) → TwoBytes (offset_fields (offset_at s p))
unfolding offset_fields refusal_number
offset_fields_small s p = go (offset_at s p) (offset_small s p (offset_at s p) refl)
  where
    go : (x : Result Byte PlaceError) → SmallOffset x → TwoBytes (offset_fields x)
    go (Ok b) h = two_bytes accepted_number b.0 0 0 (omega arith) (h.offset b refl) (omega arith) (omega arith)
    go (Err LongFile) h = no_values long_file_number (omega arith)
    go (Err InvalidUtf8) h = no_values invalid_utf8_number (omega arith)
    go (Err NoSuchPlace) h = no_values no_such_place_number (omega arith)

-- ---- the answers, read back

-- the answer with a number, where x is what is known
by_number : {A : Type 0} → ℕ → A → Result A PlaceError
by_number n x =
    cond (eqb n accepted_number) (Ok x)
    (cond (eqb n long_file_number) (Err LongFile) (cond (eqb n invalid_utf8_number) (Err InvalidUtf8) (Err NoSuchPlace)))

refusal_again : {A : Type 0} (e : PlaceError) (x : A) → by_number (refusal_number e) x ≡ Err e
unfolding by_number refusal_number
refusal_again LongFile x = refl
refusal_again InvalidUtf8 x = refl
refusal_again NoSuchPlace x = refl

offset_of_fields : Fields → Result Byte PlaceError
offset_of_fields f = by_number f.number (record { 0 = f.a })

offset_again : (x : Result Byte PlaceError) → offset_of_fields (offset_fields x) ≡ x
unfolding offset_of_fields offset_fields by_number
offset_again (Ok b) = refl
offset_again (Err e) = refusal_again e (record { 0 = 0 })

pub offset_tells : TellsApart offset_fields
offset_tells = tells_by offset_fields offset_of_fields offset_again

place_of_left : LineColumnLeft → Result Place PlaceError
place_of_left x = by_number x.answer (place (get_or x.place 0 0) (get_or x.place 1 0))

place_again : (x : Result Place PlaceError) (was : List ℕ) → place_of_left (line_column_left (line_column_word x) (place_left x was)) ≡ x
unfolding place_of_left line_column_fields place_left by_number refusal_number
place_again (Ok p) was = refl
place_again (Err e) was = refusal_word e
  where
    refusal_word : (e : PlaceError) → place_of_left (line_column_left (line_column_word (Err e)) was) ≡ Err e
    refusal_word LongFile = refl
    refusal_word InvalidUtf8 = refl
    refusal_word NoSuchPlace = refl

-- what line_column leaves tells its answers apart
pub line_column_tells :
    (x y : Result Place PlaceError) (was : List ℕ)
    → line_column_left (line_column_word x) (place_left x was) ≡ line_column_left (line_column_word y) (place_left y was)
    → x ≡ y
line_column_tells x y was e = sym (place_again x was) ∙ ap place_of_left e ∙ place_again y was
