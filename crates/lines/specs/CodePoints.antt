-- The line and column of an offset by the code points before it alone, as an editor shows them (02, 1/13).
use Rattle.std.specs.Prelude.{ℕ, ◌+◌, ◌≤◌, ◌≡◌, true, cond, List, [], ◌∷◌, eqb, length, Ok, Err}
use Rattle.answers.specs.Numbers.{most_source}
use Rattle.characters.specs.Utf8.{utf8}
use Rattle.characters.specs.Unicode.{Encoded, Edge}
use Rattle.lines.specs.declared.Place.{Place}
use Rattle.lines.specs.declared.PlaceError.TheVariants.{NoSuchPlace}
use Rattle.lines.specs.Lines.{place, line_of, column_of, line_column}

-- behind a character that stands at p: U+000A ends its line, any other takes a column
unfoldable pub behind_one : Place → ℕ → Place
behind_one p x = cond (eqb x 0x0a) (place (line_of p + 1) 1) (place (line_of p) (column_of p + 1))

-- behind the characters xs, of which the first stands at p
unfoldable pub behind_all : Place → List ℕ → Place
behind_all p [] = p
behind_all p (x ∷ xs) = behind_all (behind_one p x) xs

-- of a source that is the text of some code points: an offset at an edge has the line and column behind the characters before it, and any other is
-- refused by 11 (02, 1/13)
pub record ByCodePoints (s : List ℕ) : Type 0 where
  pub text : Encoded s
  pub edge : (b : ℕ) (e : Edge text.scalar_values b) → line_column s b ≡ Ok (behind_all (place 1 1) e.before)
  pub elsewhere : (b : ℕ) → (Edge text.scalar_values b → ⊥) → line_column s b ≡ Err NoSuchPlace

-- so it is with every source that the tests 1 and 3 pass
abbrev pub ByCodePointsHolds : Type 0
ByCodePointsHolds = (s : List ℕ) → length s ≤ most_source → utf8 s ≡ true → ByCodePoints s
