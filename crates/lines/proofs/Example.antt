-- The calls on a small text, computed from the definitions: characters of one to four bytes, a carriage return before a line feed, a line feed at the
-- end, and every offset up to two behind the length.
use mathlib.Core.Path.{◌≡◌, refl}
use mathlib.Core.List.{List, [], ◌∷◌}
use Prim.Native.Nat.{ℕ}
use Rattle.std.specs.Prelude.{Result, Ok, Err}
use Rattle.lines.specs.declared.Byte.{Byte}
use Rattle.lines.specs.declared.Place.{Place}
use Rattle.lines.specs.declared.PlaceError.{PlaceError}
use Rattle.lines.specs.declared.PlaceError.TheVariants.{InvalidUtf8, NoSuchPlace}
use Rattle.lines.specs.Lines.{place, line_column, offset_at}
use Rattle.lines.specs.Computing.{computing}

-- a, é, €, U+1F600, CR, LF, b, LF
abbrev text : List ℕ
text = 0x61 ∷ 0xc3 ∷ 0xa9 ∷ 0xe2 ∷ 0x82 ∷ 0xac ∷ 0xf0 ∷ 0x9f ∷ 0x98 ∷ 0x80 ∷ 0x0d ∷ 0x0a ∷ 0x62 ∷ 0x0a ∷ []

abbrev at : ℕ → ℕ → Result Place PlaceError
at l c = Ok (place l c)

abbrev none : Result Place PlaceError
none = Err NoSuchPlace

abbrev answers : List ℕ → List (Result Place PlaceError)
answers [] = []
answers (b ∷ bs) = line_column text b ∷ answers bs

pub places_right :
    answers (0 ∷ 1 ∷ 2 ∷ 3 ∷ 4 ∷ 5 ∷ 6 ∷ 7 ∷ 8 ∷ 9 ∷ 10 ∷ 11 ∷ 12 ∷ 13 ∷ 14 ∷ 15 ∷ 16 ∷ 65536 ∷ [])
    ≡ at 1 1 ∷ at 1 2 ∷ none ∷ at 1 3 ∷ none ∷ none ∷ at 1 4 ∷ none ∷ none ∷ none
    ∷ at 1 5 ∷ at 1 6 ∷ at 2 1 ∷ at 2 2 ∷ at 3 1 ∷ none ∷ none ∷ none ∷ []
unfolding computing
places_right = refl

abbrev offset : ℕ → Result Byte PlaceError
offset b = Ok (record { 0 = b })

abbrev none_there : Result Byte PlaceError
none_there = Err NoSuchPlace

-- the ends of lines, columns behind them, lines behind the last, and 0
pub offsets_right :
    offset_at text (place 1 1) ∷ offset_at text (place 1 6) ∷ offset_at text (place 1 7) ∷ offset_at text (place 2 2)
    ∷ offset_at text (place 2 3) ∷ offset_at text (place 3 1) ∷ offset_at text (place 3 2)
    ∷ offset_at text (place 4 1) ∷ offset_at text (place 0 1) ∷ offset_at text (place 1 0) ∷ []
    ≡ offset 0 ∷ offset 11 ∷ none_there ∷ offset 13 ∷ none_there ∷ offset 14 ∷ none_there
    ∷ none_there ∷ none_there ∷ none_there ∷ []
unfolding computing
offsets_right = refl

-- a cut character is no text
pub cut_refused : line_column (0x61 ∷ 0xc3 ∷ []) 0 ≡ Err InvalidUtf8
unfolding computing
cut_refused = refl
