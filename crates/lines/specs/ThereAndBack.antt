-- What holds between the two calls (02, 1/13).
use Rattle.std.specs.Prelude.{ℕ, ◌≤◌, ◌≡◌, true, List, length, Ok, Err}
use Rattle.answers.specs.Numbers.{most_source}
use Rattle.characters.specs.Utf8.{utf8}
use Rattle.lines.specs.declared.Byte.{Byte}
use Rattle.lines.specs.declared.Place.{Place}
use Rattle.lines.specs.declared.PlaceError.TheVariants.{NoSuchPlace}
use Rattle.lines.specs.Lines.{line_column, offset_at}

-- the offset b of s has the line and column of p
abbrev pub Has : List ℕ → ℕ → Place → Type 0
Has s b p = line_column s b ≡ Ok p

pub record ThereAndBack (s : List ℕ) : Type 0 where
  -- the line and column of an offset, turned back, give the same offset
  pub back : (b : ℕ) (p : Place) → Has s b p → offset_at s p ≡ Ok (record { 0 = b })
  -- and the offset of a line and column has them
  pub there : (p : Place) (b : Byte) → offset_at s p ≡ Ok b → Has s b.0 p
  -- a pair that is refused by 11 is that of no offset
  pub refused : (p : Place) → offset_at s p ≡ Err NoSuchPlace → (b : ℕ) → Has s b p → ⊥
  -- and a pair of no offset is refused by 11, where 1 and 3 do not refuse the source
  pub only : length s ≤ most_source → utf8 s ≡ true → (p : Place) → ((b : ℕ) → Has s b p → ⊥) → offset_at s p ≡ Err NoSuchPlace
