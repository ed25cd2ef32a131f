-- An area that is lent on, and on again, is the one that was lent.
use mathlib.Core.Path.{refl, ◌∙◌}
use mathlib.Core.List.{List}
use Prim.Native.Nat.{ℕ}
use denote.MutBor.{MutBor}
use Rattle.area.specs.Phrases.{SameArea}

pub same_area : (a : MutBor (List ℕ)) → SameArea a a
same_area a = record { lent = refl; long = refl }

pub same_area_on : {a b c : MutBor (List ℕ)} → SameArea a b → SameArea b c → SameArea a c
same_area_on x y = record { lent = y.lent ∙ x.lent; long = y.long ∙ x.long }
