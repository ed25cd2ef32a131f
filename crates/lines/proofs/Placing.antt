-- The place of an offset: it begins at line 1 and column 1 and goes on block by block; number 11 where the offset is not allowed.
use mathlib.Core.Path.{◌≡◌, sym, ap, ◌∙◌}
use mathlib.Core.Bool.{Bool, true, false}
use mathlib.Core.List.{List}
use Prim.Native.Nat.{ℕ, ◌≤◌}
use native.Mathlib.Omega.{arith}
use borrow.Author.Tests.{leb-true}
use lib.Dec.{leb}
use lib.ListN.{length}
use Rattle.std.proofs.lemmas.Bool.{and_parts}
use Rattle.std.specs.Prelude.{Ok, Err}
use Rattle.characters.specs.Utf8.{at_edge, is_edge}
use Rattle.lines.specs.declared.Place.{Place}
use Rattle.lines.specs.declared.PlaceError.TheVariants.{NoSuchPlace}
use Rattle.lines.specs.Lines.{line_num, col_num, place, place_in}
use Rattle.lines.specs.Places.{place_at}
use Rattle.lines.proofs.Moving.{line_from, line_to, column_from, column_to}

pub first_placed : (s : List ℕ) → place 1 1 ≡ place_at s 0
unfolding place_at
first_placed s =
    let l : 1 ≡ line_num s 0 = omega (arith, line_from s 0, line_to s 0) in
    let c : 1 ≡ col_num s 0 = omega (arith, column_from s 0, column_to s 0) in
    λ j. place (l j) (c j)

pub place_begins : (s : List ℕ) (p : Place) → p ≡ place 1 1 → p ≡ place_at s 0
place_begins s p is = is ∙ first_placed s

-- ---- number 11

module _ (s : List ℕ) (b : ℕ) (r : Bool) (is : r ≡ is_edge s b) where
  pub no_place : r ≡ false → Err NoSuchPlace ≡ place_in s b
  unfolding place_in
  no_place t = rw (← is, t)

  pub place_known : (p : Place) → r ≡ true → p ≡ place_at s b → Ok p ≡ place_in s b
  unfolding place_in place_at
  place_known p t at = rw (← is, t) (ap Ok at)

  pub edge_inside : r ≡ true → b ≤ length s
  edge_inside t = leb-true b (length s) (and_parts (leb b (length s)) (at_edge s b) (sym is ∙ t)).0

pub ruleset judging_offset = (no_place, place_known, edge_inside)
