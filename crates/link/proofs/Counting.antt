-- The lists of those that find no partner: whether they fit an area, and the numbers that a loop counts or writes.
use mathlib.Core.Path.{◌≡◌, refl, ap, ◌∙◌}
use mathlib.Core.Bool.{Bool, true, false, not}
use mathlib.Core.List.{List}
use Prim.Native.Nat.{ℕ, ◌+◌, ◌*◌, ◌≤◌}
use native.Mathlib.Omega.{arith}
use borrow.Author.Tests.{leb-true}
use lib.ListN.{length, get_or, take}
use lib.Seq.{get_or-take, length-take-le}
use Rattle.area.specs.declared.Rule.{Rule}
use Rattle.area.specs.Records.{entry_width, nth_rule}
use Rattle.area.specs.Lists.{numbers}
use Rattle.area.proofs.Numbers.{numbers_same, count_yes, count_no}
use Rattle.link.specs.Matches.{unmarked}
use mir.Val.{bool_byte}
use Rattle.link.specs.Link.{is_unlinked, unlinked, fits}

-- whether the list fits, as a fact about numbers
pub fits_says : (ns l : List ℕ) → fits ns l ≡ true → length ns * entry_width ≤ length l
unfolding fits
fits_says ns l e = leb-true (length ns * entry_width) (length l) e

-- one entry more is counted: by 1 where it has no mark
pub mark_counted : (used : List Bool) (k n : ℕ) → n ≤ k → n ≡ length (unmarked used k)
    → (n + bool_byte (not (get_or used k false)) ≤ k + 1) × (n + bool_byte (not (get_or used k false)) ≡ length (unmarked used (k + 1)))
mark_counted used k n few before = by (not (get_or used k false)) refl
  where
    test : ℕ → Bool
    test j = not (get_or used j false)

    by : (t : Bool) → not (get_or used k false) ≡ t → (n + bool_byte t ≤ k + 1) × (n + bool_byte t ≡ length (unmarked used (k + 1)))
    by true e = (omega arith, count_yes test k n before e)
    by false e = (omega arith, omega (arith, count_no test k n before e))

-- the marks of the first n entries alone
pub unmarked_take : (used : List Bool) (n : ℕ) → n ≤ length used → unmarked (take n used) (length (take n used)) ≡ unmarked used n
unmarked_take used n h =
    ap (unmarked (take n used)) (length-take-le n used h)
    ∙ numbers_same (λ j. not (get_or (take n used) j false)) (λ j. not (get_or used j false)) n (λ k g. ap not (get_or-take n used k false g))

-- the rules without an id are the numbers whose rule has none
pub unlinked_is : (xs : List Rule) (n : ℕ) → n ≡ length xs → numbers (λ k. is_unlinked (nth_rule xs k)) n ≡ unlinked xs
unfolding unlinked
unlinked_is xs n e = ap (numbers (λ k. is_unlinked (nth_rule xs k))) e
