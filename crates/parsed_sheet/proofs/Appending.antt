-- What holds where a step has appended: what is appended fits its area.
use Prim.Native.Nat.{ℕ}
use mathlib.Core.Path.{◌≡◌}
use mathlib.Core.Bool.{true}
use mathlib.Core.List.{List, ◌++◌}
use mathlib.Core.Option.{none, some}
use lib.ListN.{length, length-append}
use Rattle.std.proofs.lemmas.Bool.{cond_both}
use Rattle.area.specs.declared.AreaName.{AreaName}
use Rattle.area.specs.Areas.{room}
use Rattle.area.specs.Contents.{Format, append}
use Rattle.fault.specs.Step.{written}
use Rattle.fault.proofs.Yielding.{Yields}
use Rattle.parsed_sheet.specs.Accepted.{Fits}
use Rattle.area.proofs.Rooms.{room_few, room_fits}

pub room_holds : {A : Type 0} (F : Format A) (cap : ℕ) (xs ys : List A)
    → room F.width F.most cap (length xs) (length ys) ≡ true → Fits F cap (xs ++ ys)
room_holds F cap xs ys e = record {
  few = rw (length-append xs ys) (room_few F.width F.most cap (length xs) (length ys) e);
  fits = rw (length-append xs ys) (room_fits F.width F.most cap (length xs) (length ys) e);
}

pub yields_append : {A : Type 0} (P : ℕ → List A → Type 0) (F : Format A) (cap : ℕ) (name : AreaName) (i : ℕ) (ys xs : List A)
    → (Fits F cap (xs ++ ys) → P i (xs ++ ys)) → Yields P (written name i (append F cap ys xs))
unfolding append
yields_append P F cap name i ys xs f =
    cond_both (room F.width F.most cap (length xs) (length ys)) (some (xs ++ ys)) none (λ o. Yields P (written name i o))
    (λ e. f (room_holds F cap xs ys e)) (λ _. tt)
