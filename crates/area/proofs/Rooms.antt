-- What the tests for room say of `room`, and what an append says on each of its ways out. `room` is two tests joined, so each law
-- takes the first one apart and leaves the second.
-- Assumes nothing.
use mathlib.Core.Path.{◌≡◌, refl, sym, ◌∙◌}
use mathlib.Core.Bool.{Bool, true, false}
use mathlib.Core.List.{List}
use Prim.Native.Nat.{ℕ, suc, ◌+◌, ◌*◌, ◌<◌, ◌≤◌}
use native.Mathlib.Nat.{add_assoc, mul-le-mul, mul-le-mul_right, suc-mul}
use native.Mathlib.Omega.{arith}
use native.Mathlib.Numerals.{add-one}
use borrow.Author.Tests.{le-leb, lt-leb, leb-true}
use lib.Dec.{leb}
use mir.Syntax.{w16, w64}
use mir.Val.{Fits}
use lib.ListN.{length}
use lib.Seq.{sets}
use Rattle.std.specs.Prelude.{Ok, Err}
use Rattle.std.proofs.lemmas.Bool.{and_parts}
use Rattle.area.specs.declared.AreaName.{AreaName}
use Rattle.area.specs.Areas.{room, Pushed, full}
use Rattle.area.specs.Contents.{Format, Sized}

module _ (w limit cap n m : ℕ) where
  pub room_yes : n + m ≤ limit → (n + m) * w ≤ cap → room w limit cap n m ≡ true
  unfolding room
  room_yes h f = rw (le-leb (n + m) limit h, le-leb ((n + m) * w) cap f)

  pub room_few : room w limit cap n m ≡ true → n + m ≤ limit
  unfolding room
  room_few e = leb-true (n + m) limit (and_parts (leb (n + m) limit) (leb ((n + m) * w) cap) e).0

  pub room_fits : room w limit cap n m ≡ true → (n + m) * w ≤ cap
  unfolding room
  room_fits e = leb-true ((n + m) * w) cap (and_parts (leb (n + m) limit) (leb ((n + m) * w) cap) e).1

  -- room behind m more is room for them too
  pub room_later : (k : ℕ) → room w limit cap (n + m) k ≡ room w limit cap n (m + k)
  unfolding room
  room_later k = rw (add_assoc n m k)

-- room for more is room for fewer
pub room_fewer : (w limit cap n m k : ℕ) → k ≤ m → room w limit cap n m ≡ true → room w limit cap n k ≡ true
room_fewer w limit cap n m k h e =
    let g : n + k ≤ n + m = omega arith in
    let f : (n + k) * w ≤ (n + m) * w = mul-le-mul_right w g in
    room_yes w limit cap n k (omega (arith, room_few w limit cap n m e)) (omega (arith, f, room_fits w limit cap n m e))

-- ---- the test for room

module _ (w limit cap n m : ℕ) where
  pub room_over : limit < n + m → false ≡ room w limit cap n m
  unfolding room
  room_over h = rw (lt-leb (n + m) limit h) refl

  pub room_within : n + m ≤ limit → leb ((n + m) * w) cap ≡ room w limit cap n m
  unfolding room
  room_within h = rw (le-leb (n + m) limit h) refl

-- the product that it computes cannot wrap
pub product_fits : (w limit a : ℕ) → w ≤ 28 → limit ≤ 65535 → a ≤ limit → Fits w64 (a * w)
product_fits w limit a narrow few h =
    let small : a ≤ 65535 = omega arith in
    record { fits = omega (arith, mul-le-mul small narrow) }

-- made by a record's own numbers
module _ {A : Type 0} {F : Format A} {name : AreaName} {width most : ℕ} (s : Sized F name width most) {w limit : ℕ} (w_is : w ≡ width) (is : limit ≡ most) where
  pub room_asked : (w ≤ 28) × (limit ≤ 65535)
  room_asked = (omega (arith, w_is, s.width_is, s.narrow), omega (arith, is, s.most_is, s.few))

  pub room_told : (cap n m : ℕ) (t : Bool) → t ≡ room w limit cap n m → t ≡ room F.width F.most cap n m
  room_told cap n m t e = e ∙ (λ i. room ((w_is ∙ s.width_is) i) ((is ∙ s.most_is) i) cap n m)

-- ---- a test for room that came out true, or false

module _ (w limit cap n m : ℕ) (t : Bool) (is : t ≡ room w limit cap n m) where
  pub was_few : t ≡ true → n + m ≤ limit
  was_few e = room_few w limit cap n m (sym is ∙ e)

  pub was_small : t ≡ true → limit ≤ 65535 → Fits w16 (n + m)
  was_small e h = record { fits = omega (arith, was_few e) }

  pub was_fit : t ≡ true → (n + m) * w ≤ cap
  was_fit e = room_fits w limit cap n m (sym is ∙ e)

-- room for one more
pub was_next : (w limit cap n : ℕ) (t : Bool) → t ≡ room w limit cap n 1 → t ≡ true → n * w + w ≤ cap
was_next w limit cap n t is e = rw (← suc-mul n w, ← add-one n) (was_fit w limit cap n 1 t is e)

-- a record among n that fit
pub record_fits : (w cap n k : ℕ) → k < n → n * w ≤ cap → k * w + w ≤ cap
record_fits w cap n k h fits =
    let b : suc k * w ≤ n * w = mul-le-mul_right w (omega arith) in
    omega (arith, b, fits, suc-mul k w)

module _ (name : AreaName) (w limit m : ℕ) (v l : List ℕ) (n : ℕ) (t : Bool) (is : t ≡ room w limit (length l) n m) where
  pub push_next : (e : List ℕ) → t ≡ true → e ≡ sets l (n * w) v → Pushed name w limit m v l n (Ok (n + m)) e
  push_next e h p =
      let y : room w limit (length l) n m ≡ true = sym is ∙ h in
      record { says = rw y; leaves = rw y p }

  pub push_full : t ≡ false → Pushed name w limit m v l n (Err (full name)) l
  push_full h =
      let y : room w limit (length l) n m ≡ false = sym is ∙ h in
      record { says = rw y; leaves = rw y }
