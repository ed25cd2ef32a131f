-- What a cursor reads, and where it then stands.
use mathlib.Core.Path.{◌≡◌, sym, ap, ◌∙◌}
use mathlib.Core.List.{List}
use Prim.Native.Nat.{ℕ, ◌+◌, ◌-◌, ◌≤◌}
use native.Mathlib.Omega.{arith}
use lib.ListN.{length, drop, length-take, get_or-eq_default}
use Rattle.std.proofs.Common.{inl, inr}
use Rattle.std.proofs.lemmas.List.{get_or-take, get_or-drop}
use Rattle.std.proofs.lemmas.Bool.{cases_lt}
use Rattle.std.specs.Int.{w16, w32, w64, from_le_bytes}
use Rattle.text.specs.Range.{part}
use Rattle.characters.specs.Whitespace.{byte}
use Rattle.area.specs.Bytes.{field_at}
use Rattle.area.specs.Contents.{list_of}
use Rattle.recorded.specs.Records.{skip_to, bytes_end, front_at, number_at, long_at}

-- ---- places

-- the place n bytes on is no earlier, and none past the end
pub skip_on : (l : List ℕ) (at n : ℕ) → at ≤ length l → at ≤ skip_to l at n
unfolding skip_to
skip_on l at n h = omega arith

pub skip_within : (l : List ℕ) (at n : ℕ) → skip_to l at n ≤ length l
unfolding skip_to
skip_within l at n = omega arith

-- bytes with their length end no earlier, and not past the end
pub bytes_on : (l : List ℕ) (at : ℕ) → at ≤ length l → at ≤ bytes_end l at
unfolding bytes_end skip_to
bytes_on l at h = omega arith

pub bytes_within : (l : List ℕ) (at : ℕ) → bytes_end l at ≤ length l
unfolding bytes_end skip_to
bytes_within l at = omega arith

-- no bytes further on
pub skip_none : (l : List ℕ) (at : ℕ) → at ≤ length l → at ≡ skip_to l at 0
unfolding skip_to
skip_none l at h = omega arith

-- n bytes on from m bytes on
pub skip_step : (l m : List ℕ) (start at next k n : ℕ) → m ≡ l → at ≡ skip_to l start k → next ≡ skip_to m at n → (j : ℕ) → k + n ≡ j → next ≡ skip_to l start j
unfolding skip_to
skip_step l m start at next k n same here goes j z =
    let e = ap length same in
    omega arith

-- ---- bytes

-- of the bytes from a place on, or 0, the one k places on
pub front_byte : (l : List ℕ) (at : ℕ) (v : List ℕ) (k : ℕ) → v ≡ part l at (length l) → (b : ℕ) → b ≡ byte v k → byte l (at + k) ≡ b
unfolding part
front_byte l at v k is b z = elim (cases_lt k (length l - at)) [
  | inl h ↦ sym (z ∙ ap (λ (u : List ℕ). byte u k) is ∙ get_or-take _ (drop at l) k 0 h ∙ get_or-drop at l k 0)
  | inr h ↦
      let e = ap length is in
      get_or-eq_default l 0 (omega arith) ∙ sym (z ∙ get_or-eq_default v 0 (omega (arith, length-take {A = ℕ}, e)))
]

-- ---- numbers, which are so many bytes

module _ (l : List ℕ) (at : ℕ) (bs : List ℕ) where
  pub field_read : bs ≡ front_at 2 l at → from_le_bytes w16 bs ≡ field_at l at
  unfolding front_at list_of field_at
  field_read e =
      let e0 : at + 0 ≡ at = omega arith in
      rw (e, e0) (omega arith)

  pub number_read : bs ≡ front_at 4 l at → from_le_bytes w32 bs ≡ number_at l at
  unfolding front_at list_of number_at field_at
  number_read e =
      let e0 : at + 0 ≡ at = omega arith in
      let e3 : at + 3 ≡ at + 2 + 1 = omega arith in
      rw (e, e0, e3) (omega arith)

  pub long_read : bs ≡ front_at 8 l at → from_le_bytes w64 bs ≡ long_at l at
  unfolding front_at list_of long_at number_at field_at
  long_read e =
      let e0 : at + 0 ≡ at = omega arith in
      let e3 : at + 3 ≡ at + 2 + 1 = omega arith in
      let e5 : at + 5 ≡ at + 4 + 1 = omega arith in
      let e6 : at + 6 ≡ at + 4 + 2 = omega arith in
      let e7 : at + 7 ≡ at + 4 + 2 + 1 = omega arith in
      rw (e, e0, e3, e5, e6, e7) (omega arith)
