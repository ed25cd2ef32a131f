-- The pieces of a source, one behind the other.
use mathlib.Core.Path.{◌≡◌, refl, sym, ◌∙◌}
use mathlib.Core.List.{List, [], ◌∷◌}
use Prim.Native.Nat.{ℕ, zero, suc, ◌+◌, ◌≤◌, ◌<◌}
use native.Mathlib.Omega.{arith}
use native.Mathlib.Numerals.{add-one}
use lib.ListN.{length}
use Rattle.output.specs.declared.Text.{Text}
use Rattle.output.specs.Output.{joined}
use Rattle.output.specs.Text.{Appends}
use Rattle.output.proofs.Appending.{appends_none, appends_same, appends_then}
use Rattle.recorded.specs.Records.{number_at, skip_to, bytes_at, bytes_end, repeated, piece_end, pieces, pieces_end, source_end}

-- ---- a piece without bytes is nothing, however often it stands

nothing : (n : ℕ) → joined (λ (_ : ℕ). []) n ≡ []
unfolding joined
nothing zero = refl
nothing (suc n) = rw (nothing n) refl

pub repeated_nothing : (n : ℕ) (v : List ℕ) → length v ≡ 0 → {a : Text} → Appends a a (repeated n v)
unfolding repeated
repeated_nothing n [] e {a} = appends_same (sym (nothing n)) (appends_none a)
repeated_nothing n (x ∷ v) e {a} = absurd (omega arith)

-- ---- one piece behind the other

module _ (l : List ℕ) (start : ℕ) where
  pub pieces_none : {a : Text} → Appends a a (pieces l 0 start)
  unfolding pieces
  pieces_none {a} = appends_none a

  pub pieces_next : (i at times : ℕ) (piece : List ℕ) {a b c : Text} → at ≡ pieces_end l i start
      → times ≡ number_at l at → piece ≡ bytes_at l (skip_to l at 4)
      → Appends b c (repeated times piece) → Appends a b (pieces l i start) → Appends a c (pieces l (i + 1) start)
  unfolding pieces
  pieces_next i at times piece z qt qp p q = rw add-one (appends_then (appends_same (rw (qt, qp, z) refl) p) q)

module _ (l : List ℕ) (start : ℕ) where
  pub pieces_on : (i at next : ℕ) → at ≡ pieces_end l i start → next ≡ bytes_end l (skip_to l at 4) → next ≡ pieces_end l (i + 1) start
  unfolding pieces_end piece_end
  pieces_on i at next z e = e ∙ rw (z, add-one) refl

-- ---- a source ends behind its start

pieces_behind : (l : List ℕ) (n at : ℕ) → at ≤ length l → (at ≤ pieces_end l n at) × (pieces_end l n at ≤ length l)
unfolding pieces_end piece_end bytes_end skip_to
pieces_behind l zero at h = (omega arith, h)
pieces_behind l (suc n) at h =
    let before = pieces_behind l n at h in
    (omega (arith, before.0, before.1), omega arith)

pub source_behind : (l : List ℕ) (at : ℕ) → at < length l → (at < source_end l at) × (source_end l at ≤ length l)
unfolding source_end skip_to
source_behind l at h =
    let all = pieces_behind l (number_at l at) (skip_to l at 4) (omega arith) in
    (omega (arith, all.0), all.1)
