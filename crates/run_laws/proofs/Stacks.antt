-- The ids of a stack, read from its bytes: an id that is put at a place is read there, and the others are as they were.
use mathlib.Core.Path.{◌≡◌, sym, ap, ap₂, ◌∙◌}
use mathlib.Core.List.{List}
use Prim.Native.Nat.{ℕ, suc, ◌+◌, ◌*◌, ◌/◌, ◌%◌, ◌≤◌, ◌<◌}
use native.Mathlib.Numerals.{add-one}
use native.Mathlib.Omega.{arith}
use lib.ListN.{length, get_or, set, length-set}
use lib.Seq.{length-sets, get_or-set_same, get_or-set_other}
use Rattle.area.specs.Bytes.{two, field_at, field_from}
use Rattle.area.specs.Records.{entry_at, entry_width}
use Rattle.run.specs.Run.{put_state}

-- an entry by its two bytes
pub entry_bytes_lem : (l : List ℕ) (k : ℕ) → entry_at l k ≡ get_or l (k * entry_width) 0 + get_or l (k * entry_width + 1) 0 * 256
unfolding entry_at field_from field_at
entry_bytes_lem l k =
    let low : k * entry_width + 2 * 0 ≡ k * entry_width = omega arith in
    ap₂ (λ (i j : ℕ). get_or l i 0 + get_or l j 0 * 256) low (ap (λ (i : ℕ). i + 1) low)

module _ (s : List ℕ) (k id : ℕ) where
  pub put_length : length (put_state s k id) ≡ length s
  unfolding put_state
  put_length = length-sets s (k * entry_width) (two id)

  pub put_same : k * entry_width + entry_width ≤ length s → entry_at (put_state s k id) k ≡ id
  unfolding put_state two
  put_same h =
      let at : ℕ = k * entry_width in
      let t : List ℕ = set s at (id % 256) in
      let low : get_or (set t (suc at) (id / 256)) at 0 ≡ id % 256 =
      get_or-set_other t (suc at) at (id / 256) 0 (λ e. omega (arith, e)) ∙ get_or-set_same s at (id % 256) 0 (omega (arith, h)) in
      let inside : suc at < length t = omega (arith, h, length-set s at (id % 256)) in
      let high : get_or (set t (suc at) (id / 256)) (at + 1) 0 ≡ id / 256 =
      ap (λ (i : ℕ). get_or (set t (suc at) (id / 256)) i 0) (add-one at) ∙ get_or-set_same t (suc at) (id / 256) 0 inside in
      entry_bytes_lem _ k ∙ ap₂ (λ (x y : ℕ). x + y * 256) low high ∙ omega arith

  pub put_other : (j : ℕ) → (j ≡ k → ⊥) → entry_at (put_state s k id) j ≡ entry_at s j
  unfolding put_state two
  put_other j h =
      let at : ℕ = k * entry_width in
      let t : List ℕ = set s at (id % 256) in
      let other : (i : ℕ) → (i ≡ at → ⊥) → (i ≡ suc at → ⊥) → get_or (set t (suc at) (id / 256)) i 0 ≡ get_or s i 0 =
      λ i p q. get_or-set_other t (suc at) i (id / 256) 0 q ∙ get_or-set_other s at i (id % 256) 0 p in
      entry_bytes_lem _ j
      ∙ ap₂ (λ (x y : ℕ). x + y * 256)
      (other (j * entry_width) (λ e. h (omega (arith, e))) (λ e. omega (arith, e)))
      (other (j * entry_width + 1) (λ e. omega (arith, e)) (λ e. h (omega (arith, e))))
      ∙ sym (entry_bytes_lem s j)
