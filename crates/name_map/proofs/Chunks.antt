-- The chunks of a list, each of so many bytes: a chunk has the bytes from its place on.
use Rattle.std.proofs.Common.{◌≡◌, ℕ, zero, suc, ◌+◌, ◌*◌, ◌<◌, List, [], take, drop, get_or, sym, ap, ◌∙◌, arith}
use Rattle.std.specs.Simd.{first_chunks}
use Rattle.std.proofs.lemmas.List.{get_or-take, get_or-drop}
use Rattle.std.proofs.Math.Nat.{zero-mul, suc-mul}
use lib.Seq.{drop-drop}

-- the chunk at a place has the bytes from there on
pub chunk_at : (w n k : ℕ) (l : List ℕ) → k < n → get_or (first_chunks w n l) k [] ≡ take w (drop (k * w) l)
chunk_at w zero k l h = absurd (omega (arith, h))
chunk_at w (suc n) zero l h = ap (λ (j : ℕ). take w (drop j l)) (sym (zero-mul w))
chunk_at w (suc n) (suc k) l h =
    chunk_at w n k (drop w l) (omega (arith, h))
    ∙ ap (take w) (drop-drop (k * w) w l ∙ ap (λ (j : ℕ). drop j l) (omega (arith, suc-mul k w)))

-- byte j of the chunk at place i
pub chunk_byte : (w : ℕ) (l : List ℕ) (i j : ℕ) → j < w → get_or (take w (drop i l)) j 0 ≡ get_or l (i + j) 0
chunk_byte w l i j h = get_or-take w (drop i l) j 0 h ∙ get_or-drop i l j 0
