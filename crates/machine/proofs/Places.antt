-- Stacks laid one over the other: at each place stands the id that was held there last, or what was there before.
use mathlib.Core.Path.{◌≡◌, refl, ap, ◌∙◌}
use mathlib.Core.List.{List, [], ◌∷◌, ◌++◌}
use mathlib.Core.Option.{Option, none, some}
use Prim.Native.Nat.{ℕ, zero, suc, ◌+◌, ◌*◌, ◌-◌, ◌/◌, ◌%◌, ◌≤◌}
use native.Mathlib.Omega.{arith}
use lib.ListN.{length, get_or, drop, get_elem?}
use lib.Seq.{get_or-append-add, get_or-drop}
use Rattle.area.specs.Bytes.{bytes}
use Rattle.area.specs.Records.{entry_width, entry_bytes}
use Rattle.area.specs.Contents.{entry_format, relaid}
use Rattle.area.proofs.Fields.{bytes-length}
use Rattle.area.proofs.Records.{entry_wide}
use Rattle.machine.specs.Demand.{or_else, last_held, PlaceHolds}
use Rattle.machine.proofs.Options.{some_none, place_inside, place_has}
use Rattle.machine.proofs.Stacks.{laid_bytes}

not_held : (st : List ℕ) (p : ℕ) → get_elem? st p ≡ none → length st ≤ p
not_held [] p e = omega arith
not_held (x ∷ st) zero e = absurd (some_none x e)
not_held (x ∷ st) (suc p) e = omega (arith, not_held st p e)

-- a byte behind the stack
behind : (st s : List ℕ) (j : ℕ) → length st * entry_width ≤ j → get_or (relaid entry_format s st) j 0 ≡ get_or s j 0
unfolding relaid
behind st s j h =
    let n : ℕ = length st * entry_width in
    let e : j ≡ length (bytes entry_bytes st) + (j - n) = omega (arith, bytes-length entry_bytes entry_width entry_wide st) in
    let q : n + (j - n) ≡ j = omega arith in
    ap (λ (k : ℕ). get_or (bytes entry_bytes st ++ drop n s) k 0) e
    ∙ get_or-append-add (bytes entry_bytes st) (drop n s) (j - n) 0
    ∙ get_or-drop n s (j - n) 0
    ∙ ap (λ (k : ℕ). get_or s k 0) q

place_laid : (st s : List ℕ) (p : ℕ) → PlaceHolds (get_elem? st p) p s (relaid entry_format s st)
place_laid st s p = go (get_elem? st p) refl
  where
    go : (o : Option ℕ) → get_elem? st p ≡ o → PlaceHolds o p s (relaid entry_format s st)
    go none e =
        let n : length st ≤ p = not_held st p e in
        (behind st s (p * 2) (omega arith), behind st s (p * 2 + 1) (omega arith))
    go (some v) e =
        let r = laid_bytes s st p (place_inside st p v e) in
        (r.0 ∙ ap (λ (x : ℕ). x % 256) (place_has st p v 0 e), r.1 ∙ ap (λ (x : ℕ). x / 256) (place_has st p v 0 e))

-- s became e, and e became f
place_then : (o q : Option ℕ) (p : ℕ) (s e f : List ℕ) → PlaceHolds o p s e → PlaceHolds q p e f → PlaceHolds (or_else q o) p s f
place_then none none p s e f h k = (k.0 ∙ h.0, k.1 ∙ h.1)
place_then (some v) none p s e f h k = (k.0 ∙ h.0, k.1 ∙ h.1)
place_then o (some v) p s e f h k = k

-- at each place, where the stack's bytes were s before
abbrev pub Places : List (List ℕ) → List ℕ → List ℕ → Type 0
Places held s b = (p : ℕ) → PlaceHolds (last_held p held) p s b

-- one stack more
pub place_next : (held : List (List ℕ)) (st s b : List ℕ) → Places held s b → Places (st ∷ held) s (relaid entry_format b st)
unfolding last_held
place_next held st s b h p = place_then (last_held p held) (get_elem? st p) p s b (relaid entry_format b st) (h p) (place_laid st b p)

-- none yet
pub place_first : (s : List ℕ) → Places [] s s
unfolding last_held
place_first s p = (refl, refl)
