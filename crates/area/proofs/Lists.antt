-- Laws of lists: a list that is written over, stores one behind the other, zeros behind a list, bytes put in between two lists, and a part that is lent and comes back.
-- Assumes nothing.
use mathlib.Core.Path.{◌≡◌, sym, ap, ap₂, ◌∙◌}
use mathlib.Core.List.{List, [], ◌∷◌, ◌++◌, append_assoc, append-nil}
use Prim.Native.Nat.{ℕ, suc, ◌+◌, ◌*◌, ◌-◌, ◌≤◌}
use native.Mathlib.Nat.{add-zero, zero-add, sub-zero}
use native.Mathlib.Omega.{arith}
use lib.ListN.{length, take, drop, set, length-append, length-replicate, length-drop}
use lib.Seq.{sets, sets-eq, drop-drop, take-append_seam, drop-append-add, drop-append_seam, length-take-le, drop-length, take-length}
use borrow.Rule.Slice.PartMut.{put_mid, mid_of}
use Rattle.std.specs.List.{copy_within}
use Rattle.std.proofs.lemmas.List.{drop-replicate}
use Rattle.area.specs.Bytes.{pad, zeros}
use Rattle.area.specs.Areas.{move_up, inserted}

-- ---- stores

sets_sets : (us l : List ℕ) (i : ℕ) (vs : List ℕ) → sets (sets l i us) (i + length us) vs ≡ sets l i (us ++ vs)
sets_sets [] l i vs = ap (λ (j : ℕ). sets l j vs) (add-zero i)
sets_sets (u ∷ us) l i vs =
    ap (λ (j : ℕ). sets (sets (set l i u) (suc i) us) j vs) (omega arith) ∙ sets_sets us (set l i u) (suc i) vs

-- a run of stores behind another
pub sets_then : (l : List ℕ) {m e : List ℕ} (i j : ℕ) (us vs : List ℕ) → m ≡ sets l i us → e ≡ sets m j vs → j ≡ i + length us → e ≡ sets l i (us ++ vs)
sets_then l i j us vs p q r = q ∙ ap₂ (λ (t : List ℕ) (k : ℕ). sets t k vs) p r ∙ sets_sets us l i vs

-- a run of stores over the front
pub sets_front : (v u t : List ℕ) → length u ≡ length v → sets (u ++ t) 0 v ≡ v ++ t
sets_front v u t h =
    sets-eq v (u ++ t) 0 (omega (arith, length-append u t))
    ∙ ap (λ (j : ℕ). v ++ drop j (u ++ t)) (zero-add (length v) ∙ sym h)
    ∙ ap (λ (r : List ℕ). v ++ r) (drop-append_seam u t)

-- a part of a list, written over as a whole
pub put_part : (a k : ℕ) (l v : List ℕ) → length v ≡ k → a + k ≤ length l → put_mid a k l v ≡ sets l a v
put_part a k l v q h =
    ap (λ (r : List ℕ). take a l ++ (v ++ r)) (drop-drop k a l ∙ ap (λ (j : ℕ). drop (a + j) l) (sym q))
    ∙ sym (append_assoc (take a l) v (drop (a + length v) l))
    ∙ sym (sets-eq v l a (omega (arith, q)))

-- ---- zeros behind a list

pub length_pad : (n : ℕ) (l : List ℕ) → length l ≤ n → length (pad n l) ≡ n
unfolding pad
length_pad n l h = simp (length-append, length-replicate) (omega arith)

-- stores behind the list
pub sets_pad : (n : ℕ) (l v : List ℕ) → length l + length v ≤ n → sets (pad n l) (length l) v ≡ pad n (l ++ v)
unfolding pad
sets_pad n l v h =
    let e : n - length l - length v ≡ n - length (l ++ v) = omega (arith, length-append l v) in
    let r : length l + length v ≤ length (pad n l) = omega (arith, length_pad n l (omega arith)) in
    sets-eq v (pad n l) (length l) r
    ∙ ap₂ (λ (a b : List ℕ). a ++ v ++ b) (take-append_seam l _) (drop-append-add l _ _ ∙ drop-replicate (length v) (n - length l) 0)
    ∙ ap (λ (j : ℕ). l ++ v ++ zeros j) e

-- bytes put in between u and v: those of v move up
pub insert_pad : (n : ℕ) (u v x : List ℕ) → length u + length x + length v ≤ n
    → take (length u) (pad n (u ++ v)) ++ move_up (length x) (length v) x (drop (length u) (pad n (u ++ v))) ≡ pad n (u ++ (x ++ v))
unfolding pad move_up
insert_pad n u v x h =
    let z : List ℕ = zeros (n - length (u ++ v)) in
    let front : take (length u) (pad n (u ++ v)) ≡ u = ap (take (length u)) (append_assoc u v z) ∙ take-append_seam u (v ++ z) in
    let tail : drop (length u) (pad n (u ++ v)) ≡ v ++ z = ap (drop (length u)) (append_assoc u v z) ∙ drop-append_seam u (v ++ z) in
    let k : n - length (u ++ v) - length x ≡ n - length (u ++ (x ++ v)) = omega (arith, length-append u v, length-append u (x ++ v), length-append x v) in
    ap₂ (λ (a b : List ℕ). a ++ move_up (length x) (length v) x b) front tail
    ∙ ap₂ (λ (a b : List ℕ). u ++ (x ++ a ++ b)) (take-append_seam v z) (drop-append-add v z (length x) ∙ drop-replicate (length x) _ 0)
    ∙ sym (append_assoc u (x ++ v) _)
    ∙ ap (λ (j : ℕ). u ++ (x ++ v) ++ zeros j) k

-- ---- a record put in between

-- the first m bytes moved up by w, and v written over the front
pub move_front : {w u : ℕ} (l : List ℕ) {a e : List ℕ} (m : ℕ) (v : List ℕ) → u ≡ w → length v ≡ w → m + w ≤ length l → a ≡ copy_within l 0 m u → e ≡ sets a (0 * w) v
    → e ≡ move_up w m v l
unfolding move_up
move_front {w} {u} l {a} m v z lv h p q =
    let p' : a ≡ take w l ++ take m l ++ drop (w + m) l =
    p ∙ ap (copy_within l 0 m) z ∙ ap (λ (j : ℕ). take w l ++ take j l ++ drop (w + j) l) (sub-zero m) in
    q ∙ ap (λ (j : ℕ). sets a j v) (omega arith) ∙ ap (λ (t : List ℕ). sets t 0 v) (p' ∙ append_assoc (take w l) _ _)
    ∙ sets_front v (take w l) (take m l ++ drop (w + m) l) (length-take-le w l (omega arith) ∙ sym lv)
    ∙ sym (append_assoc v _ _)
    ∙ ap (λ (j : ℕ). v ++ take m l ++ drop j l) (omega arith)

-- ---- a part that is lent from a place on, and comes back

put_tail : (a : ℕ) (l t : List ℕ) → put_mid a (length l - a) l t ≡ take a l ++ t
put_tail a l t =
    ap (λ (r : List ℕ). take a l ++ (t ++ r)) (ap (λ (j : ℕ). drop j (drop a l)) (sym (length-drop a l)) ∙ drop-length (drop a l))
    ∙ ap (λ (r : List ℕ). take a l ++ r) (append-nil t)

mid_tail : (a : ℕ) (l : List ℕ) → mid_of a (length l - a) l ≡ drop a l
mid_tail a l = ap (λ (j : ℕ). take j (drop a l)) (sym (length-drop a l)) ∙ take-length (drop a l)

pub insert_tail : {w u : ℕ} (p n : ℕ) (v l t : List ℕ) → u ≡ w → t ≡ move_up w ((n - p) * u) v (mid_of (p * u) (length l - p * u) l)
    → put_mid (p * u) (length l - p * u) l t ≡ inserted w p n v l
unfolding inserted
insert_tail {w} {u} p n v l t z e =
    put_tail (p * u) l t
    ∙ ap (λ (r : List ℕ). take (p * u) l ++ r) (e ∙ ap (move_up w ((n - p) * u) v) (mid_tail (p * u) l))
    ∙ ap (λ (j : ℕ). take (p * j) l ++ move_up w ((n - p) * j) v (drop (p * j) l)) z
