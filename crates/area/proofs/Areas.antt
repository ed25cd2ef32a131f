-- A list of records in an area, for records of any width: what an append, an insertion and zeros make of it, and what the answer of
-- an append says back. An append writes behind the bytes of the list, where there are only zeros: so the bytes are those of the longer list.
-- Assumes nothing.
use mathlib.Core.Path.{◌≡◌, refl, sym, ap, ap₂, ◌∙◌}
use mathlib.Core.Bool.{Bool, true, false, cond}
use mathlib.Core.List.{List, [], ◌∷◌, ◌++◌}
use Prim.Native.Nat.{ℕ, ◌+◌, ◌*◌, ◌-◌, ◌<◌, ◌≤◌}
use native.Mathlib.Nat.{add-mul, sub-zero}
use native.Mathlib.Omega.{arith}
use lib.ListN.{length, get_or, take, drop, length-append, length-drop, take-append-drop}
use lib.Seq.{sets, length-sets, length-take-le}
use Rattle.std.specs.Prelude.{Result, Ok, Err}
use Rattle.area.specs.declared.AreaName.{AreaName}
use Rattle.area.specs.declared.AreaName.TheVariants.{Text}
use Rattle.area.specs.declared.AreaFull.{AreaFull}
use Rattle.area.specs.Bytes.{bytes, pad, zeros}
use Rattle.area.specs.Areas.{room, Area, TextArea, one, Pushed, PushedText, full, insert_at, move_up, inserted}
use Rattle.area.proofs.Lists.{length_pad, sets_pad, insert_pad}
use Rattle.area.proofs.Fields.{bytes-append, bytes_insert, bytes-length, bytes-at}
use Rattle.area.proofs.Rooms.{room_few, room_fits}

-- ---- what an answer says back

module _ {name : AreaName} {w limit m : ℕ} {v l : List ℕ} {n : ℕ} {r : Result ℕ AreaFull} {e : List ℕ} (p : Pushed name w limit m v l n r e) where
  next_case : (t : Bool) (k : ℕ) → room w limit (length l) n m ≡ t → r ≡ cond t (Ok (n + m)) (Err (full name)) → e ≡ cond t (sets l (n * w) v) l → r ≡ Ok k
      → (room w limit (length l) n m ≡ true) × (k ≡ n + m) × (e ≡ sets l (n * w) v)
  next_case true k t s h q = (t, cc, h)
  next_case false k t s h q = (cc, cc, cc)

  full_case : (t : Bool) (x : AreaFull) → room w limit (length l) n m ≡ t
      → r ≡ cond t (Ok (n + m)) (Err (full name)) → e ≡ cond t (sets l (n * w) v) l → r ≡ Err x
      → (room w limit (length l) n m ≡ false) × (e ≡ l) × (x ≡ full name)
  full_case true x t s h q = (cc, cc, cc)
  full_case false x t s h q = (t, h, cc)

  -- there was room, this is the count, and the bytes are written
  pub next_says : {k : ℕ} → r ≡ Ok k → (room w limit (length l) n m ≡ true) × (k ≡ n + m) × (e ≡ sets l (n * w) v)
  next_says {k} q = next_case (room w limit (length l) n m) k refl p.says p.leaves q

  -- there was no room, and nothing is changed
  pub full_says : {x : AreaFull} → r ≡ Err x → (room w limit (length l) n m ≡ false) × (e ≡ l) × (x ≡ full name)
  full_says {x} q = full_case (room w limit (length l) n m) x refl p.says p.leaves q

  same_case : (t : Bool) → length (cond t (sets l (n * w) v) l) ≡ length l
  same_case true = length-sets l (n * w) v
  same_case false = refl

  pub pushed_length : length e ≡ length l
  pushed_length = ap length p.leaves ∙ same_case (room w limit (length l) n m)

-- ---- an area of records of w bytes

module _ {A : Type 0} {f : A → List ℕ} {w : ℕ} (wide : (x : A) → length (f x) ≡ w) where
  module _ {limit cap n : ℕ} {l : List ℕ} {xs : List A} (a : Area f w limit cap l n xs) where
    list_length : length (bytes f xs) ≡ n * w
    list_length = bytes-length f w wide xs ∙ ap (λ (j : ℕ). j * w) (sym a.count)

    pub area-length : length l ≡ cap
    area-length = ap length a.is ∙ length_pad cap (bytes f xs) (rw list_length a.fits)

    -- byte j of record k
    pub area-at : (d : A) (k j : ℕ) → k < n → j < w → get_or l (k * w + j) 0 ≡ get_or (f (get_or xs k d)) j 0
    unfolding pad
    area-at d k j hk hj = ap (λ (t : List ℕ). get_or t (k * w + j) 0) a.is ∙ bytes-at f w wide d xs _ k j (omega (arith, a.count)) hj

    -- a test for room on the area's length and count is one on its capacity and list
    pub tested_room : (m : ℕ) {t b : Bool} → t ≡ room w limit (length l) n m → t ≡ b → room w limit cap (length xs) m ≡ b
    tested_room m {t} {b} p q = rw (← area-length, ← a.count) (sym p ∙ q)

    -- an append that answers a count found room; one that answers none found none
    pub next_room : {name : AreaName} {m : ℕ} {v : List ℕ} {r : Result ℕ AreaFull} {e : List ℕ} {k : ℕ} → Pushed name w limit m v l n r e → r ≡ Ok k
        → room w limit cap (length xs) m ≡ true
    next_room {m} p q = tested_room m refl (next_says p q).0

    pub full_room : {name : AreaName} {m : ℕ} {v : List ℕ} {r : Result ℕ AreaFull} {e : List ℕ} {x : AreaFull} → Pushed name w limit m v l n r e → r ≡ Err x
        → room w limit cap (length xs) m ≡ false
    full_room {m} p q = tested_room m refl (full_says p q).0

    -- records more
    area-append : (ys : List A) → room w limit cap (length xs) (length ys) ≡ true
        → Area f w limit cap (sets l (n * w) (bytes f ys)) (n + length ys) (xs ++ ys)
    area-append ys t =
        let t' : room w limit cap n (length ys) ≡ true = rw a.count t in
        let h : (n + length ys) * w ≤ cap = room_fits w limit cap n (length ys) t' in
        let g : n * w + length ys * w ≤ cap = rw (← add-mul n (length ys) w) h in
        record {
          count = ap (λ (j : ℕ). j + length ys) a.count ∙ sym (length-append xs ys);
          is = ap₂ (λ (u : List ℕ) (j : ℕ). sets u j (bytes f ys)) a.is (sym list_length)
              ∙ sets_pad cap (bytes f xs) (bytes f ys) (omega (arith, list_length, bytes-length f w wide ys))
              ∙ ap (pad cap) (sym (bytes-append f xs ys));
          few = room_few w limit cap n (length ys) t';
          fits = h;
        }

    -- what an append leaves: the list with what was appended
    pub next_areas : {name : AreaName} {r : Result ℕ AreaFull} {e : List ℕ} {k : ℕ} (ys : List A)
        → Pushed name w limit (length ys) (bytes f ys) l n r e → r ≡ Ok k
        → Area f w limit cap e k (xs ++ ys)
    next_areas ys p q = rw ((next_says p q).2, (next_says p q).1) (area-append ys (next_room p q))

    module _ (p : ℕ) (inside : p ≤ n) where
      front_length : length (bytes f (take p xs)) ≡ p * w
      front_length = bytes-length f w wide (take p xs) ∙ ap (λ (j : ℕ). j * w) (length-take-le p xs (omega (arith, a.count)))

      tail_length : length (bytes f (drop p xs)) ≡ (n - p) * w
      tail_length = bytes-length f w wide (drop p xs) ∙ ap (λ (j : ℕ). j * w) (length-drop p xs ∙ ap (λ (j : ℕ). j - p) (sym a.count))

      area_split : l ≡ pad cap (bytes f (take p xs) ++ bytes f (drop p xs))
      area_split = a.is ∙ ap (pad cap) (ap (bytes f) (sym (take-append-drop p xs)) ∙ bytes-append f (take p xs) (drop p xs))

      insert_is : (x : A) → n * w + w ≤ cap → inserted w p n (f x) l ≡ pad cap (bytes f (insert_at p x xs))
      unfolding inserted
      insert_is x h =
          let u : List ℕ = bytes f (take p xs) in
          let v : List ℕ = bytes f (drop p xs) in
          let b : List ℕ = pad cap (u ++ v) in
          let m : n - p + p ≡ n = omega arith in
          let k : (n - p) * w + p * w ≡ n * w = sym (add-mul (n - p) p w) ∙ ap (λ (j : ℕ). j * w) m in
          ap (λ (t : List ℕ). take (p * w) t ++ move_up w ((n - p) * w) (f x) (drop (p * w) t)) area_split
          ∙ ap₂ (λ (i j : ℕ). take i b ++ move_up w j (f x) (drop i b)) (sym front_length) (sym tail_length)
          ∙ ap (λ (j : ℕ). take (length u) b ++ move_up j (length v) (f x) (drop (length u) b)) (sym (wide x))
          ∙ insert_pad cap u v (f x) (omega (arith, wide x, front_length, tail_length))
          ∙ ap (pad cap) (bytes_insert f p x xs)

      insert_length : (x : A) → length (insert_at p x xs) ≡ n + 1
      unfolding insert_at
      insert_length x =
          omega (arith, length-append (take p xs) (x ∷ drop p xs), length-take-le p xs (omega (arith, a.count)), length-drop p xs, a.count)

      -- a record more at the place p
      pub area_inserted : (x : A) (e : List ℕ) → room w limit cap (length xs) 1 ≡ true → e ≡ inserted w p n (f x) l
          → Area f w limit cap e (n + 1) (insert_at p x xs)
      area_inserted x e t q =
          let t' : room w limit cap n 1 ≡ true = rw a.count t in
          let h : (n + 1) * w ≤ cap = room_fits w limit cap n 1 t' in
          record {
            count = sym (insert_length x);
            is = q ∙ insert_is x (omega (arith, h));
            few = room_few w limit cap n 1 t';
            fits = h;
          }

-- an area of zeros has no records
pub area_empty : {A : Type 0} (f : A → List ℕ) (w limit cap : ℕ) {l : List ℕ} → l ≡ zeros cap → Area f w limit cap l 0 []
unfolding bytes pad
area_empty f w limit cap p = record { count = refl; is = p ∙ ap zeros (sym (sub-zero cap)); few = omega arith; fits = omega arith }

-- ---- the area of text

pub one_wide : (b : ℕ) → length (one b) ≡ 1
one_wide b = refl

bytes_one : (xs : List ℕ) → bytes one xs ≡ xs
unfolding bytes
bytes_one [] = refl
bytes_one (x ∷ xs) = ap (λ (l : List ℕ). x ∷ l) (bytes_one xs)

pub next_text : {cap n k : ℕ} {l xs v : List ℕ} {r : Result ℕ AreaFull} {e : List ℕ} → TextArea cap l n xs → PushedText v l n r e → r ≡ Ok k
    → TextArea cap e k (xs ++ v)
next_text {v = v} a p q = next_areas one_wide a {name = Text} v (rw (bytes_one v) p) q
