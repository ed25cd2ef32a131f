-- Records that were written are read back: an area determines the list of its records. So what a write does to an area can be said of
-- the list that is read, once for every kind of record.
use mathlib.Core.Path.{◌≡◌, refl, sym, ap, ◌∙◌}
use mathlib.Core.Bool.{Bool, true, false, cond}
use mathlib.Core.List.{List, [], ◌∷◌, ◌++◌}
use Prim.Native.Nat.{ℕ, zero, suc, ◌+◌, ◌*◌, ◌≤◌, ◌<◌}
use native.Mathlib.Omega.{arith}
use borrow.Author.Tests.{leb-true, leb-false}
use lib.Dec.{leb}
use lib.ListN.{length, get_or, take, length-append, get_or-append}
use lib.Seq.{take-suc, take-length, get_or_at}
use Rattle.std.specs.Prelude.{Result, Ok, Err}
use Rattle.area.specs.declared.AreaFull.{AreaFull}
use Rattle.area.specs.Areas.{Area, Pushed, room, insert_at, inserted}
use mathlib.Core.Option.{none, some}
use Rattle.area.specs.Bytes.{bytes, zeros}
use Rattle.area.specs.Contents.{Format, contents, list_of, Held, append, left_by, Grows}
use Rattle.area.specs.Contents.{state_format, rule_format, entry_format, text_format, expected_format, fault_format}
use Rattle.area.proofs.Areas.{full_says, area-at, area_empty, area_inserted, area-length, full_room, next_areas, next_room, one_wide, pushed_length}
use Rattle.area.proofs.Fields.{bytes_single}
use Rattle.area.proofs.Records.{state_wide, rule_wide, entry_wide, expected_wide, fault_wide, state_read, rule_read, entry_read, expected_read, fault_read}

-- ---- a list from its elements

pub list_of-length : {A : Type 0} (f : ℕ → A) (n : ℕ) → length (list_of f n) ≡ n
unfolding list_of
list_of-length f zero = refl
list_of-length f (suc n) = length-append (list_of f n) (f n ∷ []) ∙ omega (arith, list_of-length f n)

list_of-take : {A : Type 0} (f : ℕ → A) (d : A) (xs : List A) (n : ℕ) → n ≤ length xs → ((k : ℕ) → k < n → f k ≡ get_or xs k d) → list_of f n ≡ take n xs
unfolding list_of
list_of-take f d xs zero h e = refl
list_of-take f d xs (suc n) h e =
    rw (list_of-take f d xs n (omega arith) (λ k l. e k (omega arith)), e n (omega arith)) (sym (take-suc xs n d (omega arith)))

pub list_of_is : {A : Type 0} (f : ℕ → A) (d : A) (xs : List A) (n : ℕ) → n ≡ length xs → ((k : ℕ) → k < n → f k ≡ get_or xs k d) → list_of f n ≡ xs
list_of_is f d xs n q e = list_of-take f d xs n (omega arith) e ∙ ap (λ (m : ℕ). take m xs) q ∙ take-length xs

-- an area read back has as many records as it counts
pub contents_count : {A : Type 0} (F : Format A) (l : List ℕ) (n : ℕ) → length (contents F l n) ≡ n
unfolding contents
contents_count F l n = list_of-length (F.read l) n

-- the elements of a list that grows at its end
grown_at : {A : Type 0} (f : ℕ → A) (d : A) (n k : ℕ) (xs : List A) → length xs ≡ n → k < suc n → (k < n → get_or xs k d ≡ f k)
    → get_or (xs ++ (f n ∷ [])) k d ≡ f k
grown_at f d n k xs e h earlier = by (leb n k) refl
  where
    by : (b : Bool) → leb n k ≡ b → get_or (xs ++ (f n ∷ [])) k d ≡ f k
    by true t =
        let l : n ≤ k = leb-true n k t in
        let q : n ≡ k = omega arith in
        get_or_at xs (f n) [] d k (e ∙ q) ∙ ap f q
    by false t =
        let l : k < n = leb-false n k t in
        get_or-append xs (f n ∷ []) d k (omega arith) ∙ earlier l

list_of-at : {A : Type 0} (f : ℕ → A) (d : A) (n k : ℕ) → k < n → get_or (list_of f n) k d ≡ f k
unfolding list_of
list_of-at f d zero k h = absurd (omega (arith, h))
list_of-at f d (suc n) k h = grown_at f d n k (list_of f n) (list_of-length f n) h (λ g. list_of-at f d n k g)

-- record k of the list is record k of the bytes
pub contents_read : {A : Type 0} (F : Format A) (l : List ℕ) (n k : ℕ) → k < n → get_or (contents F l n) k F.blank ≡ F.read l k
unfolding contents
contents_read F l n k h = list_of-at (F.read l) F.blank n k h

-- ---- formats that read what they write

pub record Sound {A : Type 0} (F : Format A) : Type 0 where
  pub wide : (x : A) → length (F.write x) ≡ F.width
  pub back : {limit cap n : ℕ} {l : List ℕ} {xs : List A} (k : ℕ) → Area F.write F.width limit cap l n xs → k < n → F.read l k ≡ get_or xs k F.blank

pub state_sound : Sound state_format
state_sound = record { wide = state_wide; back = λ k a h. state_read k a h }

pub rule_sound : Sound rule_format
rule_sound = record { wide = rule_wide; back = λ k a h. rule_read k a h }

pub entry_sound : Sound entry_format
entry_sound = record { wide = entry_wide; back = λ k a h. entry_read k a h }

pub expected_sound : Sound expected_format
expected_sound = record { wide = expected_wide; back = λ k a h. expected_read k a h }

pub fault_sound : Sound fault_format
fault_sound = record { wide = fault_wide; back = λ k a h. fault_read k a h }

pub text_sound : Sound text_format
text_sound = record {
  wide = one_wide;
  back = λ {limit} {cap} {n} {l} {xs} k a h.
      let q : k ≡ k * 1 + 0 = omega arith in
      ap (λ (j : ℕ). get_or l j 0) q ∙ area-at one_wide a 0 k 0 h (omega arith);
}

-- ---- what an area holds

module _ {A : Type 0} {F : Format A} (sound : Sound F) where
  -- an area determines its records
  pub contents_are : {limit cap n : ℕ} {l : List ℕ} {xs : List A} → Area F.write F.width limit cap l n xs → contents F l n ≡ xs
  unfolding contents
  contents_are {n = n} {l = l} {xs = xs} a = list_of_is (F.read l) F.blank xs n a.count (λ k h. sound.back k a h)

  pub held_of : {cap n : ℕ} {l : List ℕ} {xs : List A} → Area F.write F.width F.most cap l n xs → Held F l n
  held_of {cap} {n} {l} {xs} a = record { area = rw (contents_are a, area-length sound.wide a) a }

  module _ {n : ℕ} {l : List ℕ} (h : Held F l n) where
    pub contents-length : length (contents F l n) ≡ n
    contents-length = sym h.area.count

    pub contents-at : (k : ℕ) → k < n → get_or (contents F l n) k F.blank ≡ F.read l k
    contents-at k g = sym (sound.back k h.area g)

    -- an append does `append`
    pub held-append : (ys : List A) {m : ℕ} {v : List ℕ} {r : Result ℕ AreaFull} {e : List ℕ} → m ≡ length ys → v ≡ bytes F.write ys
        → Pushed F.name F.width F.most m v l n r e → Grows F (append F (length l) ys) l n r e
    unfolding append
    held-append ys {m} {v} {r} {e} qm qv p = record {
      says = by r refl;
      held = λ k q. held_of (after k q);
      names = λ x q. (full_says p q).2;
      long = pushed_length p;
    }
      where
        p' : Pushed F.name F.width F.most (length ys) (bytes F.write ys) l n r e
        p' = rw (← qm, ← qv) p

        after : (k : ℕ) → r ≡ Ok k → Area F.write F.width F.most (length l) e k (contents F l n ++ ys)
        after k q = next_areas sound.wide h.area ys p' q

        by : (x : Result ℕ AreaFull) → r ≡ x
            → cond (room F.width F.most (length l) (length (contents F l n)) (length ys)) (some (contents F l n ++ ys)) none ≡ left_by F e r
        by (Ok k) q = rw (next_room sound.wide h.area p' q, q, contents_are (after k q))
        by (Err x) q = rw (full_room sound.wide h.area p' q, q)

    pub held_push : (x : A) {r : Result ℕ AreaFull} {e : List ℕ}
        → Pushed F.name F.width F.most 1 (F.write x) l n r e → Grows F (append F (length l) (x ∷ [])) l n r e
    held_push x p = held-append (x ∷ []) refl (sym (bytes_single F.write x)) p

    -- a record in between
    pub held_insert : (p : ℕ) (x : A) (e : List ℕ) → p ≤ n → room F.width F.most (length l) (length (contents F l n)) 1 ≡ true
        → e ≡ inserted F.width p n (F.write x) l → (contents F e (n + 1) ≡ insert_at p x (contents F l n)) × Held F e (n + 1) × (length e ≡ length l)
    held_insert p x e g t q =
        let a = area_inserted sound.wide h.area p g x e t q in
        (contents_are a, held_of a, area-length sound.wide a)

  -- an area of zeros holds nothing
  pub held_empty : (l : List ℕ) → l ≡ zeros (length l) → Held F l 0
  held_empty l e = held_of (area_empty F.write F.width F.most (length l) e)
