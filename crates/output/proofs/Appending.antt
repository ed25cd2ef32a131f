-- Appending to the text of a buffer: nothing, one text behind another, and the texts of a list. Once the buffer is full the text stays as it is, so
-- that none of these laws asks for room.
use mathlib.Core.Path.{◌≡◌, refl, sym, ap, ap₂, subst, ◌∙◌}
use mathlib.Core.List.{List, [], ◌∷◌, ◌++◌, append_assoc, append-nil}
use Prim.Native.Nat.{ℕ, ◌+◌, ◌-◌, ◌≤◌, ◌<◌, min}
use native.Mathlib.Nat.{sub-zero}
use native.Mathlib.Omega.{arith}
use native.Mathlib.Numerals.{add-one}
use lib.ListN.{length, take, set, length-append, length-take}
use lib.Seq.{take_all, take-append-le, take-append-add, take-suc-set}
use borrow.Rule.Slice.PartMut.{put_mid}
use Rattle.std.specs.Borrow.{MutBor}
use Rattle.std.proofs.Common.{inl, inr}
use Rattle.std.proofs.lemmas.Bool.{cases_lt}
use Rattle.std.proofs.lemmas.Slice.{take-put_mid}
use Rattle.output.specs.declared.Text.{Text}
use Rattle.output.specs.Output.{appended, joined, Written}
use Rattle.output.specs.Text.{Holds, Appends, text_in, room_in}

-- what is taken of two texts is taken of the first, and then of the second
pub take_both : (m : ℕ) (v w : List ℕ) → take m (v ++ w) ≡ take m v ++ take (m - length v) w
take_both m v w = elim (cases_lt m (length v)) [
  | inl h ↦
      let z : m - length v ≡ 0 = omega arith in
      rw z (take-append-le m v w (omega arith) ∙ sym (append-nil (take m v)))
  | inr h ↦
      let z : m ≡ length v + (m - length v) = omega arith in
      ap (λ (k : ℕ). take k (v ++ w)) z ∙ take-append-add v w (m - length v)
      ∙ ap (λ (u : List ℕ). u ++ take (m - length v) w) (sym (take_all m v h))
]

module _ (n : ℕ) (t : List ℕ) where
  pub appended_none : t ≡ appended n t []
  unfolding appended
  appended_none = sym (append-nil t) ∙ ap (λ (u : List ℕ). t ++ u) (sym (take_all (n - length t) [] (omega arith)))

  -- one text behind another
  pub appended_then : (v w : List ℕ) → appended n (appended n t v) w ≡ appended n t (v ++ w)
  unfolding appended
  appended_then v w =
      let m = n - length t in
      let z : n - length (t ++ take m v) ≡ m - length v = omega (arith, length-append t (take m v), length-take m v) in
      ap (λ (k : ℕ). (t ++ take m v) ++ take k w) z
      ∙ append_assoc t (take m v) (take (m - length v) w)
      ∙ ap (λ (u : List ℕ). t ++ u) (sym (take_both m v w))

-- behind nothing
pub appended_first : (n : ℕ) (v : List ℕ) → appended n [] v ≡ take n v
unfolding appended
appended_first n v = ap (λ (m : ℕ). take m v) (sub-zero n)

-- ---- bytes that are copied behind the first n, as many as there is room for

take_most : (r m : ℕ) (s : List ℕ) → r ≡ min (length s) m → take r s ≡ take m s
take_most r m s z = elim (cases_lt m (length s)) [
  | inl h ↦ let y : r ≡ m = omega arith in ap (λ (k : ℕ). take k s) y
  | inr h ↦ take_all r s (omega arith) ∙ sym (take_all m s h)
]

pub copied : (l s v : List ℕ) (n m k : ℕ) → n ≤ length l → m ≡ min (length s) (length l - n) → v ≡ take m s
    → take (n + m) (put_mid n k l v) ≡ appended (length l) (take n l) s
unfolding appended
copied l s v n m k h z e =
    let long : length v ≡ m = omega (arith, ap length e, length-take m s) in
    let room : length l - length (take n l) ≡ length l - n = omega (arith, length-take n l) in
    take-put_mid n k l v (n + m) (omega arith) h
    ∙ ap (λ (u : List ℕ). take n l ++ u) (e ∙ take_most m (length l - n) s z ∙ ap (λ (j : ℕ). take j s) (sym room))

-- ---- a byte that is stored behind the first n, if there is room for it

module _ (l : List ℕ) (n b : ℕ) where
  pub byte_in : n < length l → take (n + 1) (set l n b) ≡ appended (length l) (take n l) (b ∷ [])
  unfolding appended
  byte_in h =
      ap (λ (k : ℕ). take k (set l n b)) (add-one n)
      ∙ take-suc-set l n b h
      ∙ ap (λ (u : List ℕ). take n l ++ u) (sym (take_all (length l - length (take n l)) (b ∷ []) (omega (arith, length-take n l))))

  pub byte_out : length l ≤ n → take n l ≡ appended (length l) (take n l) (b ∷ [])
  unfolding appended
  byte_out h =
      let z : length l - length (take n l) ≡ 0 = omega (arith, length-take n l) in
      sym (append-nil (take n l)) ∙ ap (λ (m : ℕ). take n l ++ take m (b ∷ [])) (sym z)

-- ---- texts in a buffer

pub appends_none : (a : Text) → Appends a a []
appends_none a = record { area = record { lent = refl; long = refl }; is = appended_none (room_in a) (text_in a) }

-- one text behind another; the later call first, as a proof knows where it ended
pub appends_then : {a b c : Text} {v w : List ℕ} → Appends b c w → Appends a b v → Appends a c (v ++ w)
appends_then {a} {b} {c} {v} {w} p q = record {
  area = record { lent = p.area.lent ∙ q.area.lent; long = p.area.long ∙ q.area.long };
  is = p.is ∙ ap₂ (λ (n : ℕ) (u : List ℕ). appended n u w) q.area.long q.is ∙ appended_then (room_in a) (text_in a) v w;
}

pub appends_same : {a b : Text} {v w : List ℕ} → v ≡ w → Appends a b v → Appends a b w
appends_same {a} {b} e p = subst (λ (u : List ℕ). Appends a b u) e p

-- the texts of a list, one behind the other
module _ (f : ℕ → List ℕ) {a : Text} where
  pub joined_none : Appends a a (joined f 0)
  unfolding joined
  joined_none = appends_none a

  pub joined_next : {k : ℕ} {b c : Text} → Appends b c (f k) → Appends a b (joined f k) → Appends a c (joined f (k + 1))
  unfolding joined
  joined_next {k} p q = rw add-one (appends_then p q)

-- ---- what stands in the buffer then

module _ (t l : List ℕ) (n : ℕ) where
  written : n ≤ length l → take n l ≡ appended (length l) [] t → Written t l n
  written h e =
      let is : take n l ≡ take (length l) t = e ∙ appended_first (length l) t in
      let z : n ≡ min (length t) (length l) = omega (arith, ap length is, length-take n l, length-take (length l) t) in
      record { count = z; is = is ∙ sym (take_most n (length l) t z) }

  was_written : Written t l n → take n l ≡ appended (length l) [] t
  was_written w = w.is ∙ take_most n (length l) t w.count ∙ sym (appended_first (length l) t)

-- a new text has nothing
pub written_none : {lent : MutBor (List ℕ)} {a : Text} → Holds lent a [] → Written [] a.bytes.now a.count
written_none {a = a} h = written [] a.bytes.now a.count a.within (h.is ∙ appended_none (room_in a) [])

-- one that stands at the front already is there as it was
pub written_front : {lent : MutBor (List ℕ)} {a : Text} {n : ℕ} (t : List ℕ) → Holds lent a (take n lent.now) → Written t lent.now n
    → Written t a.bytes.now a.count
written_front {lent} {a} {n} t h w =
    written t a.bytes.now a.count a.within
    (h.is ∙ was_written t lent.now n w ∙ ap (λ (k : ℕ). appended k [] t) (sym h.area.long))

-- the text at the front of the buffer has what is appended behind it, or as much as the buffer has room for
pub written_then : {a b : Text} {v : List ℕ} (t : List ℕ) → Appends a b v → Written t a.bytes.now a.count → Written (t ++ v) b.bytes.now b.count
written_then {a} {b} {v} t p w =
    written (t ++ v) b.bytes.now b.count b.within
    (p.is
    ∙ ap (λ (u : List ℕ). appended (room_in a) u v) (was_written t a.bytes.now a.count w)
    ∙ appended_then (room_in a) [] t v
    ∙ ap (λ (n : ℕ). appended n [] (t ++ v)) (sym p.area.long))
