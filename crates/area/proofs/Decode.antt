-- Records read from an area's bytes. For any record: its list of fields, read from the bytes, is the list of fields of the record that was written,
-- field by field. Below that, what code makes of the fields that it read is the record that the definition reads.
-- Assumes nothing.
use mathlib.Core.Path.{◌≡◌, refl, sym, ap, ap₂, ◌∙◌}
use mathlib.Core.List.{List, [], ◌∷◌}
use Prim.Native.Nat.{ℕ, zero, suc, ◌+◌, ◌*◌, ◌<◌}
use native.Mathlib.Nat.{add-zero, add_assoc}
use native.Mathlib.Omega.{arith}
use lib.ListN.{length, get_or}
use Rattle.area.specs.Bytes.{two, bytes, field_at, field_from}
use Rattle.area.specs.Records.{state_of}
use Rattle.area.specs.Areas.{Area}
use Rattle.area.proofs.Fields.{fields-length, field_back}
use Rattle.area.proofs.Areas.{area-at}

-- the numbers that g gives, from i on
unfoldable pub list_of : (ℕ → ℕ) → ℕ → ℕ → List ℕ
list_of g i zero = []
list_of g i (suc n) = g i ∷ list_of g (i + 1) n

listed : (g : ℕ → ℕ) (i : ℕ) (fs : List ℕ) → ((j : ℕ) → j < length fs → g (i + j) ≡ get_or fs j 0) → list_of g i (length fs) ≡ fs
unfolding list_of
listed g i [] h = refl
listed g i (f ∷ fs) h =
    ap₂ (λ (x : ℕ) (xs : List ℕ). x ∷ xs) (ap g (omega arith) ∙ h 0 (omega arith))
    (listed g (i + 1) fs (λ j hj. ap g (omega arith) ∙ h (suc j) (omega arith)))

-- for records of m fields
module _ {A : Type 0} (fields : A → List ℕ) (m : ℕ) (has : (x : A) → length (fields x) ≡ m) where
  pub fields_wide : (x : A) → length (bytes two (fields x)) ≡ 2 * m
  fields_wide x = fields-length (fields x) ∙ ap (λ (j : ℕ). 2 * j) (has x)

  module _ {limit cap n : ℕ} {l : List ℕ} {xs : List A} (d : A) (k : ℕ) (a : Area (λ (x : A). bytes two (fields x)) (2 * m) limit cap l n xs) (h : k < n) where
    field_read : (j : ℕ) → j < m → field_from l (k * (2 * m)) j ≡ get_or (fields (get_or xs k d)) j 0
    unfolding field_from field_at
    field_read j hj =
        let fs : List ℕ = fields (get_or xs k d) in
        let at : ℕ = k * (2 * m) in
        ap₂ (λ (x y : ℕ). x + y * 256)
        (area-at fields_wide a d k (2 * j) h (omega arith))
        (ap (λ (i : ℕ). get_or l i 0) (add_assoc at (2 * j) 1) ∙ area-at fields_wide a d k (2 * j + 1) h (omega arith))
        ∙ field_back fs j (omega (arith, has (get_or xs k d)))

    -- the list of fields of record k
    pub fields_read : list_of (field_from l (k * (2 * m))) 0 m ≡ fields (get_or xs k d)
    fields_read =
        let e : length (fields (get_or xs k d)) ≡ m = has (get_or xs k d) in
        ap (list_of g 0) (sym e)
        ∙ listed g 0 (fields (get_or xs k d)) (λ j hj. ap g (omega arith) ∙ field_read j (omega (arith, e)))
      where
        g : ℕ → ℕ
        g = field_from l (k * (2 * m))

-- ---- a record made of fields that were read one by one

module _ (l : List ℕ) (at : ℕ) where
  pub state_made : (a b c : ℕ) → a ≡ field_at l at → b ≡ field_at l (at + 2) → c ≡ field_at l (at + 4)
      → record { start = a; end = b; exclusive = c } ≡ state_of (field_from l at)
  unfolding state_of field_from
  state_made a b c e1 e2 e3 = simp (e1, e2, e3, add-zero)
