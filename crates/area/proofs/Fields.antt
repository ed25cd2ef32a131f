-- Fields as bytes: those of a list of records, of any width. What is written field by field is the bytes of the list of fields, and a field read
-- back is the number that was written, whatever that number is.
-- Assumes nothing.
use mathlib.Core.Path.{◌≡◌, refl, sym, ap, ap₂, ◌∙◌}
use mathlib.Core.List.{List, [], ◌∷◌, ◌++◌, append_assoc, append-nil}
use Prim.Native.Nat.{ℕ, zero, suc, ◌+◌, ◌*◌, ◌/◌, ◌%◌, ◌<◌}
use native.Mathlib.Nat.{suc-mul, add_comm, not-suc-le-zero, le_of_suc-le-suc}
use native.Mathlib.Omega.{arith}
use lib.ListN.{length, get_or, take, drop, length-append, get_or-append}
use lib.Seq.{sets, get_or-append-add}
use Rattle.area.specs.Bytes.{two, bytes, field_at, field_from, AllBytes}
use Rattle.area.specs.declared.Rule.{Rule}
use Rattle.area.specs.Records.{rule_fields, rule_bytes}
use Rattle.area.specs.Areas.{insert_at}
use Rattle.area.proofs.Lists.{sets_then}

-- ---- the bytes of a list of records, for any width

module _ {A : Type 0} (f : A → List ℕ) where
  pub bytes-append : (xs ys : List A) → bytes f (xs ++ ys) ≡ bytes f xs ++ bytes f ys
  unfolding bytes
  bytes-append [] ys = refl
  bytes-append (x ∷ xs) ys = ap (λ (l : List ℕ). f x ++ l) (bytes-append xs ys) ∙ sym (append_assoc (f x) (bytes f xs) (bytes f ys))

  pub bytes_single : (x : A) → bytes f (x ∷ []) ≡ f x
  unfolding bytes
  bytes_single x = append-nil (f x)

  pub bytes_insert : (p : ℕ) (x : A) (xs : List A) → bytes f (take p xs) ++ (f x ++ bytes f (drop p xs)) ≡ bytes f (insert_at p x xs)
  unfolding bytes insert_at
  bytes_insert p x xs = sym (bytes-append (take p xs) (x ∷ drop p xs))

module _ {A : Type 0} (f : A → List ℕ) (w : ℕ) (wide : (x : A) → length (f x) ≡ w) where
  pub bytes-length : (xs : List A) → length (bytes f xs) ≡ length xs * w
  unfolding bytes
  bytes-length [] = omega arith
  bytes-length (x ∷ xs) =
      length-append (f x) (bytes f xs) ∙ ap₂ (λ (a b : ℕ). a + b) (wide x) (bytes-length xs) ∙ add_comm _ _ ∙ sym (suc-mul (length xs) w)

  -- byte j of record k
  pub bytes-at : (d : A) (xs : List A) (ys : List ℕ) (k j : ℕ) → k < length xs → j < w
      → get_or (bytes f xs ++ ys) (k * w + j) 0 ≡ get_or (f (get_or xs k d)) j 0
  unfolding bytes
  bytes-at d [] ys k j hk hj = absurd (not-suc-le-zero hk)
  bytes-at d (x ∷ xs) ys zero j hk hj =
      ap (λ (l : List ℕ). get_or l (0 * w + j) 0) (append_assoc (f x) (bytes f xs) ys)
      ∙ ap (λ (i : ℕ). get_or (f x ++ (bytes f xs ++ ys)) i 0) (omega arith)
      ∙ get_or-append (f x) (bytes f xs ++ ys) 0 j (omega (arith, wide x))
  bytes-at d (x ∷ xs) ys (suc k) j hk hj =
      ap (λ (l : List ℕ). get_or l (suc k * w + j) 0) (append_assoc (f x) (bytes f xs) ys)
      ∙ ap (λ (i : ℕ). get_or (f x ++ (bytes f xs ++ ys)) i 0) (omega (arith, wide x, suc-mul k w))
      ∙ get_or-append-add (f x) (bytes f xs ++ ys) (k * w + j) 0
      ∙ bytes-at d xs ys k j (le_of_suc-le-suc hk) hj

-- ---- fields

pub two_wide : (v : ℕ) → length (two v) ≡ 2
unfolding two
two_wide v = refl

pub fields-length : (fs : List ℕ) → length (bytes two fs) ≡ 2 * length fs
fields-length fs = bytes-length two 2 two_wide fs ∙ omega arith

field_byte : (fs : List ℕ) (j i : ℕ) → j < length fs → i < 2 → get_or (bytes two fs) (j * 2 + i) 0 ≡ get_or (two (get_or fs j 0)) i 0
field_byte fs j i h hi =
    ap (λ (l : List ℕ). get_or l (j * 2 + i) 0) (sym (append-nil (bytes two fs))) ∙ bytes-at two 2 two_wide 0 fs [] j i h hi

-- what a field reads back is the number that was written
pub field_back : (fs : List ℕ) (j : ℕ) → j < length fs → field_at (bytes two fs) (2 * j) ≡ get_or fs j 0
unfolding field_at two
field_back fs j h =
    let l : List ℕ = bytes two fs in
    let low : get_or l (2 * j) 0 ≡ get_or fs j 0 % 256 = ap (λ (i : ℕ). get_or l i 0) (omega arith) ∙ field_byte fs j 0 h (omega arith) in
    let high : get_or l (2 * j + 1) 0 ≡ get_or fs j 0 / 256 = ap (λ (i : ℕ). get_or l i 0) (omega arith) ∙ field_byte fs j 1 h (omega arith) in
    omega (arith, low, high)

-- one field written
pub one_field : (l : List ℕ) (at : ℕ) (e : List ℕ) (a : ℕ) → e ≡ sets l at (two a) → e ≡ sets l at (bytes two (a ∷ []))
one_field l at e a q = q ∙ ap (sets l at) (sym (bytes_single two a))

-- fields written one behind the other
module _ (l : List ℕ) (at : ℕ) where
  then_fields : {m e : List ℕ} (j : ℕ) (us vs : List ℕ) → m ≡ sets l at (bytes two us) → e ≡ sets m j (bytes two vs) → j ≡ at + 2 * length us
      → e ≡ sets l at (bytes two (us ++ vs))
  then_fields j us vs p q r =
      sets_then l at j (bytes two us) (bytes two vs) p q (r ∙ ap (λ (i : ℕ). at + i) (sym (fields-length us)))
      ∙ ap (sets l at) (sym (bytes-append two us vs))

  then_field : {m e : List ℕ} (j : ℕ) (us : List ℕ) (v : ℕ) → m ≡ sets l at (bytes two us) → e ≡ sets m j (two v) → j ≡ at + 2 * length us
      → e ≡ sets l at (bytes two (us ++ (v ∷ [])))
  then_field {m} j us v p q r = then_fields j us (v ∷ []) p (q ∙ ap (sets m j) (sym (bytes_single two v))) r

  -- two, three and four fields
  module _ (l1 : List ℕ) (a : ℕ) (e1 : l1 ≡ sets l at (two a)) (l2 : List ℕ) (b : ℕ) (e2 : l2 ≡ sets l1 (at + 2) (two b)) where
    pub two_fields : l2 ≡ sets l at (bytes two (a ∷ b ∷ []))
    two_fields = then_field (at + 2) (a ∷ []) b (one_field l at l1 a e1) e2 refl

    module _ (l3 : List ℕ) (c : ℕ) (e3 : l3 ≡ sets l2 (at + 4) (two c)) where
      pub three_fields : l3 ≡ sets l at (bytes two (a ∷ b ∷ c ∷ []))
      three_fields = then_field (at + 4) (a ∷ b ∷ []) c two_fields e3 refl

      pub four_fields : (l4 : List ℕ) (d : ℕ) → l4 ≡ sets l3 (at + 6) (two d) → l4 ≡ sets l at (bytes two (a ∷ b ∷ c ∷ d ∷ []))
      four_fields l4 d e4 = then_field (at + 6) (a ∷ b ∷ c ∷ []) d three_fields e4 refl

  -- the fields of a rule: three times four, and two more
  pub rule_fields_lem : (l1 l2 l3 l4 l5 : List ℕ) (x : Rule)
      → l1 ≡ sets l at (bytes two (x.has_id ∷ x.id ∷ x.named ∷ x.span_start ∷ []))
      → l2 ≡ sets l1 (at + 8) (bytes two (x.span_end ∷ x.name_from ∷ x.name_length ∷ x.place ∷ []))
      → l3 ≡ sets l2 (at + 16) (bytes two (x.text_from ∷ x.text_length ∷ x.list_from ∷ x.list_count ∷ []))
      → l4 ≡ sets l3 (at + 24) (two x.operation)
      → l5 ≡ sets l4 (at + 26) (two x.target)
      → l5 ≡ sets l at (rule_bytes x)
  unfolding rule_fields
  rule_fields_lem l1 l2 l3 l4 l5 x h1 h2 h3 h4 h5 =
      let a : List ℕ = x.has_id ∷ x.id ∷ x.named ∷ x.span_start ∷ [] in
      let b : List ℕ = x.span_end ∷ x.name_from ∷ x.name_length ∷ x.place ∷ [] in
      let c : List ℕ = x.text_from ∷ x.text_length ∷ x.list_from ∷ x.list_count ∷ [] in
      let g2 : l2 ≡ sets l at (bytes two (a ++ b)) = then_fields (at + 8) a b h1 h2 refl in
      let g3 : l3 ≡ sets l at (bytes two (a ++ b ++ c)) = then_fields (at + 16) (a ++ b) c g2 h3 refl in
      let g4 : l4 ≡ sets l at (bytes two (a ++ b ++ c ++ (x.operation ∷ []))) = then_field (at + 24) (a ++ b ++ c) x.operation g3 h4 refl in
      then_field (at + 26) (a ++ b ++ c ++ (x.operation ∷ [])) x.target g4 h5 refl

-- ---- a field of bytes has two bytes

pub field_small : (l : List ℕ) (at j : ℕ) → AllBytes l → field_from l at j < 65536
unfolding field_from field_at
field_small l at j h = omega (arith, h.small (at + 2 * j), h.small (at + 2 * j + 1))
