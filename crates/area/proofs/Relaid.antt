-- Records that are written back over the front of an area, one after the other: the bytes in front are those of the new records, the bytes behind are
-- untouched, and a record is read as it was. A record depends on its own bytes only (`Local`).
use mathlib.Core.Path.{◌≡◌, refl, sym, ap, ap₂, ◌∙◌}
use mathlib.Core.List.{List, ◌∷◌, [], ◌++◌, map, map-append}
use Prim.Native.Nat.{ℕ, ◌+◌, ◌*◌, ◌-◌, ◌≤◌, ◌<◌}
use native.Mathlib.Nat.{suc-mul, add_assoc, le_refl}
use native.Mathlib.Numerals.{add-one}
use native.Mathlib.Omega.{arith}
use lib.ListN.{length, get_or, take, drop, length-map}
use lib.Seq.{sets, sets-eq, take_at, drop-append-add, drop-drop, get_or-append-add, get_or-drop}
use Rattle.area.specs.Bytes.{bytes, pad, zeros, field_at, field_from}
use Rattle.area.specs.Records.{rule_width, rule_of, rule_at}
use Rattle.area.specs.Areas.{Area, room}
use Rattle.area.specs.Contents.{Format, contents, list_of, rule_format, relaid}
use Rattle.area.proofs.Fields.{bytes-append, bytes_single, bytes-length, bytes-at}
use Rattle.area.proofs.Contents.{Sound, list_of_is, contents_count}

-- ---- records that are read from the same bytes are the same

module _ (l m : List ℕ) (at w : ℕ) (same : (i : ℕ) → i < w → get_or l (at + i) 0 ≡ get_or m (at + i) 0) where
  same_field : (j : ℕ) → 2 * j + 1 < w → field_from l at j ≡ field_from m at j
  unfolding field_from field_at
  same_field j h =
      ap₂ (λ (a b : ℕ). a + b * 256)
      (same (2 * j) (omega arith))
      (ap (λ (i : ℕ). get_or l i 0) (add_assoc at (2 * j) 1) ∙ same (2 * j + 1) h ∙ ap (λ (i : ℕ). get_or m i 0) (sym (add_assoc at (2 * j) 1)))

pub record Local {A : Type 0} (F : Format A) : Type 0 where
  pub same : (l m : List ℕ) (k : ℕ) → ((i : ℕ) → i < F.width → get_or l (k * F.width + i) 0 ≡ get_or m (k * F.width + i) 0) → F.read l k ≡ F.read m k

pub rule_local : Local rule_format
unfolding rule_at rule_of
rule_local = record {
  same = λ l m k e.
      let p = same_field l m (k * rule_width) rule_width e in
      λ i. record {
        has_id = p 0 (omega arith) i;
        id = p 1 (omega arith) i;
        named = p 2 (omega arith) i;
        span_start = p 3 (omega arith) i;
        span_end = p 4 (omega arith) i;
        name_from = p 5 (omega arith) i;
        name_length = p 6 (omega arith) i;
        place = p 7 (omega arith) i;
        text_from = p 8 (omega arith) i;
        text_length = p 9 (omega arith) i;
        list_from = p 10 (omega arith) i;
        list_count = p 11 (omega arith) i;
        operation = p 12 (omega arith) i;
        target = p 13 (omega arith) i;
      };
}

-- ---- records written back one after the other

module _ {A : Type 0} {F : Format A} (sound : Sound F) (near : Local F) (g : A → A) (l : List ℕ) where
  -- the first k records are written back
  abbrev pub after : ℕ → List ℕ
  after k = relaid F l (map g (contents F l k))

  abbrev front : ℕ → List ℕ
  front k = bytes F.write (map g (contents F l k))

  records_count : (k : ℕ) → length (map g (contents F l k)) ≡ k
  records_count k = length-map (contents F l k) g ∙ contents_count F l k

  front_length : (k : ℕ) → length (front k) ≡ k * F.width
  front_length k = bytes-length F.write F.width sound.wide (map g (contents F l k)) ∙ ap (λ (j : ℕ). j * F.width) (records_count k)

  after_is : (k : ℕ) → after k ≡ front k ++ drop (k * F.width) l
  unfolding relaid
  after_is k = ap (λ (j : ℕ). front k ++ drop (j * F.width) l) (records_count k)

  pub after_none : l ≡ after 0
  unfolding relaid bytes contents list_of
  after_none =
      let z : 0 * F.width ≡ 0 = omega arith in
      sym (ap (λ (j : ℕ). drop j l) z)

  module _ (k : ℕ) (a : List ℕ) (is : a ≡ after k) where
    -- the next record is read as it was
    pub after_read : F.read a k ≡ F.read l k
    after_read = near.same a l k (λ i h.
        ap (λ (t : List ℕ). get_or t (k * F.width + i) 0) (is ∙ after_is k)
        ∙ ap (λ (j : ℕ). get_or (front k ++ drop (k * F.width) l) (j + i) 0) (sym (front_length k))
        ∙ get_or-append-add (front k) (drop (k * F.width) l) i 0
        ∙ get_or-drop (k * F.width) l i 0)

    front_next : front (k + 1) ≡ front k ++ F.write (g (F.read l k))
    unfolding contents list_of
    front_next =
        ap front (add-one k)
        ∙ ap (bytes F.write) (map-append g (contents F l k) (F.read l k ∷ []))
        ∙ bytes-append F.write (map g (contents F l k)) (g (F.read l k) ∷ [])
        ∙ ap (λ (t : List ℕ). front k ++ t) (bytes_single F.write (g (F.read l k)))

    -- it is written back
    pub after_next : (x y : A) (e : List ℕ) → k * F.width + F.width ≤ length a
        → x ≡ F.read a k → y ≡ g x → e ≡ sets a (k * F.width) (F.write y) → e ≡ after (k + 1)
    after_next x y e room q z w =
        let v : List ℕ = F.write y in
        let at : ℕ = k * F.width in
        let lv : length v ≡ F.width = sound.wide y in
        let yes : y ≡ g (F.read l k) = z ∙ ap g (q ∙ after_read) in
        let here : a ≡ front k ++ drop at l = is ∙ after_is k in
        let one : at + length v ≤ length a = omega (arith, lv) in
        let back : drop (at + length v) a ≡ drop (at + length v) l =
        ap (drop (at + length v)) here
        ∙ ap (λ (j : ℕ). drop (j + length v) (front k ++ drop at l)) (sym (front_length k))
        ∙ drop-append-add (front k) (drop at l) (length v)
        ∙ drop-drop (length v) at l in
        let m : at + length v ≡ (k + 1) * F.width = omega (arith, lv, ap (λ (j : ℕ). j * F.width) (add-one k) ∙ suc-mul k F.width) in
        w
        ∙ sets-eq v a at one
        ∙ ap₂ (λ (b d : List ℕ). b ++ v ++ d) (ap (take at) here ∙ take_at (front k) (drop at l) at (front_length k)) (back ∙ ap (λ (j : ℕ). drop j l) m)
        ∙ ap (λ (b : List ℕ). b ++ drop ((k + 1) * F.width) l) (ap (λ (u : A). front k ++ F.write u) yes ∙ sym front_next)
        ∙ sym (after_is (k + 1))

-- ---- records laid over the front of an area are read back

module _ {A : Type 0} {F : Format A} (sound : Sound F) (near : Local F) where
  laid_read : (ys : List A) (t : List ℕ) (k : ℕ) → k < length ys → F.read (bytes F.write ys ++ t) k ≡ get_or ys k F.blank
  unfolding pad
  laid_read ys t k h =
      let cap : ℕ = length ys * F.width in
      let z : List ℕ = zeros (cap - length (bytes F.write ys)) in
      let area : Area F.write F.width (length ys) cap (pad cap (bytes F.write ys)) (length ys) ys =
      record { count = refl; is = refl; few = le_refl (length ys); fits = le_refl cap } in
      near.same (bytes F.write ys ++ t) (bytes F.write ys ++ z) k (λ i g.
      bytes-at F.write F.width sound.wide F.blank ys t k i h g ∙ sym (bytes-at F.write F.width sound.wide F.blank ys z k i h g))
      ∙ sound.back k area h

  pub relaid_contents : (l : List ℕ) (ys : List A) (n : ℕ) → n ≡ length ys → contents F (relaid F l ys) n ≡ ys
  unfolding contents relaid
  relaid_contents l ys n q = list_of_is (F.read (relaid F l ys)) F.blank ys n q (λ k h. laid_read ys (drop (length ys * F.width) l) k (omega (arith, h, q)))
