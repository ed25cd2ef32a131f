-- The entries in slots: how many there are, which one a slot has, and what is left when one is put into a slot. Options are read of slots one by one.
use Rattle.std.proofs.Common.{◌≡◌, ℕ, zero, suc, ◌+◌, ◌<◌, List, ◌∷◌, length, get_or, set, replicate, ◌++◌, [], Option, None, sym, refl, ap, ◌∙◌, arith}
use Rattle.std.proofs.lemmas.List.{get_or-map, map-set, take_more_set}
use lib.ListN.{length-map, length-set, take}
use lib.Seq.{take-suc, take-length}
use native.Mathlib.Numerals.{add-one}
use Rattle.name_map.specs.declared.index.Slot.{Slot}
use Rattle.name_map.specs.Index.{entry_in}
use Rattle.name_map.specs.Phrases.{entries_in}

module _ (slots : List Slot) where
  pub slots_count : length (entries_in slots) ≡ length slots
  slots_count = length-map slots entry_in

  pub slot_read : (p : ℕ) (d : Slot) → p < length slots → (r : Option ℕ) → r ≡ entry_in (get_or slots p d) → r ≡ get_or (entries_in slots) p None
  slot_read p d h r e = e ∙ sym (get_or-map entry_in slots p d None h)

  pub slot_set : (p : ℕ) (s : Slot) (r : Option ℕ) → entry_in s ≡ r → entries_in (set slots p s) ≡ set (entries_in slots) p r
  slot_set p s r e = map-set entry_in slots p s ∙ ap (set (entries_in slots) p) e

-- slots that are all free
pub slots_free : (n : ℕ) → entries_in (replicate n (record { 0 = 0 })) ≡ replicate n None
unfolding entry_in
slots_free zero = refl
slots_free (suc n) = λ i. None ∷ slots_free n i

-- ---- options, read of the first k slots

module _ (slots : List Slot) where
  pub record Reading (k : ℕ) (options : List (Option ℕ)) : Type 0 where
    pub long : length options ≡ length slots
    pub first : take k options ≡ take k (entries_in slots)

  module _ {k : ℕ} {options : List (Option ℕ)} (R : Reading k options) where
    pub reading_next : (d : Slot) → k < length slots → (r : Option ℕ) → r ≡ entry_in (get_or slots k d) → Reading (k + 1) (set options k r)
    reading_next d h r e = record {
      long = length-set options k r ∙ R.long;
      first = take_more_set options k r (omega (arith, h, R.long)) ∙ ap (λ xs. xs ++ (r ∷ [])) R.first
          ∙ ap (λ o. take k (entries_in slots) ++ (o ∷ [])) (slot_read slots k d h r e)
          ∙ sym (take-suc (entries_in slots) k None (omega (arith, h, slots_count slots))) ∙ ap (λ n. take n (entries_in slots)) (sym (add-one k));
    }

    pub reading_all : k ≡ length slots → options ≡ entries_in slots
    reading_all q =
        sym (take-length options) ∙ ap (λ n. take n options) (R.long ∙ sym q) ∙ R.first ∙ ap (λ n. take n (entries_in slots)) (q ∙ sym (slots_count slots))
        ∙ take-length (entries_in slots)
