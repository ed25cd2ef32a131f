-- An index of names; 01 has none. A slot has the number of an entry, or is free. A name is looked for from its home on, slot by slot, up to a free
-- one; an entry is put into the free one.
use Rattle.std.specs.Prelude.{◌≡◌, ℕ, ◌+◌, ◌-◌, ◌<◌, ◌≤◌, Bool, true, false, cond, List, length, ◌==◌, is_some, slice_index_or, Option, Some, None}
use Rattle.text.specs.Range.{same_bytes}
use Rattle.name_map.specs.declared.index.Slot.{Slot}
use Rattle.name_map.specs.declared.index.Probed.{Probed}
use Rattle.name_map.specs.declared.index.Probed.TheVariants.{Free, Found}
use Rattle.name_map.specs.Map.{Entry, nth, find_entry, distinct}
use Rattle.name_map.specs.Home.{home_of}

-- how many slots there are
abbrev pub slot_count : ℕ
slot_count = 4608

-- the entry that a slot has, by its number from 1 on; none where that is 0
unfoldable pub entry_in : Slot → Option ℕ
entry_in s = cond (s.0 == 0) None (Some (s.0 - 1))

-- ---- the slots of entries

-- the slots from a on to before b are taken
pub record Taken (slots : List (Option ℕ)) (a b : ℕ) : Type 0 where
  pub each : (p : ℕ) → a ≤ p → p < b → is_some (slice_index_or slots p None) ≡ true

-- entry i has one of the slots from a on to before b
pub record HasSlot (slots : List (Option ℕ)) (i a b : ℕ) : Type 0 where
  pub slot : ℕ
  pub from : a ≤ slot
  pub to : slot < b
  pub has : slice_index_or slots slot None ≡ Some i

-- the slots of the first n entries: from its home on each has a slot before every free one, or no slot is free from there on
pub record EntrySlots (es : List Entry) (n : ℕ) (slots : List (Option ℕ)) : Type 0 where
  pub low : (p i : ℕ) → slice_index_or slots p None ≡ Some i → i < n
  pub stands : (i b : ℕ) → i < n → home_of (nth es i).name ≤ b → b < slot_count → slice_index_or slots b None ≡ None → ∥ HasSlot slots i (home_of (nth es i).name) b ∥₁

-- ---- the search for a name

-- slot p is free, and those from the home of the name on to before it are taken; none of the first n entries has the name
pub record FreeFor (es : List Entry) (n : ℕ) (slots : List (Option ℕ)) (name : List ℕ) (p : ℕ) : Type 0 where
  pub inside : p < slot_count
  pub free : slice_index_or slots p None ≡ None
  pub from : home_of name ≤ p
  pub taken : Taken slots (home_of name) p
  pub none : (i : ℕ) → i < n → same_bytes (nth es i).name name ≡ false

-- what it comes to, in the slots of the first n entries
abbrev pub Probes : List Entry → ℕ → List (Option ℕ) → List ℕ → Option Probed → Type 0
Probes es n slots name (Some (Free p)) = FreeFor es n slots name p
Probes es n slots name (Some (Found j)) = (j < n) × (same_bytes (nth es j).name name ≡ true)
Probes es n slots name None = Taken slots (home_of name) slot_count

-- ---- a map

-- what is answered of entry j, and the slots that are left
pub record EntryIndexed (es : List Entry) (j : ℕ) (r : Bool) (l : List (Option ℕ)) : Type 0 where
  pub is : r ≡ (find_entry es (nth es j).name == j)
  pub slots : r ≡ true → EntrySlots es (j + 1) l

-- the same of all entries
pub record EntriesIndexed (es : List Entry) (r : Bool) (l : List (Option ℕ)) : Type 0 where
  pub is : r ≡ distinct es
  pub slots : r ≡ true → EntrySlots es (length es) l

-- a map whose names are distinct, and their slots
pub record EntryIndex (es : List Entry) (l : List (Option ℕ)) : Type 0 where
  pub different : distinct es ≡ true
  pub slots : EntrySlots es (length es) l
