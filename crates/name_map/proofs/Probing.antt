-- Slots of the entries. A search from the home of a name passes taken slots with other names only. An entry of that name has the same home, and
-- has a slot before every free one: so where the search comes to a free slot, there is no such entry.
use Rattle.std.specs.Option.{unwrap_or}
use Rattle.std.specs.Prelude.{is_some}
use Rattle.std.proofs.Common.{◌≡◌, ℕ, ◌+◌, ◌<◌, ◌≤◌, Bool, true, false, eqb, List, length, Option, Some, None, get_or, set, replicate, sym, refl, ap, ◌∙◌, subst, ⊎_elim, true≢false, arith, get_or-set_other, get_or-set_same, eq-eqb, ne_eqb, eqb-true}
use Rattle.std.proofs.Math.Logic.{∥∥₁_map}
use Rattle.std.proofs.lemmas.Grind.{not_there}
use mathlib.Core.Bool.{false≢true}
use borrow.Author.Tests.{eqb-false}
use lib.ListN.{length-replicate, get_or-replicate, get_or-eq_default}
use Rattle.text.specs.Range.{same_bytes}
use Rattle.characters.proofs.Tests.{le_or_lt}
use Rattle.text.proofs.Ranges.{same_equal, same_self, same_not}
use Rattle.characters.proofs.Walks.{first_over, first_from}
use Rattle.characters.proofs.Firsts.{first_low, first_only}
use Rattle.area.specs.Lists.{all_below}
use Rattle.area.proofs.All.{below_next}
use Rattle.name_map.specs.declared.NameMap.{NameMap}
use Rattle.name_map.specs.declared.index.Probed.{Probed}
use Rattle.name_map.specs.declared.index.Probed.TheVariants.{Free, Found}
use Rattle.name_map.specs.Map.{Entry, entries_of, nth, find_entry, found_entry, distinct, map_check}
use Rattle.name_map.specs.Home.{home_of}
use Rattle.name_map.specs.Index.{slot_count, Taken, HasSlot, EntrySlots, FreeFor, Probes, EntryIndexed, EntriesIndexed, EntryIndex}
use Rattle.name_map.specs.Phrases.{map_in, MapChecked}
use Rattle.name_map.proofs.Maps.{entry_first, distinct_read, found_some, found_none}

number_same : (i j : ℕ) → Some i ≡ Some j → i ≡ j
number_same i j q = ap (λ (o : Option ℕ). unwrap_or o i) q

-- ---- the search; the loop stands at p

module _ (es : List Entry) (slots : List (Option ℕ)) (name : List ℕ) where
  -- slot p is taken by an entry of another name
  pub record TakenByOther (p : ℕ) : Type 0 where
    pub taken : is_some (get_or slots p None) ≡ true
    pub other : (i : ℕ) → get_or slots p None ≡ Some i → same_bytes (nth es i).name name ≡ false

  -- so are those from the home on to before p
  pub record Passed (p : ℕ) : Type 0 where
    pub from : home_of name ≤ p
    pub to : p ≤ slot_count
    pub each : (q : ℕ) → home_of name ≤ q → q < p → TakenByOther q

  module _ (p : ℕ) (P : Passed p) where
    pub passed_next : p < slot_count → (j : ℕ) → get_or slots p None ≡ Some j → same_bytes (nth es j).name name ≡ false → Passed (p + 1)
    passed_next inside j has differs = record {
      from = omega (arith, P.from);
      to = omega (arith, inside);
      each = λ q a b. ⊎_elim
          (λ w.
          let z : p ≡ q = omega (arith, b, w) in
          subst TakenByOther z by_other)
          (λ w. P.each q a w)
          (le_or_lt p q);
    }
      where
        by_other : TakenByOther p
        by_other = record {
          taken = ap is_some has;
          other = λ i e. subst (λ (k : ℕ). same_bytes (nth es k).name name ≡ false) (number_same j i (sym has ∙ e)) differs;
        }

    module _ (n : ℕ) (S : EntrySlots es n slots) (inside : p < slot_count) (free : get_or slots p None ≡ None) where
      -- an entry of the name would have a slot that was passed
      not_any : (i : ℕ) → i < n → (nth es i).name ≡ name → ⊥
      not_any i h e =
          let same : home_of (nth es i).name ≡ home_of name = ap home_of e in
          not_there (S.stands i p h (omega (arith, same, P.from)) inside free) (λ own. was_passed own same)
        where
          was_passed : HasSlot slots i (home_of (nth es i).name) p → home_of (nth es i).name ≡ home_of name → ⊥
          was_passed own same =
              let passed = P.each own.slot (omega (arith, same, own.from)) own.to in
              true≢false (sym (same_self name) ∙ ap (λ (m : List ℕ). same_bytes m name) (sym e) ∙ passed.other i own.has)

      pub probe_free : FreeFor es n slots name p
      probe_free = record {
        inside = inside;
        free = free;
        from = P.from;
        taken = record { each = λ q a b. (P.each q a b).taken };
        none = λ i h. same_not (nth es i).name name (not_any i h);
      }

-- ---- one entry more in the slots

-- a slot is not both free and taken
none_some : {i : ℕ} → None ≡ Some i → ⊥
none_some q = false≢true (ap is_some q)

module _ (es : List Entry) where
  pub slots_none : (l : List (Option ℕ)) → l ≡ replicate slot_count None → EntrySlots es 0 l
  slots_none l e = record {
    low = λ p i q. absurd (none_some (sym (all_free p) ∙ ap (λ (m : List (Option ℕ)). get_or m p None) (sym e) ∙ q));
    stands = λ i b h. absurd (omega (arith, h));
  }
    where
      all_free : (p : ℕ) → get_or {A = Option ℕ} (replicate slot_count None) p None ≡ None
      all_free p = ⊎_elim
          (λ g. get_or-eq_default {A = Option ℕ} (replicate slot_count None) None {n = p} (omega (arith, g, length-replicate {A = Option ℕ} slot_count None)))
          (λ g. get_or-replicate {A = Option ℕ} slot_count p None None g)
          (le_or_lt slot_count p)

  module _ (k : ℕ) (l : List (Option ℕ)) (S : EntrySlots es k l) where
    abbrev home : ℕ
    home = home_of (nth es k).name

    -- from the home of entry k on no slot is free
    pub slots_full : Taken l home slot_count → EntrySlots es (k + 1) l
    slots_full T = record {
      low = λ p i q. omega (arith, S.low p i q);
      stands = λ i b h from inside free. ⊎_elim
          (λ w.
          let z : home_of (nth es i).name ≡ home = ap (λ (x : ℕ). home_of (nth es x).name) (omega (arith, h, w)) in
          absurd (false≢true (ap is_some (sym free) ∙ T.each b (omega (arith, z, from)) inside)))
          (λ w. S.stands i b w from inside free)
          (le_or_lt k i);
    }

    module _ (p : ℕ) (F : FreeFor es k l (nth es k).name p) (long : length l ≡ slot_count) where
      abbrev l' : List (Option ℕ)
      l' = set l p (Some k)

      here : get_or l' p None ≡ Some k
      here = get_or-set_same l p (Some k) None (omega (arith, F.inside, long))

      other : (q : ℕ) → (q ≡ p → ⊥) → get_or l' q None ≡ get_or l q None
      other q d = get_or-set_other l p q (Some k) None d

      low' : (q i : ℕ) → get_or l' q None ≡ Some i → i < k + 1
      low' q i has = by (eqb q p) refl
        where
          by : (t : Bool) → eqb q p ≡ t → i < k + 1
          by true e = omega (arith, number_same k i (sym here ∙ ap (λ (x : ℕ). get_or l' x None) (sym (eqb-true q p e)) ∙ has))
          by false e = omega (arith, S.low q i (sym (other q (eqb-false q p e)) ∙ has))

      -- a slot that is free still was free before, and is not the one that is taken now
      module _ (b : ℕ) (inside : b < slot_count) (free : get_or l' b None ≡ None) where
        not_here : b ≡ p → ⊥
        not_here z = none_some (sym free ∙ ap (λ (x : ℕ). get_or l' x None) z ∙ here)

        was_free : get_or l b None ≡ None
        was_free = sym (other b not_here) ∙ free

        has_still : (i : ℕ) → HasSlot l i (home_of (nth es i).name) b → HasSlot l' i (home_of (nth es i).name) b
        has_still i own =
            let apart : (own.slot ≡ p → ⊥) = λ z. none_some (sym F.free ∙ ap (λ (x : ℕ). get_or l x None) (sym z) ∙ own.has) in
            record { slot = own.slot; from = own.from; to = own.to; has = other own.slot apart ∙ own.has }

        stands_still : (i : ℕ) → i < k → home_of (nth es i).name ≤ b → ∥ HasSlot l' i (home_of (nth es i).name) b ∥₁
        stands_still i h from = ∥∥₁_map (S.stands i b h from inside was_free) (has_still i)

        stands_new : home ≤ b → ∥ HasSlot l' k home b ∥₁
        stands_new from = ∣ record { slot = p; from = F.from; to = ⊎_elim behind (λ w. w) (le_or_lt b p); has = here } ∣₁
          where
            behind : b ≤ p → p < b
            behind w = absurd (false≢true (ap is_some (sym was_free) ∙ F.taken.each b from (omega (arith, w, not_here))))

      pub slots_set : EntrySlots es (k + 1) l'
      slots_set = record {
        low = low';
        stands = λ i b h from inside free. ⊎_elim
            (λ w.
            let z : k ≡ i = omega (arith, h, w) in
            subst (λ (x : ℕ). home_of (nth es x).name ≤ b → ∥ HasSlot l' x (home_of (nth es x).name) b ∥₁) z (stands_new b inside free) from)
            (λ w. stands_still b inside free i w from)
            (le_or_lt k i);
      }

-- ---- the map check

-- an entry that none before it has the name of is the first of its name
first_new : (es : List Entry) (j : ℕ) → j < length es → ((i : ℕ) → i < j → same_bytes (nth es i).name (nth es j).name ≡ false)
    → true ≡ eqb (find_entry es (nth es j).name) j
unfolding find_entry
first_new es j h none =
    let test : ℕ → Bool = λ i. same_bytes (nth es i).name (nth es j).name in
    sym (eq-eqb (find_entry es (nth es j).name) j (first_only test 0 j (length es) (omega arith) h (same_self (nth es j).name) (λ i a b. none i b)))

first_repeated : (es : List Entry) (i j : ℕ) → i < j → same_bytes (nth es i).name (nth es j).name ≡ true → false ≡ eqb (find_entry es (nth es j).name) j
unfolding find_entry
first_repeated es i j h e =
    let low = first_low (λ k. same_bytes (nth es k).name (nth es j).name) 0 (length es) (omega arith) i (omega arith) e in
    sym (ne_eqb (find_entry es (nth es j).name) j (λ z. omega (arith, h, z, low)))

-- each of the first k entries is the first of its name
abbrev pub firsts_below : List Entry → ℕ → Bool
firsts_below es k = all_below (λ j. eqb (find_entry es (nth es j).name) j) k

-- the search for the name of entry j has answered r
pub record Searched (es : List Entry) (l : List (Option ℕ)) (j : ℕ) (r : Option Probed) : Type 0 where
  pub inside : j < length es
  pub slots : EntrySlots es j l
  pub answer : Probes es j l (nth es j).name r

module _ (es : List Entry) (l : List (Option ℕ)) where
  pub searched : (j : ℕ) → j < length es → EntrySlots es j l → (name : List ℕ) → name ≡ (nth es j).name → (r : Option Probed) → Probes es j l name r
      → Searched es l j r
  searched j h S name own r P = record { inside = h; slots = S; answer = subst (λ (n : List ℕ). Probes es j l n r) own P }

  module _ {j : ℕ} {r : Option Probed} (N : Searched es l j r) where
    came : (q : Option Probed) → r ≡ q → Probes es j l (nth es j).name q
    came q e = subst (Probes es j l (nth es j).name) e N.answer

    pub indexed_free : length l ≡ slot_count → (p : ℕ) → r ≡ Some (Free p) → (m : List (Option ℕ)) → m ≡ set l p (Some j) → EntryIndexed es j true m
    indexed_free long p e m is =
        let free : FreeFor es j l (nth es j).name p = came (Some (Free p)) e in
        record { is = first_new es j N.inside free.none; slots = λ _. subst (EntrySlots es (j + 1)) (sym is) (slots_set es j l N.slots p free long) }

    pub indexed_found : (i : ℕ) → r ≡ Some (Found i) → EntryIndexed es j false l
    indexed_found i e =
        let found : (i < j) × (same_bytes (nth es i).name (nth es j).name ≡ true) = came (Some (Found i)) e in
        record { is = first_repeated es i j found.0 found.1; slots = λ q. absurd (false≢true q) }

    pub indexed_exhausted : r ≡ None → (t : Bool) → t ≡ eqb (find_entry es (nth es j).name) j → EntryIndexed es j t l
    indexed_exhausted e t q = record { is = q; slots = λ _. slots_full es j l N.slots (came None e) }

  pub entries_repeated : (j : ℕ) (r : Bool) → j < length es → EntryIndexed es j r l → r ≡ false → EntriesIndexed es false l
  entries_repeated j r h I repeated = record { is = by (distinct es) refl; slots = λ q. absurd (false≢true q) }
    where
      by : (t : Bool) → distinct es ≡ t → false ≡ t
      by true q = absurd (false≢true (sym repeated ∙ I.is ∙ eq-eqb (find_entry es (nth es j).name) j (entry_first es q j h)))
      by false q = refl

  pub entries_next : (j : ℕ) (r : Bool) → true ≡ firsts_below es j → EntryIndexed es j r l → r ≡ true → true ≡ firsts_below es (j + 1)
  entries_next j r firsts I good = sym good ∙ below_next _ j true r firsts I.is

  pub entries_indexed : (k : ℕ) → length es ≤ k → k ≤ length es → true ≡ firsts_below es k → EntrySlots es k l → EntriesIndexed es true l
  entries_indexed k h g firsts S =
      let z : k ≡ length es = omega arith in
      record { is = distinct_read es k true h g firsts; slots = λ _. subst (λ (n : ℕ). EntrySlots es n l) z S }

  -- ---- the entry of a name

  module _ (name : List ℕ) (n : ℕ) (whole : n ≡ length es) (r : Option Probed) (P : Probes es n l name r) where
    pub find_free : (p : ℕ) → r ≡ Some (Free p) → None ≡ found_entry es name
    unfolding find_entry
    find_free p e =
        let free : FreeFor es n l name p = subst (Probes es n l name) e P in
        let test : ℕ → Bool = λ j. same_bytes (nth es j).name name in
        let past = first_over test 0 n (length es) (omega arith) (omega (arith, whole)) (λ i a b. free.none i b) in
        found_none es name (omega (arith, whole, past, first_from test n (length es)))

    pub find_found : distinct es ≡ true → (j : ℕ) → r ≡ Some (Found j) → Some j ≡ found_entry es name
    find_found different j e =
        let found : (j < n) × (same_bytes (nth es j).name name ≡ true) = subst (Probes es n l name) e P in
        let inside : j < length es = omega (arith, found.0, whole) in
        found_some es name j inside (sym (ap (find_entry es) (sym (same_equal (nth es j).name name found.1)) ∙ entry_first es different j inside))

-- ---- the map check

module _ (names entries : List ℕ) (l : List (Option ℕ)) where
  pub checked_no : false ≡ map_check names entries → MapChecked names entries None l
  checked_no e = record { is = e; map = λ m q. absurd (false≢true (ap is_some q)); index = λ m q. absurd (false≢true (ap is_some q)) }

  pub checked_repeated : (es : List Entry) (r : Bool) → EntriesIndexed es r l → (r ≡ distinct es → r ≡ map_check names entries) → r ≡ false
      → MapChecked names entries None l
  checked_repeated es r I f bad = checked_no (sym bad ∙ f I.is)

  pub checked_yes : (m : NameMap) → map_in m ≡ entries_of names entries → (r : Bool) → EntriesIndexed (map_in m) r l
      → (r ≡ distinct (map_in m) → r ≡ map_check names entries) → r ≡ true → MapChecked names entries (Some m) l
  checked_yes m is r I f good = record {
    is = sym good ∙ f I.is;
    map = λ n q. ap map_in (sym (same n q)) ∙ is;
    index = λ n q. subst (λ (x : NameMap). EntryIndex (map_in x) l) (same n q) (record { different = sym I.is ∙ good; slots = I.slots good });
  }
    where
      same : (n : NameMap) → Some m ≡ Some n → m ≡ n
      same n q = ap (λ (o : Option NameMap). unwrap_or o m) q
