-- One pass over the rules. The names of a map are distinct, so an entry has a rule's name exactly if it is the entry that was found for it. A named
-- rule marks that entry alone; so the entries without a mark are the unused ones.
use Rattle.std.specs.Prelude.{Option, Some, None, is_some}
use Rattle.std.specs.Option.{unwrap_or}
use mathlib.Core.Path.{◌≡◌, refl, sym, ap, subst, ◌∙◌}
use mathlib.Core.Bool.{Bool, true, false, not, ◌&&◌, and-true, false≢true, and-false}
use mathlib.Core.List.{List}
use mathlib.Core.Logic.{⊎_elim}
use Prim.Native.Nat.{ℕ, ◌+◌, ◌≤◌, ◌<◌}
use native.Mathlib.Numerals.{add-one}
use native.Mathlib.Omega.{arith}
use borrow.Author.Tests.{eqb-true, eqb-false, ne_eqb, lt-ltb, le-ltb}
use lib.Dec.{eqb}
use lib.ListN.{length, get_or, set, take, replicate, length-set, length-replicate, get_or-replicate, get_or-eq_default}
use lib.Seq.{get_or-set_same, get_or-set_other, take-suc, take-length}
use Rattle.characters.proofs.Tests.{le_or_lt}
use Rattle.characters.proofs.Firsts.{first_passes}
use Rattle.text.specs.Range.{same_bytes}
use Rattle.text.proofs.Ranges.{same_equal}
use Rattle.area.specs.declared.Rule.{Rule}
use Rattle.area.specs.Records.{most_rules, nth_rule}
use Rattle.area.specs.Contents.{rule_format}
use Rattle.area.specs.Lists.{all, numbers}
use Rattle.area.proofs.All.{all_one_more}
use Rattle.area.proofs.Numbers.{numbers_same, count_none, count_yes, count_no}
use Rattle.name_map.specs.Map.{most_entries, Entry, nth, find_entry, found_entry, id_at, id_of, distinct}
use Rattle.link.specs.Link.{is_named, is_none, is_unmapped, has_that_name, is_unused, unmapped, unused}
use Rattle.link.specs.Matches.{unmarked, FoundInside, EntriesFound, MatchedInto}
use Rattle.name_map.proofs.Maps.{some_found, none_found, entry_first}

-- ---- an entry by a name

module _ (es : List Entry) (different : distinct es ≡ true) (bytes : List ℕ) (j : ℕ) (h : j < length es) where
  found_has : find_entry es bytes ≡ j → same_bytes (nth es j).name bytes ≡ true
  unfolding find_entry
  found_has q =
      let test : ℕ → Bool = λ i. same_bytes (nth es i).name bytes in
      ap test (sym q) ∙ first_passes test 0 (length es) (omega arith) (omega (arith, q, h))

  other_lacks : (find_entry es bytes ≡ j → ⊥) → same_bytes (nth es j).name bytes ≡ false
  other_lacks d = by (same_bytes (nth es j).name bytes) refl
    where
      by : (t : Bool) → same_bytes (nth es j).name bytes ≡ t → t ≡ false
      by true e = absurd (d (ap (find_entry es) (sym (same_equal (nth es j).name bytes e)) ∙ entry_first es different j h))
      by false e = refl

  -- an entry has the name exactly if it is the one that is found
  entry_named : same_bytes (nth es j).name bytes ≡ eqb (find_entry es bytes) j
  entry_named = by (eqb (find_entry es bytes) j) refl
    where
      by : (t : Bool) → eqb (find_entry es bytes) j ≡ t → same_bytes (nth es j).name bytes ≡ t
      by true e = found_has (eqb-true (find_entry es bytes) j e)
      by false e = other_lacks (eqb-false (find_entry es bytes) j e)

-- ---- what is asked of a rule

module _ (name : Rule → List ℕ) (es : List Entry) (x : Rule) where
  module _ (unnamed : is_named x ≡ false) where
    unnamed_mapped : is_unmapped name es x ≡ false
    unfolding is_unmapped
    unnamed_mapped = rw unnamed

    unnamed_lacks : (bytes : List ℕ) → has_that_name name bytes x ≡ false
    unfolding has_that_name
    unnamed_lacks bytes = rw unnamed

  module _ (named : is_named x ≡ true) (j : ℕ) (at : j ≡ find_entry es (name x)) where
    found_mapped : j < length es → is_unmapped name es x ≡ false
    unfolding is_unmapped id_of id_at is_none
    found_mapped h = rw (named, ← at, lt-ltb j (length es) h)

    missing_unmapped : length es ≤ j → is_unmapped name es x ≡ true
    unfolding is_unmapped id_of id_at is_none
    missing_unmapped h = rw (named, ← at, le-ltb j (length es) h)

    named_has : distinct es ≡ true → (i : ℕ) → i < length es → has_that_name name (nth es i).name x ≡ eqb j i
    unfolding has_that_name
    named_has different i h = rw (named, at) (entry_named es different (name x) i h)

-- ---- the entries that were found for the first k rules

-- no mark is set and nothing is found at first, within the array and past its end
blank_at : {A : Type 0} (n i : ℕ) (d : A) → get_or (replicate n d) i d ≡ d
blank_at {A} n i d = ⊎_elim past inside (le_or_lt n i)
  where
    past : n ≤ i → get_or (replicate n d) i d ≡ d
    past h = get_or-eq_default {A = A} (replicate n d) d {n = i} (omega (arith, h, length-replicate {A = A} n d))

    inside : i < n → get_or (replicate n d) i d ≡ d
    inside h = get_or-replicate {A = A} n i d d h

module _ (name : Rule → List ℕ) (es : List Entry) (xs : List Rule) where
  -- nothing is found so far for the rules from k on
  pub record Finding (k : ℕ) (found : List (Option ℕ)) : Type 0 where
    pub kept : EntriesFound name es xs k found
    pub inside : FoundInside es found
    pub later : (i : ℕ) → k ≤ i → get_or found i None ≡ None
    pub long : length found ≡ most_rules

  found_none : Finding 0 (replicate most_rules None)
  found_none = record {
    kept = record { each = λ i h. absurd (omega (arith, h)) };
    inside = record { each = λ i j q. absurd (false≢true (ap is_some (sym (blank_at {A = Option ℕ} most_rules i None) ∙ q))) };
    later = λ i h. blank_at {A = Option ℕ} most_rules i None;
    long = length-replicate {A = Option ℕ} most_rules None;
  }

  module _ {k : ℕ} {found : List (Option ℕ)} (F : Finding k found) where
    -- the rules before k, and rule k
    kept_next : (m : List (Option ℕ)) → ((i : ℕ) → i < k → get_or m i None ≡ get_or found i None)
        → (is_named (nth_rule xs k) ≡ true → get_or m k None ≡ found_entry es (name (nth_rule xs k))) → EntriesFound name es xs (k + 1) m
    kept_next m same here = record {
      each = λ i h. ⊎_elim
          (λ g.
          let q : k ≡ i = omega (arith, h, g) in
          subst (λ (j : ℕ). is_named (nth_rule xs j) ≡ true → get_or m j None ≡ found_entry es (name (nth_rule xs j))) q here)
          (λ g named. same i g ∙ F.kept.each i g named)
          (le_or_lt k i);
    }

    found_kept : (is_named (nth_rule xs k) ≡ true → None ≡ found_entry es (name (nth_rule xs k))) → Finding (k + 1) found
    found_kept f = record {
      kept = kept_next found (λ i h. refl) (λ named. F.later k (omega arith) ∙ f named);
      inside = F.inside;
      later = λ i h. F.later i (omega (arith, h));
      long = F.long;
    }

    found-set : (j : ℕ) → k < most_rules → j < length es → Some j ≡ found_entry es (name (nth_rule xs k)) → Finding (k + 1) (set found k (Some j))
    found-set j few h is = record {
      kept = kept_next (set found k (Some j)) (λ i g. other i (λ q. omega (arith, g, q))) (λ _. here ∙ is);
      inside = record { each = λ i n q. inside i n q (eqb i k) refl };
      later = λ i g. other i (λ q. omega (arith, g, q)) ∙ F.later i (omega (arith, g));
      long = length-set found k (Some j) ∙ F.long;
    }
      where
        here : get_or (set found k (Some j)) k None ≡ Some j
        here = get_or-set_same found k (Some j) None (omega (arith, few, F.long))

        other : (i : ℕ) → (i ≡ k → ⊥) → get_or (set found k (Some j)) i None ≡ get_or found i None
        other i d = get_or-set_other found k i (Some j) None d

        inside : (i n : ℕ) → get_or (set found k (Some j)) i None ≡ Some n → (t : Bool) → eqb i k ≡ t → n < length es
        inside i n q true e =
            let at : Some j ≡ Some n = sym here ∙ ap (λ (m : ℕ). get_or (set found k (Some j)) m None) (sym (eqb-true i k e)) ∙ q in
            omega (arith, h, ap (λ (o : Option ℕ). unwrap_or o 0) at)
        inside i n q false e = F.inside.each i n (sym (other i (eqb-false i k e)) ∙ q)

-- ---- the marks of the entries that the first k rules have

pub record EntriesMarked (name : Rule → List ℕ) (es : List Entry) (xs : List Rule) (k : ℕ) (used : List Bool) : Type 0 where
  pub long : length used ≡ most_entries
  pub each : (j : ℕ) → j < length es → not (get_or used j false) ≡ is_unused name (take k xs) (nth es j).name

-- a mark is set, and the others are as they were
mark_set : (used : List Bool) (i j : ℕ) → i < length used → not (get_or (set used i true) j false) ≡ not (get_or used j false) && not (eqb i j)
mark_set used i j h = by (eqb i j) refl
  where
    by : (t : Bool) → eqb i j ≡ t → not (get_or (set used i true) j false) ≡ not (get_or used j false) && not t
    by true e =
        ap (λ (m : ℕ). not (get_or (set used i true) m false)) (sym (eqb-true i j e)) ∙ ap not (get_or-set_same used i true false h)
        ∙ sym (and-false (not (get_or used j false)))
    by false e = ap not (get_or-set_other used i j true false (λ q. eqb-false i j e (sym q))) ∙ sym (and-true (not (get_or used j false)))

module _ (name : Rule → List ℕ) (es : List Entry) (xs : List Rule) where
  marked_none : EntriesMarked name es xs 0 (replicate most_entries false)
  unfolding is_unused all
  marked_none = record {
    long = length-replicate {A = Bool} most_entries false;
    each = λ j h. ap not (blank_at most_entries j false);
  }

  module _ {k : ℕ} {used : List Bool} (U : EntriesMarked name es xs k used) (h : k < length xs) where
    abbrev x : Rule
    x = nth_rule xs k

    -- a mark stays off where the rule does not have the name
    marked_next : (m : List Bool) → length m ≡ length used
        → ((j : ℕ) → j < length es → not (get_or m j false) ≡ not (get_or used j false) && not (has_that_name name (nth es j).name x))
        → EntriesMarked name es xs (k + 1) m
    unfolding is_unused
    marked_next m long f = record {
      long = long ∙ U.long;
      each = λ j g.
          let test : Rule → Bool = λ y. not (has_that_name name (nth es j).name y) in
          f j g ∙ ap (λ (t : Bool). t && test x) (U.each j g) ∙ sym (all_one_more test (take k xs) x)
          ∙ ap (all test) (sym (take-suc xs k rule_format.blank h) ∙ ap (λ (n : ℕ). take n xs) (sym (add-one k)));
    }

    marked_kept : ((j : ℕ) → j < length es → has_that_name name (nth es j).name x ≡ false) → EntriesMarked name es xs (k + 1) used
    marked_kept f =
        marked_next used refl (λ j g. sym (ap (λ (t : Bool). not (get_or used j false) && not t) (f j g) ∙ and-true (not (get_or used j false))))

    module _ (different : distinct es ≡ true) (named : is_named x ≡ true) (j : ℕ) (at : j ≡ find_entry es (name x)) where
      marked-set : j < most_entries → EntriesMarked name es xs (k + 1) (set used j true)
      marked-set few =
          marked_next (set used j true) (length-set used j true)
          (λ i g. mark_set used j i (omega (arith, few, U.long))
          ∙ ap (λ (t : Bool). not (get_or used i false) && not t) (sym (named_has name es x named j at different i g)))

      marked_missing : length es ≤ j → EntriesMarked name es xs (k + 1) used
      marked_missing l = marked_kept (λ i g. named_has name es x named j at different i g ∙ ne_eqb j i (λ q. omega (arith, l, g, q)))

-- the entries without a mark are the unused ones
unmarked_unused : (name : Rule → List ℕ) (es : List Entry) (xs : List Rule) (used : List Bool) → EntriesMarked name es xs (length xs) used
    → unmarked used (length es) ≡ unused name es xs
unfolding unused
unmarked_unused name es xs used U =
    numbers_same (λ j. not (get_or used j false)) (λ j. is_unused name xs (nth es j).name) (length es)
    (λ j h. U.each j h ∙ ap (λ (ys : List Rule). is_unused name ys (nth es j).name) (take-length xs))

-- ---- the loop over the rules

module _ (name : Rule → List ℕ) (es : List Entry) (xs : List Rule) where
  abbrev test : ℕ → Bool
  test k = is_unmapped name es (nth_rule xs k)

  pub record Matching (k n : ℕ) (found : List (Option ℕ)) (used : List Bool) : Type 0 where
    pub missing : n ≡ length (numbers (λ j. is_unmapped name es (nth_rule xs j)) k)
    pub entries : Finding name es xs k found
    pub marks : EntriesMarked name es xs k used

  pub matching_none : (found : List (Option ℕ)) (used : List Bool) → found ≡ replicate most_rules None → used ≡ replicate most_entries false
      → Matching 0 0 found used
  matching_none found used no_entry no_mark = record {
    missing = count_none test;
    entries = subst (Finding name es xs 0) (sym no_entry) (found_none name es xs);
    marks = subst (EntriesMarked name es xs 0) (sym no_mark) (marked_none name es xs);
  }

  module _ {k n : ℕ} {found : List (Option ℕ)} {used : List Bool} (M : Matching k n found used) where
    module _ (h : k < length xs) (x : Rule) (is : x ≡ nth_rule xs k) where
      here : (P : Rule → Type 0) → P x → P (nth_rule xs k)
      here P p = subst P is p

      pub matching_unnamed : is_named x ≡ false → Matching (k + 1) n found used
      matching_unnamed unnamed =
          let e : is_named (nth_rule xs k) ≡ false = here (λ y. is_named y ≡ false) unnamed in
          record {
            missing = count_no test k n M.missing (unnamed_mapped name es (nth_rule xs k) e);
            entries = found_kept name es xs M.entries (λ named. absurd (false≢true (sym e ∙ named)));
            marks = marked_kept name es xs M.marks h (λ j _. unnamed_lacks name es (nth_rule xs k) e (nth es j).name);
          }

      module _ (different : distinct es ≡ true) (named : is_named x ≡ true) where
        named_here : is_named (nth_rule xs k) ≡ true
        named_here = here (λ y. is_named y ≡ true) named

        pub matching_found : (j : ℕ) → Some j ≡ found_entry es (name x) → k < most_rules → j < most_entries
            → (m : List (Option ℕ)) → m ≡ set found k (Some j) → Matching (k + 1) n m (set used j true)
        matching_found j is_found few room m is_set =
            let own : Some j ≡ found_entry es (name (nth_rule xs k)) = here (λ y. Some j ≡ found_entry es (name y)) is_found in
            let at = some_found es (name (nth_rule xs k)) j own in
            record {
              missing = count_no test k n M.missing (found_mapped name es (nth_rule xs k) named_here j at.1 at.0);
              entries = subst (Finding name es xs (k + 1)) (sym is_set) (found-set name es xs M.entries j few at.0 own);
              marks = marked-set name es xs M.marks h different named_here j at.1 room;
            }

        pub matching_missing : None ≡ found_entry es (name x) → Matching (k + 1) (n + 1) found used
        matching_missing is_found =
            let own : None ≡ found_entry es (name (nth_rule xs k)) = here (λ y. None ≡ found_entry es (name y)) is_found in
            let past : length es ≤ find_entry es (name (nth_rule xs k)) = none_found es (name (nth_rule xs k)) own in
            record {
              missing = count_yes test k n M.missing (missing_unmapped name es (nth_rule xs k) named_here (find_entry es (name (nth_rule xs k))) refl past);
              entries = found_kept name es xs M.entries (λ _. own);
              marks = marked_missing name es xs M.marks h different named_here (find_entry es (name (nth_rule xs k))) refl past;
            }

    pub matched : length xs ≤ k → k ≤ length xs → MatchedInto name es xs n found used
    unfolding unmapped
    matched h g =
        let q : k ≡ length xs = omega (arith, h, g) in
        record {
          missing = M.missing ∙ ap (λ (m : ℕ). length (numbers test m)) q;
          kept = subst (λ (m : ℕ). EntriesFound name es xs m found) q M.entries.kept;
          inside = M.entries.inside;
          without_mark = unmarked_unused name es xs used (subst (λ (m : ℕ). EntriesMarked name es xs m used) q M.marks);
        }
