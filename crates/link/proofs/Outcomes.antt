-- The area of the linked rules is read back as the linked rules, so those without an id are the unmapped ones; then a law for each way out
-- of the call.
use Rattle.std.specs.Prelude.{Ok, Err}
use Rattle.std.proofs.lemmas.Bool.{and_parts}
use mathlib.Core.Path.{◌≡◌, refl, sym, ap, ◌∙◌}
use mathlib.Core.Bool.{Bool, true, false, cond, ◌&&◌}
use mathlib.Core.List.{List, map}
use mathlib.Core.Option.{Option, none, some}
use Prim.Native.Nat.{ℕ, ◌*◌, ◌%◌, ◌≤◌}
use borrow.Author.Tests.{leb-true}
use lib.Dec.{eqb, leb}
use lib.ListN.{length, get_or, length-map, get_or-map}
use Rattle.area.specs.declared.Rule.{Rule}
use Rattle.area.specs.Records.{rule_width, most_rules, rule_of, nth_rule}
use Rattle.area.specs.Contents.{contents, rule_format, entry_format, relaid, laid}
use Rattle.area.proofs.Contents.{rule_sound, contents_count}
use Rattle.sheet_check.specs.SheetCheck.{SheetBytes, name_in, count, decoded, sheet_check}
use Rattle.area.specs.Lists.{all, numbers}
use Rattle.area.proofs.Relaid.{rule_local, relaid_contents}
use Rattle.area.proofs.Numbers.{numbers_same}
use Rattle.sheet_check.proofs.Checked.{checked_long, checked_counts}
use Rattle.link.specs.declared.LinkArea.{LinkArea}
use Rattle.link.specs.declared.LinkArea.TheVariants.{Unmapped, Unused}
use Rattle.link.specs.declared.LinkError.{LinkError}
use Rattle.link.specs.declared.LinkError.TheVariants.{BrokenSheet, BrokenMap, AreaFull}
use Rattle.name_map.specs.Map.{map_width, most_entries, map_format, entry_count, Entry, entries_of, id_of, name_inside, distinct, map_check}
use Rattle.link.specs.Link.{is_named, with_id, with_found, link_rule, link_rules, is_none, is_unmapped, is_unlinked, unmapped, unlinked, unused, LinkAnswer, linked_answer, link_left, fits, room_for, link_all, link_checked, link_call}

-- ---- linked rules

unnamed_linked : (x : Rule) → is_named x ≡ false → is_unlinked x ≡ false
unfolding is_unlinked
unnamed_linked x e = rw e

module _ (name : Rule → List ℕ) (es : List Entry) where
  pub link_count : (xs : List Rule) → length (link_rules name es xs) ≡ length xs
  unfolding link_rules
  link_count xs = length-map xs (link_rule name es)

  link_blank : rule_of (λ _. 0) ≡ link_rule name es (rule_of (λ _. 0))
  unfolding link_rule rule_of
  link_blank = refl

  pub link_at : (xs : List Rule) (k : ℕ) → nth_rule (link_rules name es xs) k ≡ link_rule name es (nth_rule xs k)
  unfolding link_rules
  link_at xs k = ap (λ (d : Rule). get_or (map (link_rule name es) xs) k d) link_blank ∙ get_or-map (link_rule name es) xs k (rule_of (λ _. 0))

  -- a rule that is linked has no id where it is unmapped
  found_case : (x : Rule) (o : Option ℕ) → is_named x ≡ true → is_unlinked (with_found o x) ≡ is_none o
  unfolding is_unlinked with_found with_id is_none
  found_case x (some i) e = rw e
  found_case x none e = rw e

  named_case : (x : Rule) (t : Bool) → is_named x ≡ t → is_unlinked (cond t (with_found (id_of es (name x)) x) x) ≡ t && is_none (id_of es (name x))
  named_case x true e = found_case x (id_of es (name x)) e
  named_case x false e = unnamed_linked x e

  pub unlinked_rule : (x : Rule) → is_unlinked (link_rule name es x) ≡ is_unmapped name es x
  unfolding link_rule is_unmapped
  unlinked_rule x = named_case x (is_named x) refl

  pub unlinked_rules : (xs : List Rule) → unlinked (link_rules name es xs) ≡ unmapped name es xs
  unfolding unlinked unmapped
  unlinked_rules xs =
      numbers_same (λ k. is_unlinked (nth_rule (link_rules name es xs) k)) (λ k. is_unmapped name es (nth_rule xs k))
      (length (link_rules name es xs)) (λ k h. ap is_unlinked (link_at xs k) ∙ unlinked_rule (nth_rule xs k))
      ∙ ap (numbers (λ k. is_unmapped name es (nth_rule xs k))) (link_count xs)

-- ---- the three areas

module _ (name : Rule → List ℕ) (es : List Entry) (x2 : List ℕ) (n : ℕ) (e2 : List ℕ)
    (is : e2 ≡ relaid rule_format x2 (link_rules name es (contents rule_format x2 n))) where
  pub rules_read_back : contents rule_format e2 n ≡ link_rules name es (contents rule_format x2 n)
  rules_read_back =
      ap (λ (l : List ℕ). contents rule_format l n) is
      ∙ relaid_contents rule_sound rule_local x2 (link_rules name es (contents rule_format x2 n)) n
      (sym (link_count name es (contents rule_format x2 n) ∙ contents_count rule_format x2 n))

  pub unlinked_left : unlinked (contents rule_format e2 n) ≡ unmapped name es (contents rule_format x2 n)
  unlinked_left = ap unlinked rules_read_back ∙ unlinked_rules name es (contents rule_format x2 n)

  pub all_written : (r : LinkAnswer) (x7 x8 e7 e8 : List ℕ)
      → e7 ≡ laid entry_format (length x7) (unlinked (contents rule_format e2 n)) → e8 ≡ laid entry_format (length x8) (unused name es (contents rule_format x2 n))
      → link_left r e2 e7 e8 ≡ link_all name r (contents rule_format x2 n) es x2 x7 x8
  unfolding link_all
  all_written r x7 x8 e7 e8 q7 q8 =
      let p7 = q7 ∙ ap (laid entry_format (length x7)) unlinked_left in
      λ i. link_left r (is i) (p7 i) (q8 i)

-- ---- areas 7 and 8 have room, or one of them has not

module _ (ns l : List ℕ) (m : ℕ) (area : LinkArea) (counted : m ≡ length ns) where
  room_is : room_for m l area ≡ cond (fits ns l) (Ok tt) (Err (AreaFull area))
  unfolding room_for fits
  room_is = rw counted

  pub room_left : (u : Unit {0}) → Ok u ≡ room_for m l area → fits ns l ≡ true
  room_left u e = by (fits ns l) (e ∙ room_is)
    where
      by : (t : Bool) → Ok u ≡ cond t (Ok (tt {0})) (Err (AreaFull area)) → t ≡ true
      by true q = refl
      by false q = cc

  pub room_full : (e : LinkError) → Err e ≡ room_for m l area → (fits ns l ≡ false) × (e ≡ AreaFull area)
  room_full e q = by (fits ns l) (q ∙ room_is)
    where
      by : (t : Bool) → Err e ≡ cond t (Ok (tt {0})) (Err (AreaFull area)) → (t ≡ false) × (e ≡ AreaFull area)
      by true q = cc
      by false q = (refl, cc)

module _ (name : Rule → List ℕ) (xs : List Rule) (es : List Entry) (x2 x7 x8 : List ℕ) (m : ℕ) (missing : m ≡ length (unmapped name es xs)) where
  pub short_7 : (e : LinkError) → Err e ≡ room_for m x7 Unmapped → link_left (Err e) x2 x7 x8 ≡ link_checked name xs es x2 x7 x8
  unfolding link_checked
  short_7 e q =
      let full = room_full (unmapped name es xs) x7 m Unmapped missing e q in
      rw (full.0, full.1)

  module _ (u : Unit {0}) (room : Ok u ≡ room_for m x7 Unmapped) (k : ℕ) (idle : k ≡ length (unused name es xs)) where
    pub short_8 : (e : LinkError) → Err e ≡ room_for k x8 Unused → link_left (Err e) x2 x7 x8 ≡ link_checked name xs es x2 x7 x8
    unfolding link_checked
    short_8 e q =
        let full = room_full (unused name es xs) x8 k Unused idle e q in
        rw (room_left (unmapped name es xs) x7 m Unmapped missing u room, full.0, full.1)

    pub none_short : (v : Unit {0}) → Ok v ≡ room_for k x8 Unused → link_all name (linked_answer m k) xs es x2 x7 x8 ≡ link_checked name xs es x2 x7 x8
    unfolding link_checked
    none_short v q =
        rw (room_left (unmapped name es xs) x7 m Unmapped missing u room, room_left (unused name es xs) x8 k Unused idle v q, ← missing, ← idle)

-- ---- the call

-- a map that passes its check has no more entries than a map may have
pub map_few : (names entries : List ℕ) → map_check names entries ≡ true → entry_count entries ≤ most_entries
unfolding map_check
map_few names entries e =
    let a1 : Bool = eqb (length entries % map_width) 0 in
    let a2 : Bool = leb (entry_count entries) most_entries in
    let a3 : Bool = all (name_inside (length names)) (contents map_format entries (entry_count entries)) in
    let a4 : Bool = distinct (entries_of names entries) in
    leb-true (entry_count entries) most_entries (and_parts a1 a2 (and_parts (a1 && a2) a3 (and_parts (a1 && a2 && a3) a4 e).0).0).1

-- the same of an answer of the check
pub call_entries : (names entries : List ℕ) (u : Bool) → u ≡ map_check names entries → u ≡ true → entry_count entries ≤ most_entries
call_entries names entries u says g = map_few names entries (sym says ∙ g)

module _ (b : SheetBytes) (t : Bool) (is : t ≡ sheet_check b) (h : t ≡ true) where
  passed : sheet_check b ≡ true
  passed = sym is ∙ h

  pub call_rules : (count b 2 ≤ most_rules) × (count b 2 * rule_width ≤ length b.area2)
  call_rules = ((checked_counts b passed).2, (checked_long b passed).long2)

module _ (b : SheetBytes) (names entries x7 x8 : List ℕ) (t : Bool) (is : t ≡ sheet_check b) where
  pub call_sheet : t ≡ false → link_left (Err BrokenSheet) b.area2 x7 x8 ≡ link_call b names entries x7 x8
  unfolding link_call
  call_sheet h = rw (← is, h)

  module _ (h : t ≡ true) where
    pub call_map : false ≡ map_check names entries → link_left (Err BrokenMap) b.area2 x7 x8 ≡ link_call b names entries x7 x8
    unfolding link_call
    call_map g = rw (passed b t is h, ← g)

    pub call_linked : true ≡ map_check names entries → (es : List Entry) → es ≡ entries_of names entries
        → link_checked (name_in b) (contents rule_format b.area2 (count b 2)) es b.area2 x7 x8 ≡ link_call b names entries x7 x8
    unfolding link_call decoded
    call_linked g es e = rw (passed b t is h, ← g, e)
