-- What a link leaves of a sheet: only the marks and ids of named rules change, the sheet passes its check as before, and a named rule whose name
-- is in the map has the map's id. Each is a law of one rule, carried over the list and then to the bytes.
use Rattle.std.specs.Prelude.{Err}
use mathlib.Core.Path.{◌≡◌, refl, sym, ap, ◌∙◌}
use mathlib.Core.Bool.{Bool, true, false, cond, ◌&&◌}
use mathlib.Core.List.{List, []}
use mathlib.Core.Option.{Option, none, some}
use Prim.Native.Nat.{ℕ, ◌*◌, ◌≤◌, ◌<◌}
use native.Mathlib.Omega.{arith}
use borrow.Author.Tests.{le-leb, lt-ltb}
use lib.Dec.{leb}
use lib.ListN.{length, drop, length-append, length-drop}
use Rattle.area.specs.declared.State.{State}
use Rattle.area.specs.declared.Rule.{Rule}
use Rattle.area.specs.declared.Expected.{Expected}
use Rattle.area.specs.Bytes.{bytes}
use Rattle.area.specs.Records.{rule_width, nth_rule}
use Rattle.area.specs.Contents.{contents, state_format, rule_format, entry_format, text_format, expected_format, relaid}
use Rattle.area.proofs.Fields.{bytes-length}
use Rattle.area.proofs.Contents.{rule_sound}
use Rattle.parse.specs.Parse.{Contents}
use Rattle.sheet_check.specs.declared.Sizes.{Sizes}
use Rattle.sheet_check.specs.SheetCheck.{SheetBytes, sheet_bytes, name_in, count, decoded, sizes_of, mark, ordered, within, declared, text_bytes, good_rule, good_records, sheet_check}
use Rattle.area.proofs.All.{all_map}
use Rattle.sheet_check.proofs.Checked.{GoodRecords, good_rule_lem, checked_sizes, checked_long, checked_records, rules_count}
use Rattle.link.specs.declared.LinkArea.TheVariants.{Unmapped, Unused}
use Rattle.link.specs.declared.LinkError.TheVariants.{BrokenSheet, BrokenMap, AreaFull}
use Rattle.name_map.specs.Map.{Entry, entries_of, nth, id_at, id_of, distinct, map_check}
use Rattle.link.specs.Link.{is_named, with_id, with_found, link_rule, link_rules, LinkAnswer, linked_answer, LinkLeft, link_left, fits, unmapped, unused, link_all, link_checked, link_call}
use Rattle.name_map.proofs.Maps.{entry_first}
use Rattle.link.proofs.Outcomes.{link_count, link_at, rules_read_back}

-- ---- a rule

module _ (name : Rule → List ℕ) (es : List Entry) where
  found_changes : (o : Option ℕ) (x : Rule) → with_found o x ≡ with_id (with_found o x).has_id (with_found o x).id x
  unfolding with_found with_id
  found_changes (some i) x = refl
  found_changes none x = refl

  -- only has id and id change
  pub link_changes_ids : (x : Rule) → link_rule name es x ≡ with_id (link_rule name es x).has_id (link_rule name es x).id x
  unfolding link_rule with_id
  link_changes_ids x = by (is_named x)
    where
      by : (t : Bool)
          → cond t (with_found (id_of es (name x)) x) x
          ≡ with_id (cond t (with_found (id_of es (name x)) x) x).has_id (cond t (with_found (id_of es (name x)) x) x).id x
      by true = found_changes (id_of es (name x)) x
      by false = refl

  -- an unnamed rule keeps them too
  pub link_keeps_unnamed : (x : Rule) → is_named x ≡ false → link_rule name es x ≡ x
  unfolding link_rule
  link_keeps_unnamed x e = rw e

  -- a named rule whose name is in the map has the map's id
  pub link_gives_id : (x : Rule) (i : ℕ) → is_named x ≡ true → id_of es (name x) ≡ some i → ((link_rule name es x).has_id ≡ 1) × ((link_rule name es x).id ≡ i)
  unfolding link_rule with_found with_id
  link_gives_id x i e q = (rw (e, q), rw (e, q))

  found_mark : (o : Option ℕ) (x : Rule) → mark (with_found o x).has_id ≡ true
  unfolding with_found with_id
  found_mark (some i) x = refl
  found_mark none x = refl

  link_mark : (x : Rule) → mark x.has_id ≡ true → mark (link_rule name es x).has_id ≡ true
  unfolding link_rule
  link_mark x e = by (is_named x)
    where
      by : (t : Bool) → mark (cond t (with_found (id_of es (name x)) x) x).has_id ≡ true
      by true = found_mark (id_of es (name x)) x
      by false = e

-- ---- a sheet

-- the same sheet with other bytes in area 2
abbrev pub with_area2 : SheetBytes → List ℕ → SheetBytes
with_area2 b l = sheet_bytes b.source b.area1 l b.area3 b.area4 b.area5 b.counts

mark_good : (z : Sizes) (has i : ℕ) (x : Rule) → mark has ≡ true → good_rule z x ≡ true → good_rule z (with_id has i x) ≡ true
unfolding good_rule with_id
mark_good z has i x m e = ap rest m ∙ ap rest (sym (le-leb x.has_id 1 (good_rule_lem z x e).has_id)) ∙ e
  where
    rest : Bool → Bool
    rest marked =
        marked && mark x.named && mark x.place
        && ordered x.span_start x.span_end z.source
        && within x.name_from x.name_length z.source
        && within x.text_from x.text_length (text_bytes z x.place)
        && within x.list_from x.list_count z.entries
        && leb x.operation 3 && declared z.states x.target

module _ (name : Rule → List ℕ) (es : List Entry) where
  pub link_good : (z : Sizes) (x : Rule) → good_rule z x ≡ true → good_rule z (link_rule name es x) ≡ true
  link_good z x e =
      ap (good_rule z) (link_changes_ids name es x)
      ∙ mark_good z (link_rule name es x).has_id (link_rule name es x).id x (link_mark name es x (le-leb x.has_id 1 (good_rule_lem z x e).has_id)) e

  records_good : (z : Sizes) (xs : List State) (rs : List Rule) (ids : List ℕ) (ns : List Expected)
      → GoodRecords z xs rs ids ns → good_records z xs (link_rules name es rs) ids ns ≡ true
  unfolding good_records link_rules
  records_good z xs rs ids ns g = rw (g.states, all_map (good_rule z) (link_rule name es) (link_good z) rs g.rules, g.lists, g.expected)

  -- contents whose rules are linked
  abbrev linked_contents : Contents → Contents
  linked_contents c = record { states = c.states; rules = link_rules name es c.rules; lists = c.lists; text = c.text; expected = c.expected; faults = c.faults }

  module _ (b : SheetBytes) (passed : sheet_check b ≡ true) where
    -- area 2 with the linked rules
    abbrev linked_area2 : List ℕ
    linked_area2 = relaid rule_format b.area2 (link_rules name es (decoded b).rules)

    linked_rules : contents rule_format linked_area2 (count b 2) ≡ link_rules name es (decoded b).rules
    unfolding decoded
    linked_rules = rules_read_back name es b.area2 (count b 2) linked_area2 refl

    -- what the sheet holds afterwards
    pub linked_contents_lem : decoded (with_area2 b linked_area2) ≡ linked_contents (decoded b)
    unfolding decoded
    linked_contents_lem = λ i. record {
      states = contents state_format b.area1 (count b 1);
      rules = linked_rules i;
      lists = contents entry_format b.area3 (count b 3);
      text = contents text_format b.area4 (count b 4);
      expected = contents expected_format b.area5 (count b 5);
      faults = [];
    }

    linked-length : length linked_area2 ≡ length b.area2
    unfolding relaid
    linked-length =
        let ys : List Rule = link_rules name es (decoded b).rules in
        let size : length ys ≡ count b 2 = link_count name es (decoded b).rules ∙ rules_count b in
        let long : count b 2 * rule_width ≤ length b.area2 = (checked_long b passed).long2 in
        let both = length-append (bytes rule_format.write ys) (drop (length ys * rule_width) b.area2) in
        let front = bytes-length rule_format.write rule_width rule_sound.wide ys in
        omega (arith, both, front, length-drop (length ys * rule_width) b.area2, size, long)

    linked_sizes : sizes_of (with_area2 b linked_area2) ≡ sizes_of b
    linked_sizes = rw linked-length

    pub linked_passes : sheet_check (with_area2 b linked_area2) ≡ true
    unfolding sheet_check
    linked_passes =
        let c : Contents = decoded b in
        rw (linked_sizes, checked_sizes b passed, linked_contents_lem) (records_good (sizes_of b) c.states c.rules c.lists c.expected (checked_records b passed))

-- ---- the call

module _ (b : SheetBytes) (names entries x7 x8 : List ℕ) where
  abbrev es : List Entry
  es = entries_of names entries

  -- what is left where areas 7 and 8 have room
  abbrev done : LinkLeft
  done =
      let xs : List Rule = (decoded b).rules in
      link_all (name_in b) (linked_answer (length (unmapped (name_in b) es xs)) (length (unused (name_in b) es xs))) xs es b.area2 x7 x8

  -- what is left by a refusal
  abbrev refused : LinkAnswer → LinkLeft
  refused a = link_left a b.area2 x7 x8

  -- area 2 is as it was, or it has the linked rules
  module _ (P : List ℕ → Type 0) (p : P b.area2) where
    by_areas : (t u : Bool) → P (relaid rule_format b.area2 (link_rules (name_in b) es (decoded b).rules))
        → P (cond t (cond u done (refused (Err (AreaFull Unused)))) (refused (Err (AreaFull Unmapped)))).area2
    unfolding link_all
    by_areas true true q = q
    by_areas true false q = p
    by_areas false u q = p

    by_checks : (t u : Bool) (y : LinkLeft) → P y.area2 → P (cond t (cond u y (refused (Err BrokenMap))) (refused (Err BrokenSheet))).area2
    by_checks true true y q = q
    by_checks true false y q = p
    by_checks false u y q = p

    pub link_area2 : P (relaid rule_format b.area2 (link_rules (name_in b) es (decoded b).rules)) → P (link_call b names entries x7 x8).area2
    unfolding link_call link_checked
    link_area2 q =
        by_checks (sheet_check b) (map_check names entries) (link_checked (name_in b) (decoded b).rules es b.area2 x7 x8)
        (by_areas (fits (unmapped (name_in b) es (decoded b).rules) x7) (fits (unused (name_in b) es (decoded b).rules) x8) q)

  -- a sheet that passes the check still passes after a link, whatever the answer
  pub link_passes : sheet_check b ≡ true → sheet_check (with_area2 b (link_call b names entries x7 x8).area2) ≡ true
  link_passes passed = link_area2 (λ l. sheet_check (with_area2 b l) ≡ true) passed (linked_passes (name_in b) es b passed)

-- ---- a map that passed its check

module _ (es : List Entry) (different : distinct es ≡ true) where
  -- the id of an entry's name is that entry's
  pub entry_id_lem : (j : ℕ) → j < length es → id_of es (nth es j).name ≡ some (nth es j).id
  unfolding id_of id_at
  entry_id_lem j h = rw (entry_first es different j h, lt-ltb j (length es) h)

-- ---- a map that holds every rule's name

-- named rule k has the id that the map gives its name
module _ (name : Rule → List ℕ) (es : List Entry) (xs : List Rule)
    (holds : (k : ℕ) → k < length xs → is_named (nth_rule xs k) ≡ true → (i : ℕ) × (id_of es (name (nth_rule xs k)) ≡ some i)) where
  pub link_gives_ids : (k : ℕ) → k < length xs → is_named (nth_rule xs k) ≡ true
      → ((nth_rule (link_rules name es xs) k).has_id ≡ 1) × (id_of es (name (nth_rule xs k)) ≡ some (nth_rule (link_rules name es xs) k).id)
  link_gives_ids k h e =
      let i = holds k h e in
      let g = link_gives_id name es (nth_rule xs k) i.0 e i.1 in
      (ap (λ (x : Rule). x.has_id) (link_at name es xs k) ∙ g.0, i.1 ∙ ap some (sym (ap (λ (x : Rule). x.id) (link_at name es xs k) ∙ g.1)))
