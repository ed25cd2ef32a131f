-- An accepted link wrote the linked rules over area 2, so the linked sheet is the sheet with linked rules; and its map passed the map's check.
use Rattle.std.proofs.lemmas.Bool.{and_parts}
use Rattle.std.specs.Prelude.{Ok, Err}
use mathlib.Core.Path.{◌≡◌, refl, sym, ap, ◌∙◌}
use mathlib.Core.Bool.{Bool, true, false, cond, ◌&&◌}
use mathlib.Core.List.{List, []}
use mathlib.Core.Option.{some}
use Prim.Native.Nat.{ℕ, ◌*◌, ◌%◌}
use native.Mathlib.Omega.{arith}
use lib.Dec.{eqb, leb}
use lib.ListN.{length}
use Rattle.area.specs.declared.Rule.{Rule}
use Rattle.area.specs.Contents.{contents, rule_format, relaid}
use Rattle.parse.specs.Parse.{Contents}
use Rattle.sheet_check.specs.SheetCheck.{SheetBytes, name_in, decoded, sheet_check}
use Rattle.area.specs.Lists.{all}
use Rattle.link.specs.declared.LinkArea.TheVariants.{Unmapped, Unused}
use Rattle.link.specs.declared.LinkError.TheVariants.{BrokenSheet, BrokenMap, AreaFull}
use Rattle.name_map.specs.Map.{Entry, entry, nth, map_width, most_entries, map_format, entry_count, entries_of, id_of, name_inside, distinct, map_check}
use Rattle.link.specs.Link.{LinkAnswer, linked_answer, LinkLeft, link_left, link_rules, fits, unmapped, unused, link_all, link_checked, link_call}
use Rattle.link.proofs.LinkLaws.{linked_contents_lem, linked_passes, entry_id_lem}
use borrow.Author.Tests.{eqb-true}
use Rattle.run.specs.Run.{lexer_of}
use Rattle.machine.specs.Means.{EntryOf}
use Rattle.machine.specs.Demand.{linked_sheet}
use Rattle.machine.proofs.Options.{some_is, place_inside, place_has}
use Rattle.machine.proofs.Only.{Distinct}
use Rattle.machine.proofs.Operations.{linked_lexer}

is_linked : LinkAnswer → ℕ
is_linked (Ok x) = 1
is_linked (Err e) = 0

module _ (b : SheetBytes) (names entries x7 x8 : List ℕ) (p q : ℕ) (accepted : (link_call b names entries x7 x8).answer ≡ linked_answer p q) where
  linked_area : (link_call b names entries x7 x8).area2 ≡ relaid rule_format b.area2 (link_rules (name_in b) (entries_of names entries) (decoded b).rules)
  unfolding link_call link_checked link_all is_linked
  linked_area =
      go (sheet_check b) (map_check names entries) (fits (unmapped (name_in b) (entries_of names entries) (decoded b).rules) x7)
      (fits (unused (name_in b) (entries_of names entries) (decoded b).rules) x8)
      accepted
    where
      done : LinkLeft
      done =
          let name : Rule → List ℕ = name_in b in
          let es : List Entry = entries_of names entries in
          link_all name (linked_answer (length (unmapped name es (decoded b).rules)) (length (unused name es (decoded b).rules)))
          (decoded b).rules es b.area2 x7 x8

      left : LinkAnswer → LinkLeft
      left a = link_left a b.area2 x7 x8

      go : (t u v w : Bool)
          → (cond t (cond u (cond v (cond w done (left (Err (AreaFull Unused)))) (left (Err (AreaFull Unmapped)))) (left (Err BrokenMap))) (left (Err BrokenSheet))).answer ≡ linked_answer p q
          → (cond t (cond u (cond v (cond w done (left (Err (AreaFull Unused)))) (left (Err (AreaFull Unmapped)))) (left (Err BrokenMap))) (left (Err BrokenSheet))).area2
          ≡ relaid rule_format b.area2 (link_rules (name_in b) (entries_of names entries) (decoded b).rules)
      go true true true true e = refl
      go true true true false e = absurd (omega (arith, ap is_linked e))
      go true true false w e = absurd (omega (arith, ap is_linked e))
      go true false v w e = absurd (omega (arith, ap is_linked e))
      go false u v w e = absurd (omega (arith, ap is_linked e))

  -- what it holds
  abbrev relinked : Contents
  relinked =
      let c : Contents = decoded b in
      let rules : List Rule = link_rules (name_in b) (entries_of names entries) c.rules in
      record { states = c.states; rules = rules; lists = c.lists; text = c.text; expected = c.expected; faults = c.faults }

  linked_checks : sheet_check b ≡ true → sheet_check (linked_sheet b (link_call b names entries x7 x8)) ≡ true
  linked_checks passed = rw linked_area (linked_passes (name_in b) (entries_of names entries) b passed)

  linked_decodes : sheet_check b ≡ true → decoded (linked_sheet b (link_call b names entries x7 x8)) ≡ relinked
  linked_decodes passed = rw linked_area (linked_contents_lem (name_in b) (entries_of names entries) b passed)

  -- ---- the map of an accepted link

  map_checked : map_check names entries ≡ true
  unfolding link_call is_linked
  map_checked = go (sheet_check b) (map_check names entries) accepted
    where
      checked : LinkLeft
      checked = link_checked (name_in b) (decoded b).rules (entries_of names entries) b.area2 x7 x8

      go : (t u : Bool) → (cond t (cond u checked (link_left (Err BrokenMap) b.area2 x7 x8)) (link_left (Err BrokenSheet) b.area2 x7 x8)).answer
          ≡ linked_answer p q → u ≡ true
      go t true e = refl
      go true false e = absurd (omega (arith, ap is_linked e))
      go false false e = absurd (omega (arith, ap is_linked e))

  -- the tests that its bytes are whole entries, that they are few, and that names lie inside
  abbrev whole_test : Bool
  whole_test = eqb (length entries % map_width) 0

  abbrev few_test : Bool
  few_test = leb (entry_count entries) most_entries

  abbrev inside_test : Bool
  inside_test = all (name_inside (length names)) (contents map_format entries (entry_count entries))

  map_distinct : distinct (entries_of names entries) ≡ true
  unfolding map_check
  map_distinct = (and_parts (whole_test && few_test && inside_test) (distinct (entries_of names entries)) map_checked).1

  -- its bytes are whole entries
  map_whole : length entries ≡ entry_count entries * 6
  unfolding map_check
  map_whole =
      let tests = (and_parts (whole_test && few_test && inside_test) (distinct (entries_of names entries)) map_checked).0 in
      let whole = (and_parts whole_test few_test (and_parts (whole_test && few_test) inside_test tests).0).0 in
      omega (arith, eqb-true (length entries % map_width) 0 whole)

  -- it has one id for a name
  map_differ : Distinct (entries_of names entries)
  map_differ = record { one = λ name x y u v. some_is x y (sym (id_is name x u) ∙ id_is name y v) }
    where
      id_is : (name : List ℕ) (x : ℕ) → EntryOf (entries_of names entries) name x → id_of (entries_of names entries) name ≡ some x
      id_is name x (j, e, at, same, is) =
          let es : List Entry = entries_of names entries in
          let here : nth es j ≡ e = place_has es j e (entry [] 0) at in
          ap (id_of es) (sym (ap (λ (y : Entry). y.name) here ∙ same))
          ∙ entry_id_lem es map_distinct j (place_inside es j e at)
          ∙ ap some (ap (λ (y : Entry). y.id) here ∙ is)

-- ---- both

-- a sheet e is the sheet b with rules linked by a map, which is of whole entries and has one id for a name
pub record Relinked (b : SheetBytes) (names entries : List ℕ) (e : SheetBytes) : Type 0 where
  pub checks : sheet_check e ≡ true
  pub reads : lexer_of (decoded e) ≡ linked_lexer (name_in b) (entries_of names entries) (decoded b)
  pub whole : length entries ≡ entry_count entries * 6
  pub differ : Distinct (entries_of names entries)

pub relink : (b : SheetBytes) (names entries x7 x8 : List ℕ) (p q : ℕ) → (link_call b names entries x7 x8).answer ≡ linked_answer p q → sheet_check b ≡ true
    → Relinked b names entries (linked_sheet b (link_call b names entries x7 x8))
relink b names entries x7 x8 p q accepted passed = record {
  checks = linked_checks b names entries x7 x8 p q accepted passed;
  reads = ap lexer_of (linked_decodes b names entries x7 x8 p q accepted passed);
  whole = map_whole b names entries x7 x8 p q accepted;
  differ = map_differ b names entries x7 x8 p q accepted;
}
