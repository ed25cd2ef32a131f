-- The contents of an accepted parse pass the sheet check, since what holds of each record is what the check asks of it.
use Prim.Native.Nat.{ℕ, ◌+◌, ◌<◌}
use mathlib.Core.Path.{◌≡◌, sym}
use mathlib.Core.Bool.{true}
use mathlib.Core.List.{List, []}
use mathlib.Core.Logic.{⊎_elim}
use native.Mathlib.Omega.{arith}
use borrow.Author.Tests.{le-leb, lt-ltb}
use lib.Dec.{leb, ltb}
use lib.ListN.{length}
use Rattle.characters.proofs.Tests.{le_or_lt}
use Rattle.area.specs.declared.State.{State}
use Rattle.area.specs.declared.Rule.{Rule}
use Rattle.area.specs.declared.Expected.{Expected}
use Rattle.area.specs.Records.{state_of, rule_of, expected_of, nth_rule}
use Rattle.section.specs.Request.{Request}
use Rattle.parse.specs.Parse.{Contents, Caps, outcome, accepted, sheet_left}
use Rattle.sheet_check.specs.declared.Sizes.{Sizes}
use Rattle.sheet_check.specs.SheetCheck.{sizes_of, good_counts, declared, text_bytes, good_state, good_rule, good_expected, good_records}
use Rattle.area.specs.Lists.{all}
use Rattle.names.specs.Names.{name_of}
use Rattle.parsed_sheet.specs.Accepted.{StateHolds, ExpectedHolds, EntryHolds, RuleHolds, ContentsHold, ContentsFit, is_byte, sheet_left_by}
use Rattle.area.proofs.Elements.{all_pass}
use Rattle.parsed_sheet.proofs.Accepting.{accepted_holds}

-- ---- each record

module _ (z : Sizes) where
  state_good : (j : ℕ) (x : State) → StateHolds z.source j x → good_state z x ≡ true
  unfolding good_state
  state_good j x h = rw (le-leb x.start x.end h.ordered, le-leb x.end z.source h.inside, le-leb x.exclusive 1 h.exclusive)

  expected_good : (j : ℕ) (x : Expected) → ExpectedHolds z.source j x → good_expected z x ≡ true
  unfolding good_expected
  expected_good j x h = rw (le-leb x.start x.end h.ordered, le-leb x.end z.source h.inside)

  rule_good : (j : ℕ) (x : Rule) → RuleHolds z.source z.states z.entries z.text j x → good_rule z x ≡ true
  unfolding good_rule
  rule_good j x h =
      let named_small : leb x.named 1 ≡ true = le-leb _ _ h.named in
      let place_small : leb x.place 1 ≡ true = le-leb _ _ h.place in
      let span_ordered : leb x.span_start x.span_end ≡ true = le-leb _ _ h.ordered in
      let span_inside : leb x.span_end z.source ≡ true = le-leb _ _ h.inside in
      let name_inside : leb (x.name_from + x.name_length) z.source ≡ true = le-leb _ _ h.name in
      let text_inside : leb (x.text_from + x.text_length) (text_bytes z x.place) ≡ true = le-leb _ _ h.text in
      let list_inside : leb (x.list_from + x.list_count) z.entries ≡ true = le-leb _ _ h.list in
      let operation-small : leb x.operation 3 ≡ true = le-leb _ _ h.operation in
      let target_declared : ltb x.target z.states ≡ true = lt-ltb _ _ h.target in
      rw (h.has_id, named_small, place_small, span_ordered, span_inside, name_inside, text_inside, list_inside, operation-small, target_declared)

-- ---- the contents

module _ (s : List ℕ) (k : Caps) (c : Contents) (h : ContentsHold s k c) where
  -- the sizes of the sheet that is left
  abbrev z : Sizes
  z = sizes_of (sheet_left_by s (sheet_left c k))

  states_good : all (good_state z) c.states ≡ true
  states_good = all_pass (StateHolds z.source) (good_state z) (state_of (λ _. 0)) c.states (λ j x _. state_good z j x) h.states.each

  rules_good : all (good_rule z) c.rules ≡ true
  rules_good =
      all_pass (RuleHolds z.source z.states z.entries z.text) (good_rule z) (rule_of (λ _. 0)) c.rules
      (λ j x _. rule_good z j x) h.rules.each

  entries_good : all (declared z.states) c.lists ≡ true
  entries_good = all_pass (EntryHolds z.states) (declared z.states) 0 c.lists (λ j id _. lt-ltb id z.states) h.lists.each

  all_expected_good : all (good_expected z) c.expected ≡ true
  all_expected_good =
      all_pass (ExpectedHolds z.source) (good_expected z) (expected_of (λ _. 0)) c.expected (λ j x _. expected_good z j x) h.expected.each

  records_good : good_records z c.states c.rules c.lists c.expected ≡ true
  unfolding good_records
  records_good = rw (states_good, rules_good, entries_good, all_expected_good)

  counts_good : good_counts z.states z.rules ≡ true
  unfolding good_counts
  counts_good = rw (le-leb 1 z.states h.states.some, le-leb z.states 64 h.states.fits.few, le-leb z.rules 2048 h.rules.fits.few)

module _ (asked : Request) (k : Caps) (c : Contents) (is : outcome asked k ≡ accepted c) where
  -- the contents of an accepted parse pass the check of counts and of records
  pub accepted_counts : good_counts (length c.states) (length c.rules) ≡ true
  accepted_counts = counts_good asked.source k c (accepted_holds asked k c is)

  pub accepted_good : good_records (sizes_of (sheet_left_by asked.source (sheet_left c k))) c.states c.rules c.lists c.expected ≡ true
  accepted_good = records_good asked.source k c (accepted_holds asked k c is)

  -- no two rules of an accepted parse have the same name
  pub accepted_names_distinct : (i j : ℕ) → i < length c.rules → j < length c.rules → (i ≡ j → ⊥)
      → (nth_rule c.rules i).named ≡ 1 → (nth_rule c.rules j).named ≡ 1
      → name_of asked.source (nth_rule c.rules i) ≡ name_of asked.source (nth_rule c.rules j) → ⊥
  accepted_names_distinct i j hi hj d ni nj q =
      let names = (accepted_holds asked k c is).rules.distinct in
      ⊎_elim (λ l. names.differ i j (omega arith) hj ni nj q) (λ l. names.differ j i l hi nj ni (sym q)) (le_or_lt i j)

  -- each list of an accepted parse fits its area
  pub accepted_fits : ContentsFit k c
  accepted_fits =
      let h = accepted_holds asked k c is in
      record { states = h.states.fits; rules = h.rules.fits; lists = h.lists.fits; text = h.text.fits; expected = h.expected.fits }

  -- rewritten text consists of bytes
  pub accepted_text_bytes : all is_byte c.text ≡ true
  accepted_text_bytes = (accepted_holds asked k c is).text.bytes

  -- an accepted parse has no faults
  pub accepted_faultless : c.faults ≡ []
  accepted_faultless = (accepted_holds asked k c is).faults
