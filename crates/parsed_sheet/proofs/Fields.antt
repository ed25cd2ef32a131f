-- Each number of the contents of an accepted parse fits a field: offsets lie within a source of at most 65,535 bytes, and the other numbers are
-- places in lists that are no longer than that.
use Prim.Native.Nat.{ℕ, ◌≤◌, ◌<◌}
use mathlib.Core.Path.{◌≡◌, refl}
use mathlib.Core.Bool.{Bool, true, false, cond}
use mathlib.Core.List.{List, [], ◌∷◌}
use native.Mathlib.Omega.{arith}
use borrow.Author.Tests.{lt-ltb}
use lib.Dec.{eqb}
use lib.ListN.{length}
use Rattle.area.specs.declared.State.{State}
use Rattle.area.specs.declared.Rule.{Rule}
use Rattle.area.specs.declared.Expected.{Expected}
use Rattle.area.specs.Records.{state_of, rule_of, expected_of, state_fields, rule_fields, expected_fields}
use Rattle.section.specs.Request.{Request}
use Rattle.parse.specs.Parse.{Contents, Caps, outcome, accepted}
use Rattle.area.specs.Lists.{all}
use Rattle.parsed_sheet.specs.Accepted.{StateHolds, ExpectedHolds, EntryHolds, RuleHolds, FieldsFit, is_field}
use Rattle.area.proofs.Elements.{all_pass}
use Rattle.parsed_sheet.proofs.Accepting.{accepted_holds, accepted_short}

field_more : (v : ℕ) (vs : List ℕ) → v ≤ 65535 → all is_field vs ≡ true → all is_field (v ∷ vs) ≡ true
unfolding all
field_more v vs h g = rw (lt-ltb v 65536 (omega arith)) g

no_fields : all is_field [] ≡ true
unfolding all
no_fields = refl

module _ (n : ℕ) (short : n ≤ 65535) where
  state_fields_lem : (j : ℕ) (x : State) → StateHolds n j x → all is_field (state_fields x) ≡ true
  unfolding state_fields
  state_fields_lem j x h =
      field_more x.start _ (omega (arith, h.ordered, h.inside))
      (field_more x.end _ (omega (arith, h.inside))
      (field_more x.exclusive _ (omega (arith, h.exclusive)) no_fields))

  expected_fields_lem : (j : ℕ) (x : Expected) → ExpectedHolds n j x → all is_field (expected_fields x) ≡ true
  unfolding expected_fields
  expected_fields_lem j x h =
      field_more x.start _ (omega (arith, h.ordered, h.inside))
      (field_more x.end _ (omega (arith, h.inside)) no_fields)

  either_short : (t : Bool) (b : ℕ) → b ≤ 65535 → cond t b n ≤ 65535
  either_short true b h = h
  either_short false b h = short

  rule_fields_lem : (m a b j : ℕ) → m ≤ 64 → a ≤ 65535 → b ≤ 65535 → j < 2048 → (x : Rule) → RuleHolds n m a b j x → all is_field (rule_fields x) ≡ true
  unfolding rule_fields
  rule_fields_lem m a b j hm ha hb hj x h =
      let t : cond (eqb x.place 1) b n ≤ 65535 = either_short (eqb x.place 1) b hb in
      field_more x.has_id _ (omega (arith, h.has_id))
      (field_more x.id _ (omega (arith, h.id))
      (field_more x.named _ (omega (arith, h.named))
      (field_more x.span_start _ (omega (arith, h.ordered, h.inside))
      (field_more x.span_end _ (omega (arith, h.inside))
      (field_more x.name_from _ (omega (arith, h.name))
      (field_more x.name_length _ (omega (arith, h.name))
      (field_more x.place _ (omega (arith, h.place))
      (field_more x.text_from _ (omega (arith, h.text, t))
      (field_more x.text_length _ (omega (arith, h.text, t))
      (field_more x.list_from _ (omega (arith, h.list))
      (field_more x.list_count _ (omega (arith, h.list))
      (field_more x.operation _ (omega (arith, h.operation))
      (field_more x.target _ (omega (arith, h.target)) no_fields)))))))))))))

-- each number of the contents of an accepted parse fits a field
pub accepted_fields : (asked : Request) (k : Caps) (c : Contents) → outcome asked k ≡ accepted c → FieldsFit c
accepted_fields asked k c is =
    let h = accepted_holds asked k c is in
    let n = length asked.source in
    let m = length c.states in
    let a = length c.lists in
    let b = length c.text in
    let short : n ≤ 65535 = accepted_short asked k c is in
    let states-few : m ≤ 64 = h.states.fits.few in
    let entries-few : a ≤ 65535 = h.lists.fits.few in
    let text-few : b ≤ 65535 = h.text.fits.few in
    record {
      states = all_pass (StateHolds n) (λ x. all is_field (state_fields x)) (state_of (λ _. 0)) c.states (λ j x _. state_fields_lem n short j x) h.states.each;
      rules = all_pass (RuleHolds n m a b) (λ x. all is_field (rule_fields x)) (rule_of (λ _. 0)) c.rules
          (λ j x l. rule_fields_lem n short m a b j states-few entries-few text-few (omega (arith, l, h.rules.fits.few)) x) h.rules.each;
      lists = all_pass (EntryHolds m) is_field 0 c.lists (λ j id _ l. lt-ltb id 65536 (omega (arith, l, states-few))) h.lists.each;
      expected = all_pass (ExpectedHolds n) (λ x. all is_field (expected_fields x)) (expected_of (λ _. 0)) c.expected
          (λ j x _. expected_fields_lem n short j x) h.expected.each;
    }
