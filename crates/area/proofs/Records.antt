-- The five records: how many bytes each has, and that record k of the bytes is record k of the list. A record is made of its list of fields,
-- so that the list that is read back gives the record that is read back.
-- Assumes nothing.
use mathlib.Core.Path.{◌≡◌, refl, ap}
use mathlib.Core.List.{List}
use Prim.Native.Nat.{ℕ, ◌<◌}
use lib.ListN.{length, get_or}
use Rattle.area.specs.declared.State.{State}
use Rattle.area.specs.declared.Rule.{Rule}
use Rattle.area.specs.declared.Expected.{Expected}
use Rattle.area.specs.declared.Fault.{Fault}
use Rattle.area.specs.Records.{state_width, rule_width, entry_width, expected_width, fault_width}
use Rattle.area.specs.Records.{state_fields, rule_fields, entry_fields, expected_fields, fault_fields}
use Rattle.area.specs.Records.{state_bytes, rule_bytes, entry_bytes, expected_bytes, fault_bytes}
use Rattle.area.specs.Records.{state_of, rule_of, expected_of, fault_of, state_at, rule_at, entry_at, expected_at, fault_at}
use Rattle.area.specs.Records.{nth_state, nth_rule, nth_entry, nth_expected, nth_fault}
use Rattle.area.specs.Areas.{Area}
use Rattle.area.proofs.Decode.{list_of, fields_wide, fields_read}

state_has : (x : State) → length (state_fields x) ≡ 3
unfolding state_fields
state_has x = refl

rule_has : (x : Rule) → length (rule_fields x) ≡ 14
unfolding rule_fields
rule_has x = refl

entry_has : (id : ℕ) → length (entry_fields id) ≡ 1
unfolding entry_fields
entry_has id = refl

expected_has : (x : Expected) → length (expected_fields x) ≡ 2
unfolding expected_fields
expected_has x = refl

fault_has : (x : Fault) → length (fault_fields x) ≡ 4
unfolding fault_fields
fault_has x = refl

pub state_wide : (x : State) → length (state_bytes x) ≡ state_width
state_wide = fields_wide state_fields 3 state_has

pub rule_wide : (x : Rule) → length (rule_bytes x) ≡ rule_width
rule_wide = fields_wide rule_fields 14 rule_has

pub entry_wide : (id : ℕ) → length (entry_bytes id) ≡ entry_width
entry_wide = fields_wide entry_fields 1 entry_has

pub expected_wide : (x : Expected) → length (expected_bytes x) ≡ expected_width
expected_wide = fields_wide expected_fields 2 expected_has

pub fault_wide : (x : Fault) → length (fault_bytes x) ≡ fault_width
fault_wide = fields_wide fault_fields 4 fault_has

module _ {limit cap n : ℕ} {l : List ℕ} (k : ℕ) where
  pub state_read : {xs : List State} → Area state_bytes state_width limit cap l n xs → k < n → state_at l k ≡ nth_state xs k
  unfolding state_at state_of state_fields list_of
  state_read a h = ap (λ (fs : List ℕ). state_of (λ j. get_or fs j 0)) (fields_read state_fields 3 state_has _ k a h)

  pub rule_read : {xs : List Rule} → Area rule_bytes rule_width limit cap l n xs → k < n → rule_at l k ≡ nth_rule xs k
  unfolding rule_at rule_of rule_fields list_of
  rule_read a h = ap (λ (fs : List ℕ). rule_of (λ j. get_or fs j 0)) (fields_read rule_fields 14 rule_has _ k a h)

  pub entry_read : {xs : List ℕ} → Area entry_bytes entry_width limit cap l n xs → k < n → entry_at l k ≡ nth_entry xs k
  unfolding entry_at entry_fields list_of
  entry_read a h = ap (λ (fs : List ℕ). get_or fs 0 0) (fields_read entry_fields 1 entry_has _ k a h)

  pub expected_read : {xs : List Expected} → Area expected_bytes expected_width limit cap l n xs → k < n → expected_at l k ≡ nth_expected xs k
  unfolding expected_at expected_of expected_fields list_of
  expected_read a h = ap (λ (fs : List ℕ). expected_of (λ j. get_or fs j 0)) (fields_read expected_fields 2 expected_has _ k a h)

  pub fault_read : {xs : List Fault} → Area fault_bytes fault_width limit cap l n xs → k < n → fault_at l k ≡ nth_fault xs k
  unfolding fault_at fault_of fault_fields list_of
  fault_read a h = ap (λ (fs : List ℕ). fault_of (λ j. get_or fs j 0)) (fields_read fault_fields 4 fault_has _ k a h)
