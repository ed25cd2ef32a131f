-- The records of a sheet: each area is long enough for its count where the sizes pass their test, and what is read of it is what the sheet is
-- decoded to.
use mathlib.Core.Path.{◌≡◌, ap, ◌∙◌}
use mathlib.Core.Bool.{true}
use mathlib.Core.List.{List}
use Prim.Native.Nat.{ℕ, ◌*◌, ◌≤◌}
use native.Mathlib.Omega.{arith}
use borrow.Author.Rules.{rules}
use lib.ListN.{length}
use Rattle.area.specs.declared.State.{State}
use Rattle.area.specs.declared.Rule.{Rule}
use Rattle.area.specs.declared.Expected.{Expected}
use Rattle.area.specs.Records.{state_width, rule_width, entry_width, expected_width}
use Rattle.area.specs.Contents.{contents, state_format, rule_format, entry_format, expected_format}
use Rattle.sheet_check.specs.declared.Sheet.{Sheet}
use Rattle.sheet_check.specs.declared.Sizes.{Sizes}
use Rattle.sheet_check.specs.SheetCheck.{decoded, sizes_of, sheet_check}
use Rattle.sheet_check.specs.Phrases.{lent_sheet, GoodSizes}
use Rattle.sheet_check.proofs.Checked.{checked_sizes}
use Rattle.sheet_check.proofs.Judging.{Long, sizes_long, sizes_counts}

module _ (s : Sheet) (z : Sizes) (of : z ≡ sizes_of (lent_sheet s)) where
  module _ (good : GoodSizes s) where
    long : Long (sizes_of (lent_sheet s))
    long = sizes_long (sizes_of (lent_sheet s)) good

    pub states_fit : z.states * state_width ≤ length s.states.now
    states_fit = omega (arith, long.long1, ap (λ (y : Sizes). y.states) of)

    pub rules_fit : z.rules * rule_width ≤ length s.rules.now
    rules_fit = omega (arith, long.long2, ap (λ (y : Sizes). y.rules) of)

    pub entries_fit : z.entries * entry_width ≤ length s.entries.now
    entries_fit = omega (arith, long.long3, ap (λ (y : Sizes). y.entries) of)

    pub expected_fit : z.expected * expected_width ≤ length s.expected.now
    expected_fit = omega (arith, long.long5, ap (λ (y : Sizes). y.expected) of)

    pub some_states : 1 ≤ z.states
    some_states = omega (arith, (sizes_counts (sizes_of (lent_sheet s)) good).0, ap (λ (y : Sizes). y.states) of)

  pub states_are : (xs : List State) → xs ≡ contents state_format s.states.now z.states → xs ≡ (decoded (lent_sheet s)).states
  unfolding decoded
  states_are xs e = e ∙ ap (λ (y : Sizes). contents state_format s.states.now y.states) of

  pub rules_are : (xs : List Rule) → xs ≡ contents rule_format s.rules.now z.rules → xs ≡ (decoded (lent_sheet s)).rules
  unfolding decoded
  rules_are xs e = e ∙ ap (λ (y : Sizes). contents rule_format s.rules.now y.rules) of

  pub entries_are : (xs : List ℕ) → xs ≡ contents entry_format s.entries.now z.entries → xs ≡ (decoded (lent_sheet s)).lists
  unfolding decoded
  entries_are xs e = e ∙ ap (λ (y : Sizes). contents entry_format s.entries.now y.entries) of

  pub expected_are : (xs : List Expected) → xs ≡ contents expected_format s.expected.now z.expected → xs ≡ (decoded (lent_sheet s)).expected
  unfolding decoded
  expected_are xs e = e ∙ ap (λ (y : Sizes). contents expected_format s.expected.now y.expected) of

-- a sheet that passed its check has good sizes
pub checked_fits : (s : Sheet) → sheet_check (lent_sheet s) ≡ true → GoodSizes s
checked_fits s passed = checked_sizes (lent_sheet s) passed

pub ruleset records_of = (rules, states_fit, rules_fit, entries_fit, expected_fit, some_states, states_are, rules_are, entries_are, expected_are)
