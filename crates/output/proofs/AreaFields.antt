-- The two-byte fields of an area: read from two bytes, and printed one behind the other.
use Prim.Native.Nat.{ℕ, ◌+◌, ◌*◌}
use mathlib.Core.List.{List}
use Rattle.area.specs.Bytes.{field_at, field_from}
use Rattle.output.specs.declared.Text.{Text}
use Rattle.output.specs.Output.{printed_field, printed_fields_at}
use Rattle.output.specs.Text.{Appends}
use Rattle.output.proofs.Appending.{joined_none, joined_next}

-- ---- a loop over the fields of a record

module _ (l : List ℕ) (at : ℕ) {a : Text} where
  pub fields_none : Appends a a (printed_fields_at l at 0)
  unfolding printed_fields_at
  fields_none = joined_none (λ (j : ℕ). printed_field (field_from l at j))

  pub fields_next : (j : ℕ) {b c : Text} → Appends b c (printed_field (field_at l (at + 2 * j))) → Appends a b (printed_fields_at l at j)
      → Appends a c (printed_fields_at l at (j + 1))
  unfolding printed_fields_at field_from
  fields_next j p q = joined_next (λ (i : ℕ). printed_field (field_from l at i)) {k = j} p q

pub ruleset field_printing = (fields_none, fields_next)
