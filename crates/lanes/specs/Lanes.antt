-- The quick tests of a sheet's records: what a lane of eight fields is asked, and what limits the records keep where a test passes. 01 has
-- none of it: a record is good by its tests in the sheet check, and where a quick test does not pass nothing is known.
use Rattle.std.specs.Prelude.{◌≡◌, ℕ, ◌+◌, ◌*◌, ◌%◌, ◌<◌, ◌≤◌, min, List, length, bit_and, bit_or, slice_index}
use Rattle.area.specs.declared.Rule.{Rule}
use Rattle.area.specs.Bytes.{field_from}
use Rattle.area.specs.Records.{nth_rule, nth_entry}
use Rattle.lanes.specs.declared.Lane.{Lane}
use Rattle.lanes.specs.declared.Limits.{Limits}
use Rattle.lanes.specs.declared.Bounds.{Bounds}

-- how many lanes there are
abbrev pub lane_count : ℕ
lane_count = 8

-- lane j of the rule at a place: its field j, and those 1, 4, 5 and 6 behind it
unfoldable pub lane_at : List ℕ → ℕ → ℕ → Lane
lane_at l at j = record {
  here = field_from l at j;
  next = field_from l at (j + 1);
  place = field_from l at (j + 4);
  from = field_from l at (j + 5);
  last = field_from l at (j + 6);
}

-- two fields keep their limits; the first limit is the next field where heres is 0 and order has every bit
pub record FieldsWithin (x : Lane) (heres order lasts : ℕ) : Type 0 where
  pub here : x.here ≤ bit_or heres (bit_and x.next order)
  pub last : x.last ≤ lasts

-- a sum of two fields, cut at 65,535, keeps its limit, which wraps at 65,536: sums at place 0, and that with more at place 1
pub record SumWithin (x : Lane) (sums more : ℕ) : Type 0 where
  pub inside : min (x.from + x.last) 65535 ≤ (sums + (x.place * more) % 65536) % 65536

-- lane j of the rule at a place keeps its limits
module _ (l : List ℕ) (limits : Limits) (at j : ℕ) where
  abbrev pub FieldsAt : Type 0
  FieldsAt = FieldsWithin (lane_at l at j) (slice_index limits.heres j) (slice_index limits.order j) (slice_index limits.lasts j)

  abbrev pub SumAt : Type 0
  SumAt = SumWithin (lane_at l at j) (slice_index limits.sums j) (slice_index limits.more j)

-- eight numbers y, of which the first m are joined to those of x: one is 0 only where it was, and where its lane has what is asked
pub record JoinedTo (Asked : ℕ → Type 0) (m : ℕ) (x y : List ℕ) : Type 0 where
  pub long : length y ≡ lane_count
  pub kept : (j : ℕ) → slice_index y j ≡ 0 → slice_index x j ≡ 0
  pub done : (j : ℕ) → j < m → slice_index y j ≡ 0 → Asked j

-- the first m lanes of the rule at a place are joined to the numbers x, each by its fields and its sum
pub record Joined (l : List ℕ) (limits : Limits) (at m : ℕ) (x y : List ℕ) : Type 0 where
  pub fields : JoinedTo (FieldsAt l limits at) m x y
  pub totals : JoinedTo (SumAt l limits at) m x y

-- each of the numbers is 0
pub record AllZero (x : List ℕ) : Type 0 where
  pub each : (j : ℕ) → j < lane_count → slice_index x j ≡ 0

-- a rule keeps these bounds; its text does by its place
pub record RuleWithin (b : Bounds) (x : Rule) : Type 0 where
  pub has_id : x.has_id ≤ 1
  pub named : x.named ≤ 1
  pub place : x.place ≤ 1
  pub span_ordered : x.span_start ≤ x.span_end
  pub span_inside : x.span_end ≤ b.source
  pub name_inside : x.name_from + x.name_length ≤ b.source
  pub text_source : x.place ≡ 0 → x.text_from + x.text_length ≤ b.source
  pub text_rewritten : x.place ≡ 1 → x.text_from + x.text_length ≤ b.text
  pub list_inside : x.list_from + x.list_count ≤ b.entries
  pub operation : x.operation ≤ 3
  pub target : x.target ≤ b.highest

-- so does each of these rules
pub record RulesWithin (rules : List Rule) (b : Bounds) : Type 0 where
  pub each : (k : ℕ) → k < length rules → RuleWithin b (nth_rule rules k)

-- the entries of a list from one number up to before another are at most highest
pub record EntriesWithin (ids : List ℕ) (from to highest : ℕ) : Type 0 where
  pub each : (k : ℕ) → from ≤ k → k < to → nth_entry ids k ≤ highest
