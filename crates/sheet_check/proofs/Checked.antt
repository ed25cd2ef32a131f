-- What a sheet that passed the check may be used for: the tests of its records as plain facts, and each record by its number, as the bytes
-- give it and as the lists do. The tests are joined, so each law takes the joint apart from its end.
use mathlib.Core.Path.{◌≡◌, subst}
use mathlib.Core.Bool.{Bool, true, cond, ◌&&◌}
use mathlib.Core.List.{List}
use Prim.Native.Nat.{ℕ, ◌+◌, ◌≤◌, ◌<◌}
use lib.Dec.{leb}
use lib.ListN.{length}
use borrow.Author.Tests.{leb-true, ltb-true, le-leb, lt-ltb, eq-eqb, ne_eqb}
use Rattle.std.proofs.lemmas.Bool.{and_parts}
use Rattle.area.specs.declared.State.{State}
use Rattle.area.specs.declared.Rule.{Rule}
use Rattle.area.specs.declared.Expected.{Expected}
use Rattle.area.specs.Records.{most_states, most_rules, state_at, rule_at, entry_at, expected_at}
use Rattle.area.specs.Contents.{state_format, rule_format, entry_format, text_format, expected_format}
use Rattle.area.proofs.Contents.{contents_count}
use Rattle.sheet_check.specs.declared.Sizes.{Sizes}
use Rattle.sheet_check.specs.SheetCheck.{SheetBytes, count, decoded, sizes_of, good_sizes, ordered, within, declared}
use Rattle.sheet_check.specs.SheetCheck.{mark, text_bytes, good_state, good_rule, good_expected, good_records, sheet_check}
use Rattle.area.specs.Lists.{all}
use Rattle.sheet_check.proofs.Judging.{Long, sizes_long, sizes_counts, record_at}

-- ---- a record that passed, as plain facts

pub record GoodState (z : Sizes) (x : State) : Type 0 where
  pub ordered : x.start ≤ x.end
  pub inside : x.end ≤ z.source
  pub exclusive : x.exclusive ≤ 1

pub record GoodRule (z : Sizes) (x : Rule) : Type 0 where
  pub has_id : x.has_id ≤ 1
  pub named : x.named ≤ 1
  pub place : x.place ≤ 1
  pub span_ordered : x.span_start ≤ x.span_end
  pub span_inside : x.span_end ≤ z.source
  pub name_inside : x.name_from + x.name_length ≤ z.source
  pub text_inside : x.text_from + x.text_length ≤ text_bytes z x.place
  pub list_inside : x.list_from + x.list_count ≤ z.entries
  pub operation : x.operation ≤ 3
  pub target : x.target < z.states

pub record GoodExpected (z : Sizes) (x : Expected) : Type 0 where
  pub ordered : x.start ≤ x.end
  pub inside : x.end ≤ z.source

range_ordered : (start end n : ℕ) → ordered start end n ≡ true → (start ≤ end) × (end ≤ n)
range_ordered start end n e =
    let t = and_parts (leb start end) (leb end n) e in
    (leb-true start end t.0, leb-true end n t.1)

module _ (z : Sizes) where
  pub good_state_lem : (x : State) → good_state z x ≡ true → GoodState z x
  unfolding good_state
  good_state_lem x e =
      let t = and_parts (ordered x.start x.end z.source) (mark x.exclusive) e in
      let o = range_ordered x.start x.end z.source t.0 in
      record { ordered = o.0; inside = o.1; exclusive = leb-true x.exclusive 1 t.1 }

  pub good_expected_lem : (x : Expected) → good_expected z x ≡ true → GoodExpected z x
  unfolding good_expected
  good_expected_lem x e = let o = range_ordered x.start x.end z.source e in record { ordered = o.0; inside = o.1 }

  pub good_rule_lem : (x : Rule) → good_rule z x ≡ true → GoodRule z x
  unfolding good_rule
  good_rule_lem x e =
      let a1 : Bool = mark x.has_id in
      let a2 : Bool = mark x.named in
      let a3 : Bool = mark x.place in
      let a4 : Bool = ordered x.span_start x.span_end z.source in
      let a5 : Bool = within x.name_from x.name_length z.source in
      let a6 : Bool = within x.text_from x.text_length (text_bytes z x.place) in
      let a7 : Bool = within x.list_from x.list_count z.entries in
      let a8 : Bool = leb x.operation 3 in
      let a9 : Bool = declared z.states x.target in
      let t9 = and_parts (a1 && a2 && a3 && a4 && a5 && a6 && a7 && a8) a9 e in
      let t8 = and_parts (a1 && a2 && a3 && a4 && a5 && a6 && a7) a8 t9.0 in
      let t7 = and_parts (a1 && a2 && a3 && a4 && a5 && a6) a7 t8.0 in
      let t6 = and_parts (a1 && a2 && a3 && a4 && a5) a6 t7.0 in
      let t5 = and_parts (a1 && a2 && a3 && a4) a5 t6.0 in
      let t4 = and_parts (a1 && a2 && a3) a4 t5.0 in
      let t3 = and_parts (a1 && a2) a3 t4.0 in
      let t2 = and_parts a1 a2 t3.0 in
      let o = range_ordered x.span_start x.span_end z.source t4.1 in
      record {
        has_id = leb-true x.has_id 1 t2.0;
        named = leb-true x.named 1 t2.1;
        place = leb-true x.place 1 t3.1;
        span_ordered = o.0;
        span_inside = o.1;
        name_inside = leb-true (x.name_from + x.name_length) z.source t5.1;
        text_inside = leb-true (x.text_from + x.text_length) (text_bytes z x.place) t6.1;
        list_inside = leb-true (x.list_from + x.list_count) z.entries t7.1;
        operation = leb-true x.operation 3 t8.1;
        target = ltb-true x.target z.states t9.1;
      }

-- a rule of which the plain facts hold passes
pub rule_passes : (z : Sizes) (x : Rule) → GoodRule z x → good_rule z x ≡ true
unfolding good_rule
rule_passes z x g =
    rw (
      le-leb x.has_id 1 g.has_id,
      le-leb x.named 1 g.named,
      le-leb x.place 1 g.place,
      le-leb x.span_start x.span_end g.span_ordered,
      le-leb x.span_end z.source g.span_inside,
      le-leb (x.name_from + x.name_length) z.source g.name_inside,
      le-leb (x.text_from + x.text_length) (text_bytes z x.place) g.text_inside,
      le-leb (x.list_from + x.list_count) z.entries g.list_inside,
      le-leb x.operation 3 g.operation,
      lt-ltb x.target z.states g.target,
    )

-- the text of a rule stands in the rewritten text at place 1, and in the source at any other
module _ {z : Sizes} {x : Rule} (g : GoodRule z x) where
  pub text_rewritten : x.place ≡ 1 → x.text_from + x.text_length ≤ z.text
  text_rewritten e = subst (λ (t : Bool). x.text_from + x.text_length ≤ cond t z.text z.source) (eq-eqb x.place 1 e) g.text_inside

  pub text_source : (x.place ≡ 1 → ⊥) → x.text_from + x.text_length ≤ z.source
  text_source h = subst (λ (t : Bool). x.text_from + x.text_length ≤ cond t z.text z.source) (ne_eqb x.place 1 h) g.text_inside

-- ---- records that are good

pub record GoodRecords (z : Sizes) (xs : List State) (rs : List Rule) (ids : List ℕ) (es : List Expected) : Type 0 where
  pub states : all (good_state z) xs ≡ true
  pub rules : all (good_rule z) rs ≡ true
  pub lists : all (declared z.states) ids ≡ true
  pub expected : all (good_expected z) es ≡ true

pub good_records_lem : (z : Sizes) (xs : List State) (rs : List Rule) (ids : List ℕ) (es : List Expected) → good_records z xs rs ids es ≡ true
    → GoodRecords z xs rs ids es
unfolding good_records
good_records_lem z xs rs ids es e =
    let a1 : Bool = all (good_state z) xs in
    let a2 : Bool = all (good_rule z) rs in
    let a3 : Bool = all (declared z.states) ids in
    let t4 = and_parts (a1 && a2 && a3) (all (good_expected z) es) e in
    let t3 = and_parts (a1 && a2) a3 t4.0 in
    let t2 = and_parts a1 a2 t3.0 in
    record { states = t2.0; rules = t2.1; lists = t3.1; expected = t4.1 }

-- ---- a sheet that passed the check

module _ (b : SheetBytes) where
  -- the lists have as many records as the areas count
  pub states_count : length (decoded b).states ≡ count b 1
  unfolding decoded
  states_count = contents_count state_format b.area1 (count b 1)

  pub rules_count : length (decoded b).rules ≡ count b 2
  unfolding decoded
  rules_count = contents_count rule_format b.area2 (count b 2)

  pub lists_count : length (decoded b).lists ≡ count b 3
  unfolding decoded
  lists_count = contents_count entry_format b.area3 (count b 3)

  pub text_count : length (decoded b).text ≡ count b 4
  unfolding decoded
  text_count = contents_count text_format b.area4 (count b 4)

  module _ (passed : sheet_check b ≡ true) where
    abbrev z : Sizes
    z = sizes_of b

    checked : (good_sizes z ≡ true) × (good_records z (decoded b).states (decoded b).rules (decoded b).lists (decoded b).expected ≡ true)
    unfolding sheet_check
    checked = and_parts (good_sizes z) (good_records z (decoded b).states (decoded b).rules (decoded b).lists (decoded b).expected) passed

    pub checked_sizes : good_sizes z ≡ true
    checked_sizes = checked.0

    -- each area is long enough for what it counts
    pub checked_long : Long z
    checked_long = sizes_long z checked_sizes

    pub checked_counts : (1 ≤ count b 1) × (count b 1 ≤ most_states) × (count b 2 ≤ most_rules)
    checked_counts = sizes_counts z checked_sizes

    pub checked_records : GoodRecords z (decoded b).states (decoded b).rules (decoded b).lists (decoded b).expected
    checked_records = good_records_lem z (decoded b).states (decoded b).rules (decoded b).lists (decoded b).expected checked.1

    -- record k of each area is good
    pub checked_state : (k : ℕ) → k < count b 1 → GoodState z (state_at b.area1 k)
    unfolding decoded
    checked_state k h = good_state_lem z (state_at b.area1 k) (record_at state_format (good_state z) b.area1 (count b 1) k checked_records.states h)

    pub checked_rule : (k : ℕ) → k < count b 2 → GoodRule z (rule_at b.area2 k)
    unfolding decoded
    checked_rule k h = good_rule_lem z (rule_at b.area2 k) (record_at rule_format (good_rule z) b.area2 (count b 2) k checked_records.rules h)

    pub checked_entry : (k : ℕ) → k < count b 3 → entry_at b.area3 k < count b 1
    unfolding decoded
    checked_entry k h =
        ltb-true (entry_at b.area3 k) (count b 1) (record_at entry_format (declared (count b 1)) b.area3 (count b 3) k checked_records.lists h)

    pub checked_expected : (k : ℕ) → k < count b 5 → GoodExpected z (expected_at b.area5 k)
    unfolding decoded
    checked_expected k h =
        good_expected_lem z (expected_at b.area5 k) (record_at expected_format (good_expected z) b.area5 (count b 5) k checked_records.expected h)
