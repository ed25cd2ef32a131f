-- The quick tests are right where they pass. A number that bits are joined to is 0 only where it was 0 and they are (`or_none`), so at the end
-- each lane of each rule keeps its limits, and the limits of its lanes are those of a rule's fields and sums.
use Rattle.std.proofs.Common.{◌≡◌, ℕ, zero, suc, ◌+◌, ◌-◌, ◌*◌, ◌%◌, ◌<◌, ◌≤◌, min, Bool, true, false, eqb, List, [], ◌∷◌, length, get_or, set}
use Rattle.std.proofs.Common.{sym, refl, ap, ◌∙◌, subst, ⊎_elim, arith, length-set, get_or-set_other, get_or-set_same, eqb-true}
use Rattle.std.specs.List.{fold}
use borrow.Author.Tests.{eqb-false}
use lib.Bits.{bit_and, bit_or, or_add_and, and_le_l, and_le_r, and_zero_r, or_zero_l, or_zero_r}
use Rattle.characters.proofs.Tests.{le_or_lt}
use Rattle.area.specs.Bytes.{field_from}
use Rattle.area.specs.declared.Rule.{Rule}
use Rattle.area.specs.Records.{rule_at, rule_of, rule_width, nth_rule, nth_entry}
use Rattle.area.specs.Contents.{contents, rule_format}
use Rattle.area.proofs.Contents.{contents_read}
use Rattle.lanes.specs.declared.Lane.{Lane}
use Rattle.lanes.specs.declared.Limits.{Limits}
use Rattle.lanes.specs.declared.Bounds.{Bounds}
use Rattle.lanes.specs.Lanes.{lane_count, lane_at, FieldsWithin, SumWithin, FieldsAt, SumAt, JoinedTo, Joined, AllZero}
use Rattle.lanes.specs.Lanes.{RuleWithin, RulesWithin, EntriesWithin}

-- ---- a lane

pub or_none : (a b : ℕ) → bit_or a b ≡ 0 → (a ≡ 0) × (b ≡ 0)
or_none a b e = (omega (arith, e, or_add_and a b, and_le_r a b), omega (arith, e, or_add_and a b, and_le_l a b))

module _ (x : Lane) where
  pub fields_within : (heres order lasts a b : ℕ) → a ≡ x.here - bit_or heres (bit_and x.next order) → b ≡ x.last - lasts
      → bit_or a b ≡ 0 → FieldsWithin x heres order lasts
  fields_within heres order lasts a b p q e =
      let z = or_none a b e in
      record { here = omega (arith, p, z.0); last = omega (arith, q, z.1) }

-- ---- lanes, joined

module _ (Asked : ℕ → Type 0) where
  pub joined_none : (x : List ℕ) → length x ≡ lane_count → JoinedTo Asked 0 x x
  joined_none x h = record { long = h; kept = λ j e. e; done = λ j g e. absurd (omega (arith, g)) }

  module _ (m : ℕ) (x y : List ℕ) (joined : JoinedTo Asked m x y) (h : m < lane_count) (a : ℕ) (asked : a ≡ 0 → Asked m) where
    abbrev with_next : List ℕ
    with_next = set y m (bit_or (get_or y m 0) a)

    at_lane : (j : ℕ) → get_or with_next j 0 ≡ 0 → (get_or y j 0 ≡ 0) × (j ≡ m → a ≡ 0)
    at_lane j e = by (eqb j m) refl
      where
        by : (b : Bool) → eqb j m ≡ b → (get_or y j 0 ≡ 0) × (j ≡ m → a ≡ 0)
        by true q =
            let z : j ≡ m = eqb-true j m q in
            let here : get_or with_next m 0 ≡ bit_or (get_or y m 0) a = get_or-set_same y m (bit_or (get_or y m 0) a) 0 (omega (arith, h, joined.long)) in
            let o = or_none (get_or y m 0) a (sym here ∙ ap (λ (k : ℕ). get_or with_next k 0) (sym z) ∙ e) in
            (ap (λ (k : ℕ). get_or y k 0) z ∙ o.0, λ _. o.1)
        by false q = (sym (get_or-set_other y m j (bit_or (get_or y m 0) a) 0 (eqb-false j m q)) ∙ e, λ z. absurd (eqb-false j m q z))

    pub joined_next : JoinedTo Asked (m + 1) x (set y m (bit_or (get_or y m 0) a))
    joined_next = record {
      long = length-set y m (bit_or (get_or y m 0) a) ∙ joined.long;
      kept = λ j e. joined.kept j (at_lane j e).0;
      done = λ j g e. ⊎_elim
          (λ w. let z : j ≡ m = omega (arith, g, w) in subst Asked (sym z) (asked ((at_lane j e).1 z)))
          (λ w. joined.done j w (at_lane j e).0)
          (le_or_lt m j);
    }

-- the lane that was read is the one at its place
module _ (l : List ℕ) (at j : ℕ) (x : Lane) (is : x ≡ lane_at l at j) (r : ℕ) where
  pub fields_at : (heres order lasts : ℕ) → (r ≡ 0 → FieldsWithin x heres order lasts) → r ≡ 0 → FieldsWithin (lane_at l at j) heres order lasts
  fields_at heres order lasts f e = subst (λ (y : Lane). FieldsWithin y heres order lasts) is (f e)

  pub sum_at : (sums more : ℕ) → (r ≡ 0 → SumWithin x sums more) → r ≡ 0 → SumWithin (lane_at l at j) sums more
  sum_at sums more f e = subst (λ (y : Lane). SumWithin y sums more) is (f e)

-- ---- numbers that are all 0

-- the bits of all numbers are 0 only where each number is
bits_none : (a : ℕ) (xs : List ℕ) → fold bit_or a xs ≡ 0 → (a ≡ 0) × ((j : ℕ) → get_or xs j 0 ≡ 0)
bits_none a [] e = (e, λ j. refl)
bits_none a (x ∷ xs) e =
    let h = bits_none (bit_or a x) xs e in
    let o = or_none a x h.0 in
    (o.0, at_each x xs o.1 h.1)
  where
    at_each : (x : ℕ) (xs : List ℕ) → x ≡ 0 → ((j : ℕ) → get_or xs j 0 ≡ 0) → (j : ℕ) → get_or (x ∷ xs) j 0 ≡ 0
    at_each x xs here behind zero = here
    at_each x xs here behind (suc j) = behind j

pub zero_all : {x : List ℕ} {a : ℕ} → a ≡ fold bit_or 0 x → eqb a 0 ≡ true → AllZero x
zero_all {x} {a} p e = record { each = λ j g. (bits_none 0 x (sym p ∙ eqb-true a 0 e)).1 j }

-- ---- the rules of an area

-- the lanes of the first k rules are joined: a number is 0 only where its lane of each rule has what is asked
pub record Passed (Asked : ℕ → ℕ → Type 0) (k : ℕ) (y : List ℕ) : Type 0 where
  pub long : length y ≡ lane_count
  pub each : (i j : ℕ) → i < k → j < lane_count → get_or y j 0 ≡ 0 → Asked i j

module _ (Asked : ℕ → ℕ → Type 0) where
  passed_none : (y : List ℕ) → length y ≡ lane_count → Passed Asked 0 y
  passed_none y h = record { long = h; each = λ i j g w e. absurd (omega (arith, g)) }

  passed_next : (k : ℕ) (x y : List ℕ) → Passed Asked k x → JoinedTo (Asked k) lane_count x y → Passed Asked (k + 1) y
  passed_next k x y passed joined = record {
    long = joined.long;
    each = λ i j g w e. ⊎_elim
        (λ f. let z : k ≡ i = omega (arith, g, f) in subst (λ (n : ℕ). Asked n j) z (joined.done j w e))
        (λ f. passed.each i j f w (joined.kept j e))
        (le_or_lt k i);
  }

-- the same of the fields and of the sums
pub record RulesJoined (l : List ℕ) (limits : Limits) (k : ℕ) (f t : List ℕ) : Type 0 where
  pub fields : Passed (λ i j. FieldsAt l limits (i * rule_width) j) k f
  pub totals : Passed (λ i j. SumAt l limits (i * rule_width) j) k t

module _ {l : List ℕ} {limits : Limits} where
  pub rules_none : (f t : List ℕ) → length f ≡ lane_count → length t ≡ lane_count → RulesJoined l limits 0 f t
  rules_none f t hf ht = record { fields = passed_none _ f hf; totals = passed_none _ t ht }

  pub rules_next : {k : ℕ} {x y : List ℕ} → RulesJoined l limits k x x → Joined l limits (k * rule_width) lane_count x y
      → RulesJoined l limits (k + 1) y y
  rules_next {k} {x} {y} before joined = record {
    fields = passed_next _ k x y before.fields joined.fields;
    totals = passed_next _ k x y before.totals joined.totals;
  }

  pub rules_all : {k n : ℕ} {f t : List ℕ} → k ≡ n → RulesJoined l limits k f t → RulesJoined l limits n f t
  rules_all {k} {n} {f} {t} e joined = subst (λ (m : ℕ). RulesJoined l limits m f t) e joined

-- ---- limits as plain facts

-- without an order the limit is heres alone
upper_limit : (x heres order next n : ℕ) → (heres ≡ n) × (order ≡ 0) → x ≤ bit_or heres (bit_and next order) → x ≤ n
upper_limit x heres order next n e h =
    let none : bit_and next order ≡ 0 = ap (bit_and next) e.1 ∙ and_zero_r next in
    let g : bit_or heres (bit_and next order) ≡ heres = ap (bit_or heres) none ∙ or_zero_r heres in
    omega (arith, h, g, e.0)

-- with an order and no heres it is at most the next field
next_limit : (x heres order next : ℕ) → heres ≡ 0 → x ≤ bit_or heres (bit_and next order) → x ≤ next
next_limit x heres order next e h =
    let g : bit_or heres (bit_and next order) ≡ bit_and next order = ap (λ (v : ℕ). bit_or v (bit_and next order)) e ∙ or_zero_l (bit_and next order) in
    omega (arith, h, g, and_le_l next order)

-- a limit of a sum is sums at place 0, and at any place where there is no more; a sum that keeps a limit below 65,535 was not cut
module _ (a b place sums more n : ℕ) (small : n ≤ 65534) (keeps : min (a + b) 65535 ≤ (sums + (place * more) % 65536) % 65536) where
  sum_limit : (sums ≡ n) × (more ≡ 0) → a + b ≤ n
  sum_limit e =
      let h : min (a + b) 65535 ≤ (sums + (place * 0) % 65536) % 65536 =
      subst (λ (m : ℕ). min (a + b) 65535 ≤ (sums + (place * m) % 65536) % 65536) e.1 keeps in
      omega (arith, small, h, e.0)

  source_limit : sums ≡ n → place ≡ 0 → a + b ≤ n
  source_limit e none =
      let h : min (a + b) 65535 ≤ (sums + (0 * more) % 65536) % 65536 =
      subst (λ (p : ℕ). min (a + b) 65535 ≤ (sums + (p * more) % 65536) % 65536) none keeps in
      omega (arith, small, h, e)

  text_limit : (more + sums) % 65536 ≡ n → place ≡ 1 → a + b ≤ n
  text_limit e one =
      let h : min (a + b) 65535 ≤ (sums + (1 * more) % 65536) % 65536 =
      subst (λ (p : ℕ). min (a + b) 65535 ≤ (sums + (p * more) % 65536) % 65536) one keeps in
      omega (arith, small, h, e)

-- ---- rules whose lanes keep their limits

-- limits of lanes that are these limits of a rule: of its fields, and of its sums
pub record RuleLimits (limits : Limits) (source highest entries text : ℕ) : Type 0 where
  pub has_id : (get_or limits.heres 0 0 ≡ 1) × (get_or limits.order 0 0 ≡ 0)
  pub named : (get_or limits.heres 2 0 ≡ 1) × (get_or limits.order 2 0 ≡ 0)
  pub place : (get_or limits.heres 7 0 ≡ 1) × (get_or limits.order 7 0 ≡ 0)
  pub span_start : get_or limits.heres 3 0 ≡ 0
  pub span_end : (get_or limits.heres 4 0 ≡ source) × (get_or limits.order 4 0 ≡ 0)
  pub operation : get_or limits.lasts 6 0 ≡ 3
  pub target : get_or limits.lasts 7 0 ≡ highest
  pub name : (get_or limits.sums 0 0 ≡ source) × (get_or limits.more 0 0 ≡ 0)
  pub source_text_lem : get_or limits.sums 3 0 ≡ source
  pub rewritten_text : (get_or limits.more 3 0 + get_or limits.sums 3 0) % 65536 ≡ text
  pub list : (get_or limits.sums 5 0 ≡ entries) × (get_or limits.more 5 0 ≡ 0)

-- limits of sums below 65,535
abbrev pub Small : ℕ → ℕ → ℕ → Type 0
Small source entries text = (source ≤ 65534) × (entries ≤ 65534) × (text ≤ 65534)

module _ (l : List ℕ) (limits : Limits) (b : Bounds) (small : Small b.source b.entries b.text)
    (are : RuleLimits limits b.source b.highest b.entries b.text) (k : ℕ) (f : (j : ℕ) → j < lane_count → FieldsAt l limits (k * rule_width) j)
    (s : (j : ℕ) → j < lane_count → SumAt l limits (k * rule_width) j) where
  abbrev at : ℕ → ℕ
  at j = field_from l (k * rule_width) j

  field_limit : (j : ℕ) → j < lane_count → (n : ℕ) → (get_or limits.heres j 0 ≡ n) × (get_or limits.order j 0 ≡ 0) → at j ≤ n
  unfolding lane_at
  field_limit j h n e = upper_limit (at j) (get_or limits.heres j 0) (get_or limits.order j 0) (at (j + 1)) n e (f j h).here

  last_limit : (j : ℕ) → j < lane_count → at (j + 6) ≤ get_or limits.lasts j 0
  unfolding lane_at
  last_limit j h = (f j h).last

  span_ordered : at 3 ≤ at 4
  unfolding lane_at
  span_ordered = next_limit (at 3) (get_or limits.heres 3 0) (get_or limits.order 3 0) (at 4) are.span_start (f 3 (omega arith)).here

  range_inside : (j : ℕ) → j < lane_count → (n : ℕ) → n ≤ 65534 → (get_or limits.sums j 0 ≡ n) × (get_or limits.more j 0 ≡ 0)
      → at (j + 5) + at (j + 6) ≤ n
  unfolding lane_at
  range_inside j h n g e = sum_limit (at (j + 5)) (at (j + 6)) (at (j + 4)) (get_or limits.sums j 0) (get_or limits.more j 0) n g (s j h).inside e

  text_source : at 7 ≡ 0 → at 8 + at 9 ≤ b.source
  unfolding lane_at
  text_source none = source_limit (at 8) (at 9) (at 7) (get_or limits.sums 3 0) (get_or limits.more 3 0) b.source small.0
      (s 3 (omega arith)).inside are.source_text_lem none

  text_rewritten : at 7 ≡ 1 → at 8 + at 9 ≤ b.text
  unfolding lane_at
  text_rewritten one = text_limit (at 8) (at 9) (at 7) (get_or limits.sums 3 0) (get_or limits.more 3 0) b.text small.2
      (s 3 (omega arith)).inside are.rewritten_text one

  rule_within : RuleWithin b (rule_at l k)
  unfolding rule_at rule_of
  rule_within = record {
    has_id = field_limit 0 (omega arith) 1 are.has_id;
    named = field_limit 2 (omega arith) 1 are.named;
    place = field_limit 7 (omega arith) 1 are.place;
    span_ordered = span_ordered;
    span_inside = field_limit 4 (omega arith) b.source are.span_end;
    name_inside = range_inside 0 (omega arith) b.source small.0 are.name;
    text_source = text_source;
    text_rewritten = text_rewritten;
    list_inside = range_inside 5 (omega arith) b.entries small.1 are.list;
    operation = omega (arith, last_limit 6 (omega arith), are.operation);
    target = omega (arith, last_limit 7 (omega arith), are.target);
  }

pub rules_within : (l : List ℕ) (limits : Limits) (rules : List Rule) (b : Bounds) (x : List ℕ) → rules ≡ contents rule_format l (length rules)
    → RulesJoined l limits (length rules) x x → AllZero x → Small b.source b.entries b.text
    → RuleLimits limits b.source b.highest b.entries b.text → RulesWithin rules b
rules_within l limits rules b x are joined none small limited = record {
  each = λ k g. subst (RuleWithin b) (sym (ap (λ (xs : List Rule). nth_rule xs k) are ∙ contents_read rule_format l (length rules) k g))
      (rule_within l limits b small limited k (λ j w. joined.fields.each k j g w (none.each j w))
      (λ j w. joined.totals.each k j g w (none.each j w)));
}

-- ---- list entries

module _ (ids : List ℕ) (from highest : ℕ) where
  entries_next : (k : ℕ) → EntriesWithin ids from k highest → nth_entry ids k ≤ highest → EntriesWithin ids from (k + 1) highest
  entries_next k before h = record {
    each = λ i g w. ⊎_elim
        (λ e. let z : k ≡ i = omega (arith, e, w) in subst (λ (n : ℕ). nth_entry ids n ≤ highest) z h)
        (λ e. before.each i g e)
        (le_or_lt k i);
  }

  pub entries_to : (k n : ℕ) → k ≡ n → EntriesWithin ids from k highest → EntriesWithin ids from n highest
  entries_to k n e before = subst (λ (m : ℕ). EntriesWithin ids from m highest) e before

  -- an excess is joined to those before
  pub excess_next : (k excess a x : ℕ) → (excess ≡ 0 → EntriesWithin ids from k highest) → x ≡ nth_entry ids k → a ≡ x - highest → bit_or excess a ≡ 0
      → EntriesWithin ids from (k + 1) highest
  excess_next k excess a x before read is e =
      let z = or_none excess a e in
      entries_next k (before z.0) (omega (arith, read, is, z.1))
