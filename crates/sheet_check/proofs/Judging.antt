-- What the tests of a sheet come to when they are joined: those of an area one record at a time, those of the sizes as their code joins them.
use mathlib.Core.Path.{◌≡◌, refl, sym, ap, ◌∙◌}
use mathlib.Core.Bool.{Bool, true, false, ◌&&◌, true≢false}
use mathlib.Core.List.{List}
use Prim.Native.Nat.{ℕ, ◌+◌, ◌*◌, ◌≤◌, ◌<◌}
use native.Mathlib.Nat.{mul-one}
use native.Mathlib.Omega.{arith}
use lib.Dec.{leb}
use borrow.Author.Tests.{leb-true}
use Rattle.std.proofs.lemmas.Bool.{and_parts}
use Rattle.area.specs.declared.State.{State}
use Rattle.area.specs.declared.Rule.{Rule}
use Rattle.area.specs.declared.Expected.{Expected}
use Rattle.area.specs.Records.{state_width, rule_width, entry_width, expected_width, most_states, most_rules}
use Rattle.area.specs.Contents.{Format, contents}
use Rattle.sheet_check.specs.declared.Sizes.{Sizes}
use Rattle.sheet_check.specs.SheetCheck.{SheetBytes, sizes_of, long_enough, good_counts, good_sizes, declared}
use Rattle.sheet_check.specs.SheetCheck.{good_state, good_rule, good_expected, good_records, decoded, sheet_check}
use Rattle.area.specs.Lists.{all}
use Rattle.area.proofs.All.{all-at, all_next}
use Rattle.area.proofs.Contents.{contents_count, contents_read}

-- ---- the records of an area

module _ {A : Type 0} (F : Format A) (test : A → Bool) (l : List ℕ) where
  module _ (n : ℕ) where
    -- record k of records that all pass passes
    pub record_at : (k : ℕ) → all test (contents F l n) ≡ true → k < n → test (F.read l k) ≡ true
    record_at k e h = ap test (sym (contents_read F l n k h)) ∙ all-at test (contents F l n) F.blank k e (omega (arith, contents_count F l n))

  module _ (k : ℕ) (x : A) (t : Bool) (is : x ≡ F.read l k) (judged : t ≡ test x) where
    -- where the first k records pass and record k does, the first k + 1 pass
    pub goes_on_at_good : true ≡ all test (contents F l k) → t ≡ true → true ≡ all test (contents F l (k + 1))
    goes_on_at_good g good = sym good ∙ all_next F test l k true t x g is judged

    -- where record k does not pass, more than k records do not all pass
    pub leaves_at_bad : (n : ℕ) → k < n → t ≡ false → false ≡ all test (contents F l n)
    leaves_at_bad n h bad = by (all test (contents F l n)) refl
      where
        by : (b : Bool) → all test (contents F l n) ≡ b → false ≡ all test (contents F l n)
        by true q = absurd (true≢false (sym (record_at n k q h) ∙ sym (judged ∙ ap test is) ∙ bad))
        by false q = sym q

-- ---- the sizes

-- the areas of these sizes are long enough
pub record Long (z : Sizes) : Type 0 where
  pub long1 : z.states * state_width ≤ z.area1
  pub long2 : z.rules * rule_width ≤ z.area2
  pub long3 : z.entries * entry_width ≤ z.area3
  pub long4 : z.text ≤ z.area4
  pub long5 : z.expected * expected_width ≤ z.area5

module _ (z : Sizes) where
  pub long_areas : long_enough z ≡ true → Long z
  unfolding long_enough
  long_areas e =
      let a1 : Bool = leb (z.states * state_width) z.area1 in
      let a2 : Bool = leb (z.rules * rule_width) z.area2 in
      let a3 : Bool = leb (z.entries * entry_width) z.area3 in
      let a4 : Bool = leb z.text z.area4 in
      let a5 : Bool = leb (z.expected * expected_width) z.area5 in
      let t4 = (and_parts (a1 && a2 && a3 && a4) a5 e).0 in
      let t3 = (and_parts (a1 && a2 && a3) a4 t4).0 in
      let t2 = (and_parts (a1 && a2) a3 t3).0 in
      record {
        long1 = leb-true (z.states * state_width) z.area1 (and_parts a1 a2 t2).0;
        long2 = leb-true (z.rules * rule_width) z.area2 (and_parts a1 a2 t2).1;
        long3 = leb-true (z.entries * entry_width) z.area3 (and_parts (a1 && a2) a3 t3).1;
        long4 = leb-true z.text z.area4 (and_parts (a1 && a2 && a3) a4 t4).1;
        long5 = leb-true (z.expected * expected_width) z.area5 (and_parts (a1 && a2 && a3 && a4) a5 e).1;
      }

  pub sizes_long : good_sizes z ≡ true → Long z
  unfolding good_sizes
  sizes_long e = long_areas (and_parts (long_enough z) (good_counts z.states z.rules) e).0

  pub sizes_counts : good_sizes z ≡ true → (1 ≤ z.states) × (z.states ≤ most_states) × (z.rules ≤ most_rules)
  unfolding good_sizes good_counts
  sizes_counts e =
      let some : Bool = leb 1 z.states in
      let few : Bool = leb z.states most_states in
      let t = (and_parts (long_enough z) (some && few && leb z.rules most_rules) e).1 in
      let u = (and_parts (some && few) (leb z.rules most_rules) t).0 in (
        leb-true 1 z.states (and_parts some few u).0,
        leb-true z.states most_states (and_parts some few u).1,
        leb-true z.rules most_rules (and_parts (some && few) (leb z.rules most_rules) t).1,
      )

  pub sizes_judged : (a1 a2 a3 a4 a5 few : Bool) → a1 ≡ leb (z.states * state_width) z.area1 → a2 ≡ leb (z.rules * rule_width) z.area2
      → a3 ≡ leb (z.entries * entry_width) z.area3 → a4 ≡ leb (z.text * 1) z.area4 → a5 ≡ leb (z.expected * expected_width) z.area5
      → few ≡ good_counts z.states z.rules → a1 && a2 && a3 && a4 && a5 && few ≡ good_sizes z
  unfolding good_sizes long_enough
  sizes_judged a1 a2 a3 a4 a5 few e1 e2 e3 e4 e5 e6 = simp (e1, e2, e3, e4, e5, e6, mul-one z.text)

-- ---- the sheet

module _ (z : Sizes) (states : List State) (rules : List Rule) (lists : List ℕ) (expected : List Expected) where
  abbrev good : Bool
  good = good_records z states rules lists expected

  pub records_good : all (good_state z) states ≡ true → all (good_rule z) rules ≡ true → all (declared z.states) lists ≡ true
      → all (good_expected z) expected ≡ true → good ≡ true
  unfolding good_records
  records_good e1 e2 e3 e5 = rw (e1, e2, e3, e5)

-- sizes that were taken of a sheet
module _ (b : SheetBytes) (z : Sizes) (of : z ≡ sizes_of b) where
  pub sizes_pass : {t : Bool} → t ≡ good_sizes z → t ≡ true → good_sizes (sizes_of b) ≡ true
  sizes_pass is e = sym (ap good_sizes of) ∙ sym is ∙ e

  pub sizes_fail : {t : Bool} → t ≡ good_sizes z → t ≡ false → t ≡ sheet_check b
  unfolding sheet_check
  sizes_fail is e = let bad : good_sizes (sizes_of b) ≡ false = sym (ap good_sizes of) ∙ sym is ∙ e in rw bad e

-- the tests of the records of a sheet whose sizes pass
module _ (b : SheetBytes) (good : good_sizes (sizes_of b) ≡ true) where
  pub records_asked : (r : Bool) → r ≡ good_records (sizes_of b) (decoded b).states (decoded b).rules (decoded b).lists (decoded b).expected
      → r ≡ sheet_check b
  unfolding sheet_check
  records_asked r q = rw good q

-- ---- tests that are asked one after the other

-- two tests are joined: the second is asked where the first passes
module _ {p a v b : Bool} (is : p ≡ a) where
  pub next_asked : p ≡ true → v ≡ b → v ≡ (a && b)
  next_asked e q = rw (← is, e) q

pub none_asked : {p a v : Bool} (b : Bool) → p ≡ a → p ≡ false → v ≡ p → v ≡ (a && b)
none_asked b is e q = rw (← is, e) (q ∙ e)
