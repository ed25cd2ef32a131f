-- What the quick tests of the records say of a sheet: rules and list entries that keep its limits are good.
use mathlib.Core.Path.{◌≡◌}
use mathlib.Core.Bool.{true}
use mathlib.Core.List.{List}
use Prim.Native.Nat.{ℕ, ◌+◌, ◌≤◌, ◌<◌}
use native.Mathlib.Omega.{arith}
use borrow.Author.Tests.{eqb-true, eqb-false, lt-ltb}
use lib.Dec.{eqb}
use lib.ListN.{length}
use Rattle.std.proofs.lemmas.Bool.{cond_both}
use Rattle.area.specs.declared.Rule.{Rule}
use Rattle.area.specs.Records.{rule_of, nth_rule, nth_entry}
use Rattle.area.specs.Lists.{all}
use Rattle.area.proofs.All.{all_from}
use Rattle.lanes.specs.declared.Bounds.{Bounds}
use Rattle.lanes.specs.Lanes.{RuleWithin, RulesWithin, EntriesWithin}
use Rattle.sheet_check.specs.declared.Sizes.{Sizes}
use Rattle.sheet_check.specs.SheetCheck.{declared, good_rule}
use Rattle.sheet_check.proofs.Checked.{GoodRule, rule_passes}

-- bounds that are inside the sizes of a sheet
module _ (z : Sizes) (b : Bounds) (hn : b.source ≤ z.source) (hs : b.highest < z.states) (he : b.entries ≤ z.entries) (ht : b.text ≤ z.text) where
  rule_good : (x : Rule) → RuleWithin b x → GoodRule z x
  rule_good x w = record {
    has_id = w.has_id;
    named = w.named;
    place = w.place;
    span_ordered = w.span_ordered;
    span_inside = omega (arith, hn, w.span_inside);
    name_inside = omega (arith, hn, w.name_inside);
    text_inside =
        cond_both (eqb x.place 1) z.text z.source (λ (n : ℕ). x.text_from + x.text_length ≤ n)
        (λ one. omega (arith, ht, w.text_rewritten (eqb-true x.place 1 one)))
        (λ other.
        let none : x.place ≡ 0 = omega (arith, w.place, eqb-false x.place 1 other) in
        omega (arith, hn, w.text_source none));
    list_inside = omega (arith, he, w.list_inside);
    operation = w.operation;
    target = omega (arith, hs, w.target);
  }

  pub rules_good : (rules : List Rule) → RulesWithin rules b → all (good_rule z) rules ≡ true
  rules_good rules within =
      all_from (good_rule z) rules (rule_of (λ _. 0)) (λ k h. rule_passes z (nth_rule rules k) (rule_good (nth_rule rules k) (within.each k h)))

pub entries_declared : (ids : List ℕ) (highest states : ℕ) → highest < states → EntriesWithin ids 0 (length ids) highest
    → all (declared states) ids ≡ true
entries_declared ids highest states h within =
    all_from (declared states) ids 0 (λ k g. lt-ltb (nth_entry ids k) states (omega (arith, h, within.each k (omega arith) g)))
