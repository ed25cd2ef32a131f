-- The part of a rule: what the code answers on each of its ways, and that the part lies inside the slice that its place names. A part is
-- answered only for a sheet that passed the check, which says that the rule's text stands inside.
use Rattle.std.proofs.lemmas.Bool.{and_parts}
use Rattle.std.specs.Prelude.{Option, Some, None}
use mathlib.Core.Path.{◌≡◌, refl, sym, ap, subst, ◌∙◌}
use mathlib.Core.Bool.{Bool, true, false, cond}
use mathlib.Core.List.{List, [], ◌∷◌}
use Prim.Native.Nat.{ℕ, zero, suc, ◌+◌, ◌*◌, ◌-◌, ◌≤◌, ◌<◌}
use native.Mathlib.Nat.{zero-add}
use native.Mathlib.Omega.{arith}
use lib.Dec.{ltb}
use lib.ListN.{length, get_or, take, drop}
use lib.Seq.{length-take-le, get_or-take, take-take}
use borrow.Author.Tests.{ltb-true, lt-ltb, le-ltb, eq-eqb, ne_eqb}
use Rattle.area.specs.declared.Rule.{Rule}
use Rattle.area.specs.Records.{rule_width, rule_at, nth_rule}
use Rattle.area.specs.Contents.{contents, rule_format}
use Rattle.area.proofs.Contents.{list_of_is, contents_read}
use Rattle.area.specs.declared.RuleText.{RuleText}
use Rattle.sheet_check.specs.SheetCheck.{SheetBytes, count, decoded, sizes_of, good_sizes, sheet_check}
use Rattle.sheet_check.specs.Pattern.{has_rule, part_of, pattern_part, text_of, start_of, handed, pattern_call}
use Rattle.sheet_check.proofs.Checked.{GoodRule, text_rewritten, text_source, checked_long, checked_sizes, checked_rule, rules_count}

-- ---- the ways to a part

module _ (b : SheetBytes) (k : ℕ) {t : Bool} (is : t ≡ sheet_check b) where
  pub located_sizes : t ≡ true → good_sizes (sizes_of b) ≡ true
  located_sizes e = checked_sizes b (sym is ∙ e)

  module _ {xs : List Rule} (are : xs ≡ (decoded b).rules) where
    pub rule_located : {x : Rule} → t ≡ true → k < length xs → x ≡ nth_rule xs k → Some (part_of x) ≡ pattern_part b k
    unfolding pattern_part
    rule_located e h q =
        let has : ltb k (length (decoded b).rules) ≡ true = lt-ltb k (length (decoded b).rules) (omega (arith, h, ap length are)) in
        rw (sym is ∙ e, has, ← are, q)

    pub rule_past : t ≡ true → length xs ≤ k → None ≡ pattern_part b k
    unfolding pattern_part
    rule_past e h =
        let past : ltb k (length (decoded b).rules) ≡ false = le-ltb k (length (decoded b).rules) (omega (arith, h, ap length are)) in
        rw (sym is ∙ e, past)

  pub sheet_broken : t ≡ false → None ≡ pattern_part b k
  unfolding pattern_part
  sheet_broken e = rw (sym is ∙ e)

-- where the check passed, the bytes of a rule that is counted lie in area 2
pub rule_bytes_lem : (b : SheetBytes) (k : ℕ) (t : Bool) → t ≡ sheet_check b → t ≡ true → k < count b 2 → k * rule_width + rule_width ≤ length b.area2
rule_bytes_lem b k t is e h = omega (arith, (checked_long b (sym is ∙ e)).long2)

-- ---- a part that was answered

-- a part lies inside what its place names
pub record Inside (b : SheetBytes) (p : RuleText) : Type 0 where
  pub rewritten : p.place ≡ 1 → p.from + p.length ≤ count b 4
  pub source : (p.place ≡ 1 → ⊥) → p.from + p.length ≤ length b.source
  pub long : count b 4 ≤ length b.area4

module _ (b : SheetBytes) (k : ℕ) (p : RuleText) where
  rule_inside : (x : Rule) → sheet_check b ≡ true → GoodRule (sizes_of b) x → Inside b (part_of x)
  rule_inside x passed g = record {
    rewritten = λ h. text_rewritten g h;
    source = λ h. text_source g h;
    long = (checked_long b passed).long4;
  }

  answered_inside : (t : Bool) → has_rule b k ≡ t → Some p ≡ cond t (Some (part_of (nth_rule (decoded b).rules k))) None → Inside b p
  unfolding decoded
  answered_inside true h e =
      let passed : sheet_check b ≡ true = (and_parts (sheet_check b) (ltb k (length (decoded b).rules)) h).0 in
      let below : k < length (decoded b).rules = ltb-true k (length (decoded b).rules) (and_parts (sheet_check b) (ltb k (length (decoded b).rules)) h).1 in
      let under : k < count b 2 = omega (arith, below, rules_count b) in
      let is : p ≡ part_of (nth_rule (decoded b).rules k) = cc in
      let read : nth_rule (decoded b).rules k ≡ rule_at b.area2 k = contents_read rule_format b.area2 (count b 2) k under in
      subst (Inside b) (sym (is ∙ ap part_of read)) (rule_inside (rule_at b.area2 k) passed (checked_rule b passed k under))
  answered_inside false h e = absurd cc

  pub part_inside : (q : Option RuleText) → q ≡ pattern_part b k → q ≡ Some p → Inside b p
  unfolding pattern_part
  part_inside q e v = answered_inside (has_rule b k) refl (sym v ∙ e)

-- ---- the bytes of a part

part_of_front : (from len n : ℕ) (l : List ℕ) → from + len ≤ n → take len (drop from (take n l)) ≡ take len (drop from l)
part_of_front zero len n l h = take-take len n l (omega arith)
part_of_front (suc from) len zero l h = absurd (omega (arith, h))
part_of_front (suc from) len (suc n) [] h = refl
part_of_front (suc from) len (suc n) (x ∷ l) h = part_of_front from len n l (omega arith)

module _ (b : SheetBytes) where
  -- the rewritten text is the first bytes of area 4
  text_is_front : count b 4 ≤ length b.area4 → (decoded b).text ≡ take (count b 4) b.area4
  unfolding decoded contents
  text_is_front h =
      list_of_is (λ (j : ℕ). get_or b.area4 j 0) 0 (take (count b 4) b.area4) (count b 4)
      (sym (length-take-le (count b 4) b.area4 h))
      (λ j g. sym (get_or-take (count b 4) b.area4 j 0 g))

  module _ (s t : ℕ × ℕ) (k : ℕ) (q : Option RuleText) (e : q ≡ pattern_part b k) where
    module _ (p : RuleText) (v : q ≡ Some p) where
      part_is : pattern_part b k ≡ Some p
      part_is = sym e ∙ v

      count_back : p.from + p.length - p.from ≡ p.length
      count_back = omega arith

      pub in_rewritten : p.place ≡ 1 → handed (t.0, p.from + t.1) (take (p.from + p.length - p.from) (drop p.from b.area4)) ≡ pattern_call s t b k
      unfolding text_of start_of
      in_rewritten h =
          let i : Inside b p = part_inside b k p q e v in
          let same : take p.length (drop p.from (decoded b).text) ≡ take p.length (drop p.from b.area4) =
          ap (λ (l : List ℕ). take p.length (drop p.from l)) (text_is_front i.long) ∙ part_of_front p.from p.length (count b 4) b.area4 (i.rewritten h) in
          rw (part_is, eq-eqb p.place 1 h, same, count_back)

      pub in_source : (p.place ≡ 1 → ⊥) → handed (s.0, p.from + s.1) (take (p.from + p.length - p.from) (drop p.from b.source)) ≡ pattern_call s t b k
      unfolding text_of start_of
      in_source h = rw (part_is, ne_eqb p.place 1 h, count_back)

    pub in_neither : q ≡ None → handed (s.0, 0 + s.1) (take 0 (drop 0 b.source)) ≡ pattern_call s t b k
    unfolding text_of start_of
    in_neither v = rw (sym e ∙ v, zero-add s.1)
