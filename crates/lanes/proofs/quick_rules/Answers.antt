-- `lanes::quick_rules` meets its contract: the lanes of the rules so far are joined.
use Rattle.std.proofs.Common.{◌≡◌, length, refl, arith}
use Rattle.lanes.proofs.LaneLaws.{rules_all, rules_within}
use Rattle.lanes.proofs.quick_rules.Goals as goal

pub returns : goal.returns
returns c =
    let all : c.loop-k.k ≡ length c.args.rules.now = omega (arith, c.count-k-end.ensures) in
    λ passed. rules_within _ _ _ _ _ c.bytes-area.ensures.1 (rules_all all c.loop-k.invariant) (c.all_zero.ensures passed) c.requires
    (record {
      has_id = (refl, refl);
      named = (refl, refl);
      place = (refl, refl);
      span_start = refl;
      span_end = (refl, refl);
      operation = refl;
      target = refl;
      name = (refl, refl);
      source_text_lem = refl;
      rewritten_text = omega arith;
      list = (refl, refl);
    })
