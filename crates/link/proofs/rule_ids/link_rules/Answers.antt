-- `link::rule_ids::link_rules` meets its contract: each rule goes on by one.
use Rattle.std.proofs.Common.{arith}
use Rattle.name_map.proofs.Maps.{map_count}
use Rattle.link.proofs.LinkedRules.{linking_none, linking_next, linking_all, found_below}
use Rattle.link.proofs.rule_ids.link_rules.Goals as goal

pub loop-at-init : goal.loop-at-init
loop-at-init c = linking_none _ _ _ _

pub link_rule-requires : goal.link_rule-requires
link_rule-requires c = found_below _ _ c.requires.found_inside _ _ c.option_at.ensures _ (map_count _ _)

pub loop-at-preserved : goal.loop-at-preserved
loop-at-preserved c =
    linking_next _ _ _ _ c.loop-at.invariant c.loop-at-test.true (omega (arith, c.requires.count_le_most_rules.1, c.loop-at.auto.area))
    c.read-x.ensures c.option_at.ensures c.link_rule.ensures c.write.ensures

pub returns : goal.returns
returns c = linking_all _ _ _ _ c.loop-at.invariant (omega arith) (omega arith)
