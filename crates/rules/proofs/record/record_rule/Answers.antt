-- `rules::record::record_rule` meets its contract: the record is appended, or the area is full.
use Rattle.fault.proofs.Steps.{passed_on}
use Rattle.rules.proofs.Recording.{rule_next, rule_full}
use Rattle.rules.proofs.record.record_rule.Goals as goal

pub returns-in_err-count : goal.returns-in_err-count
returns-in_err-count c =
    passed_on _ _ _ c.from_residual.ensures.1
    (rule_full _ _ _ _ _ _ c.requires _ c.refuses.ensures c.if-refuses.false _ _ c.push.ensures 0 c.in_err-count.was)

pub returns : goal.returns
returns c = rule_next _ _ _ _ _ _ c.requires _ c.refuses.ensures c.if-refuses.false _ _ c.push.ensures c.in_ok-count.was
