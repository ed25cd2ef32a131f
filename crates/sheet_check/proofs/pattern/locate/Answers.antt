-- `sheet_check::pattern::locate` meets its contract: the rule is read from a sheet that passed the check.
use native.Mathlib.Omega.{arith}
use Rattle.sheet_check.proofs.Patterns.{located_sizes, rule_located, rule_past, sheet_broken}
use Rattle.sheet_check.proofs.pattern.locate.Goals as goal

pub rule_records-rules-requires : goal.rule_records-rules-requires
rule_records-rules-requires c = located_sizes _ c.args.rule c.check.ensures c.if-not-check.false

pub returns-then-not-check : goal.returns-then-not-check
returns-then-not-check c = sheet_broken _ _ c.check.ensures c.if-not-check.true

pub returns-then-count-rule : goal.returns-then-count-rule
returns-then-count-rule c =
    rule_past _ _ c.check.ensures c.rule_records-rules.ensures c.if-not-check.false (omega (arith, c.if-count-rule.true, c.count.ensures))

pub returns : goal.returns
returns c =
    rule_located _ _ c.check.ensures c.rule_records-rules.ensures c.if-not-check.false (omega (arith, c.if-count-rule.false, c.count.ensures))
    c.get-x.ensures
