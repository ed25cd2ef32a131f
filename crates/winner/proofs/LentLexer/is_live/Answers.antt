-- `winner::LentLexer::is_live` meets its contract: without a list the state is asked, and with one the search in it alone.
use mathlib.Core.Path.{◌∙◌}
use Rattle.std.proofs.Common.{rules}
use Rattle.winner.proofs.Winning.{rule_unlisted, rule_listed}
use Rattle.winner.proofs.LentLexer.is_live.Goals as goal

pub returns-then-x-eq0 : goal.returns-then-x-eq0
returns-then-x-eq0 c = rule_unlisted c.self.view_is _ _ c.get-x.ensures c.if-x-eq0.true _ c.get.ensures

pub returns : goal.returns
returns c =
    c.is_some.ensures ∙ rule_listed c.self.view_is _ _ c.get-x.ensures c.if-x-eq0.false c.position_in.ensures (λ j id b p. search rules)
