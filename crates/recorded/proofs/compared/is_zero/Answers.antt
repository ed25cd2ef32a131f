-- `all` has seen every byte.
use Rattle.std.proofs.Common.{rules, tests, eqb}
use Rattle.std.proofs.lemmas.Iterator.{YieldsList-from_slice}
use Rattle.std.proofs.lemmas.Iterator.Search.{all_from_yields_List}
use Rattle.recorded.proofs.Comparing.{zero_compared}
use Rattle.recorded.proofs.compared.is_zero.Goals as goal

pub returns : goal.returns
returns c =
    zero_compared _ _
    (all_from_yields_List (λ x. eqb x 0) _ _ _ c.all.ensures.ran (YieldsList-from_slice c.args.bytes.now cc) (λ x b q k. search (rules, tests)))
