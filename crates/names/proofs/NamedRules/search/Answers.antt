-- `names::NamedRules::search` meets its contract: the closure answers the test of a rule, and of distinct names the last is the only one.
use mathlib.Core.Path.{ap, ◌∙◌}
use mathlib.Core.Bool.{Bool}
use Prim.Native.Nat.{ℕ}
use borrow.Author.Rules.{rules}
use Rattle.characters.specs.Walk.{last}
use Rattle.characters.proofs.Asking.{finds_last}
use Rattle.area.specs.Records.{nth_rule}
use Rattle.names.specs.Names.{has_name}
use Rattle.names.proofs.Distinct.{found_last}
use Rattle.names.proofs.NamedRules.search.Goals as goal

pub returns : goal.returns
returns c a e is =
    let named = c.args.self.now in
    let test : ℕ → Bool = λ j. has_name named.source.now a e (nth_rule named.rules j) in
    found_last _ a e _ named.names.distinct _
    (finds_last _ test _ _ _ (λ k b h l t. search rules) c.find_last.ensures ∙ ap (last test 0) c.count.ensures)
