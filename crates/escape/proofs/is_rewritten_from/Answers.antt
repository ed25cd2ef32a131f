-- `escape::is_rewritten_from` meets its contract: it asks of each escape whether it does not stay.
use Rattle.std.proofs.Common.{rules, not, refl}
use Rattle.std.proofs.lemmas.Iterator.Adapters.{serves_from_places}
use Rattle.std.proofs.lemmas.Iterator.Consumers.{YieldsList-from_first}
use Rattle.std.proofs.lemmas.Iterator.Search.{any_from_yields_List}
use Rattle.characters.proofs.Table.{table, class_table}
use Rattle.escape.specs.Escape.{escapes, is_kept}
use Rattle.escape.proofs.Passed.{any_rewritten, start_inside}
use Rattle.escape.proofs.is_rewritten_from.Goals as goal

pub invariant_of-pattern : goal.invariant_of-pattern
unfolding table
invariant_of-pattern c = record { within = c.requires.1; class_table = class_table }

pub any-requires-clause-callable : goal.any-requires-clause-callable
any-requires-clause-callable c =
    let src = c.args.src.now in
    serves_from_places (YieldsList-from_first (λ x. x) (λ s. escapes s.pattern.source.now s.at s.pattern.end) (escapes src c.args.i c.args.c) refl)
    (λ x q k. search rules)
    (λ x k h e. let inside = start_inside src c.args.c c.args.i k x h e in search rules)

pub returns : goal.returns
returns c =
    let src = c.args.src.now in
    any_rewritten src c.args.i c.args.c _
    (any_from_yields_List (λ e. not (is_kept src c.args.c e.start)) c.any.new.self _ c.any.result c.any.ensures.ran
    (YieldsList-from_first (λ x. x) (λ s. escapes s.pattern.source.now s.at s.pattern.end) (escapes src c.args.i c.args.c) refl)
    (λ x b q k. search rules))
