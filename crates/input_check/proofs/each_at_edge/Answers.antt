-- `input_check::each_at_edge` meets its contract: each length is asked.
use Rattle.std.proofs.Common.{◌+◌, ap, ◌∙◌, rules}
use Rattle.area.specs.Lists.{all}
use Rattle.characters.specs.Utf8.{is_edge}
use Rattle.input_check.proofs.each_at_edge.Goals as goal

pub returns : goal.returns
returns c =
    c.all.ensures.is (λ l. is_edge c.args.text.now (c.args.position + l)) (λ k b h p. search rules)
    ∙ ap (all (λ l. is_edge c.args.text.now (c.args.position + l))) c.lengths.ensures
