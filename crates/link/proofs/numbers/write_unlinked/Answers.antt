-- `link::numbers::write_unlinked` meets its contract: the filter gives the rules without an id.
use Rattle.std.proofs.Common.{ℕ, Bool, length, ap, ◌∙◌, rules, tests}
use Rattle.area.specs.Records.{nth_rule}
use Rattle.area.specs.Contents.{entry_format, laid}
use Rattle.area.specs.Lists.{numbers}
use Rattle.link.specs.Link.{is_unlinked, fits}
use Rattle.link.proofs.Counting.{unlinked_is}
use Rattle.link.proofs.Writing.{filter_gives}
use Rattle.link.proofs.numbers.write_unlinked.Goals as goal

pub write_numbers-requires-clause-room : goal.write_numbers-requires-clause-room
write_numbers-requires-clause-room c =
    let test : ℕ → Bool = λ k. is_unlinked (nth_rule c.args.rules.now k) in (
      numbers test c.count.result,
      filter_gives _ test c.count.result c.filter.ensures.source c.filter.ensures.closure (λ x b q k. search (rules, tests)),
      ap (λ ns. fits ns c.args.into.now) (unlinked_is c.args.rules.now _ c.count.ensures) ∙ c.requires.room,
    )

pub returns : goal.returns
returns c =
    let test : ℕ → Bool = λ k. is_unlinked (nth_rule c.args.rules.now k) in
    c.write_numbers.ensures _ (filter_gives _ test c.count.result c.filter.ensures.source c.filter.ensures.closure (λ x b q k. search (rules, tests)))
    ∙ ap (laid entry_format (length c.args.into.now)) (unlinked_is c.args.rules.now _ c.count.ensures)
