-- `link::numbers::write_unused` meets its contract: the filter gives the entries whose mark is not set.
use Rattle.std.proofs.Common.{ℕ, Bool, false, not, length, get_or, rules, tests}
use Rattle.link.specs.Matches.{unmarked}
use Rattle.link.proofs.Writing.{filter_gives}
use Rattle.link.proofs.numbers.write_unused.Goals as goal

pub write_numbers-requires-clause-room : goal.write_numbers-requires-clause-room
write_numbers-requires-clause-room c =
    let test : ℕ → Bool = λ j. not (get_or c.args.used.now j false) in
    (unmarked c.args.used.now (length c.args.used.now), filter_gives _ test (length c.args.used.now) c.filter.ensures.source c.filter.ensures.closure (λ x b q k. search (rules, tests)), c.requires.room)

pub returns : goal.returns
returns c =
    let test : ℕ → Bool = λ j. not (get_or c.args.used.now j false) in
    c.write_numbers.ensures _ (filter_gives _ test (length c.args.used.now) c.filter.ensures.source c.filter.ensures.closure (λ x b q k. search (rules, tests)))
