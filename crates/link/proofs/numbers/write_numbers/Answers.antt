-- `link::numbers::write_numbers` meets its contract: the area has the numbers that came so far.
use Rattle.std.specs.Iterator.{AlwaysYields}
use Rattle.std.specs.Iterator.Adapters.{enumerate_steps}
use Rattle.std.specs.List.{enumerate_from}
use Rattle.std.proofs.Common.{ℕ, List, length, ap, ◌∙◌, arith, rules}
use Rattle.std.proofs.lemmas.Iterator.{YieldsList}
use Rattle.std.proofs.lemmas.Iterator.Consumers.{YieldsList-from_enumerate, YieldsList-at}
use Rattle.area.specs.Contents.{entry_format, laid}
use Rattle.link.proofs.Counting.{fits_says}
use Rattle.link.proofs.Writing.{laid_none, number_written, next_taken, all_taken}
use Rattle.link.proofs.numbers.write_numbers.Given.{Over}
use Rattle.link.proofs.numbers.write_numbers.Goals.{After-into_iter-k-iterator}
use Rattle.link.proofs.numbers.write_numbers.Goals as goal

-- the iterator of the loop gives the numbers, each with its place
with_places : (g : Over) (c : After-into_iter-k-iterator g) (ns : List ℕ) → AlwaysYields g.I.Iterator.next_gives (λ n. n) c.args.numbers ns
    → YieldsList (enumerate_steps g.I.Iterator.next_gives) (λ p. (p.0, p.1)) c.into_iter-k-iterator.result (enumerate_from 0 ns)
with_places g c ns a =
    YieldsList-at c.into_iter-k-iterator.ensures.into_iter_gives
    (YieldsList-from_enumerate {steps = g.I.Iterator.next_gives} {v = λ n. n} (YieldsList-at c.enumerate-k-items.ensures.source (record { runs = a })) c.enumerate-k-items.ensures.count)

pub loop-k-init : goal.loop-k-init
loop-k-init g c = (search rules, search rules, laid_none _ _ c.clear.ensures)

pub write-requires : goal.write-requires
write-requires g c =
    let r = c.requires.room in
    let all = with_places g (goal.at.write-requires g c).After-into_iter-k-iterator r.0 r.1 in
    let now = next_taken g.I.Iterator.next_gives _ r.0 all c.loop-k.yielded _ c.loop-k.yielded_by _ _ c.next.ensures.steps c.in-Some.k c.in-Some.number c.in-Some.is in
    omega (arith, now.0, now.1, fits_says r.0 c.args.into.now r.2, c.loop-k.auto.into)

pub loop-k-preserved : goal.loop-k-preserved
loop-k-preserved g c =
    let r = c.requires.room in
    let all = with_places g (goal.at.loop-k-preserved g c).After-into_iter-k-iterator r.0 r.1 in
    let now = next_taken g.I.Iterator.next_gives _ r.0 all c.loop-k.yielded _ c.loop-k.yielded_by _ _ c.next.ensures.steps c.in-Some.k c.in-Some.number c.in-Some.is in
    let room = fits_says r.0 c.args.into.now r.2 in (
      search rules,
      search rules,
      number_written (length c.args.into.now) c.loop-k.yielded c.in-Some.k c.in-Some.number now.0 (omega (arith, now.1, room)) _ _ c.loop-k.invariant.2 c.write.ensures,
    )

pub returns : goal.returns
returns g c = λ ns a.
    let all = with_places g (goal.at.returns g c).After-into_iter-k-iterator ns a in
    c.loop-k.invariant.2
    ∙ ap (laid entry_format (length c.args.into.now)) (all_taken g.I.Iterator.next_gives _ ns all c.loop-k.yielded _ c.loop-k.yielded_by _ _ c.next.ensures.steps c.in-None.is)
