-- Each count that was compared is the one recorded, and the cursor stands behind it.
use Rattle.std.proofs.Common.{refl, rules}
use Rattle.std.proofs.lemmas.Fn.{chained_keeps}
use Rattle.std.proofs.lemmas.Iterator.{YieldsList-from_slice}
use Rattle.recorded.specs.contracts.reader.fn.Cursor.counted.all as closure
use Rattle.recorded.proofs.Comparing.{Compared, compared_none, compared_next, all_compared}
use Rattle.recorded.proofs.reader.Cursor.counted.Goals as goal

pub returns : goal.returns
returns c =
    let ran = c.all.ensures.ran in
    let start = c.args.self.now in
    all_compared _ _ _ _ _ ran.0 ran.1 _ _ _ ran.3 (YieldsList-from_slice c.args.counts.now cc) ran.5
    (chained_keeps _ (λ xs q. Compared start.answers.now start.at xs (closure.captures q).recorded)
    (λ xs q x v so_far call. search (rules, compared_next)) ran.0 _ _ (compared_none _ _ start refl refl start.within) ran.4)
