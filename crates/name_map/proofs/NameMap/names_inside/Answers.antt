-- `name_map::NameMap::names_inside` meets its contract: the closure joins the answer of one entry to those so far.
use Rattle.std.proofs.Common.{◌≡◌, ℕ, true, List, Bor, rules}
use Rattle.std.proofs.iter.Yields.{fronts}
use Rattle.std.proofs.lemmas.Fn.{fold_over}
use Rattle.std.proofs.lemmas.Iterator.{YieldsList-from_slice}
use Rattle.area.specs.Lists.{all}
use Rattle.name_map.specs.Map.{read_each, name_inside}
use Rattle.name_map.proofs.Maps.{inside_none, inside_next}
use Rattle.name_map.proofs.NameMap.names_inside.Goals as goal

pub returns : goal.returns
returns c =
    let n : ℕ = c.args.n in
    fold_over fronts (λ (b : Bor (List ℕ)). b.now) _ (λ chunks t. t ≡ all (name_inside n) (read_each chunks)) _
    (λ chunks t (b : Bor (List ℕ)) u f before k. (inside_next n chunks b.now t u before (search rules), search rules)) c.iter.result _ true _
    (YieldsList-from_slice {s = c.iter.result} _ c.iter.ensures.rest).runs (inside_none n) c.fold.ensures.ran
