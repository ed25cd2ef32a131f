-- `link::matches::match_rules_into` meets its contract: the rules so far are matched, and each of the three ways goes on by one.
use mathlib.Core.Path.{sym, ◌∙◌}
use Prim.Native.Nat.{◌<◌}
use native.Mathlib.Omega.{arith}
use Rattle.name_map.specs.Map.{most_entries}
use Rattle.name_map.proofs.Maps.{some_found, map_count}
use Rattle.name_map.proofs.Slots.{slot_set}
use Rattle.link.proofs.Matching.{matching_none, matching_unnamed, matching_found, matching_missing, matched}
use Rattle.link.proofs.matches.match_rules_into.Goals.{In-Some}
use Rattle.link.proofs.matches.match_rules_into.Goals as goal

pub loop-k-init : goal.loop-k-init
loop-k-init c = (omega arith, matching_none _ _ _ _ _ c.requires.none_found c.requires.none_used)

pub loop-k-preserved-then-not-is_named : goal.loop-k-preserved-then-not-is_named
loop-k-preserved-then-not-is_named c = (
  omega arith,
  matching_unnamed _ _ _ c.loop-k.invariant.1 (omega (arith, c.loop-k-test.true, c.count-k-end.ensures)) _ c.get-x.ensures (sym c.is_named.ensures ∙ c.if-not-is_named.true),
)

pub loop-k-preserved-in_default : goal.loop-k-preserved-in_default
loop-k-preserved-in_default c = (
  omega arith,
  matching_missing _ _ _ c.loop-k.invariant.1 (omega (arith, c.loop-k-test.true, c.count-k-end.ensures)) _ c.get-x.ensures c.args.index.now.index.different
      (sym c.is_named.ensures ∙ c.if-not-is_named.false) (sym c.in_default.is ∙ c.entry_of.ensures),
)

-- the entry that was found is one of the map
inside : (c : In-Some) → c.in-Some.j < most_entries
inside c =
    let map = c.args.index.now.map in
    let at = some_found _ _ _ (sym c.in-Some.is ∙ c.entry_of.ensures) in
    omega (arith, at.0, map_count map.names.now map.entries.now, c.requires.few_entries)

pub overflow_cast-j : goal.overflow_cast-j
overflow_cast-j c = record { fits = omega (arith, inside (goal.at.overflow_cast-j c).In-Some) }

pub of-requires : goal.of-requires
of-requires c = omega (arith, inside (goal.at.of-requires c).In-Some)

pub bounds-used-j : goal.bounds-used-j
bounds-used-j c = omega (arith, inside (goal.at.bounds-used-j c).In-Some)

pub loop-k-preserved : goal.loop-k-preserved
loop-k-preserved c = (
  omega arith,
  matching_found _ _ _ c.loop-k.invariant.1 (omega (arith, c.loop-k-test.true, c.count-k-end.ensures)) _ c.get-x.ensures c.args.index.now.index.different
      (sym c.is_named.ensures ∙ c.if-not-is_named.false) _ (sym c.in-Some.is ∙ c.entry_of.ensures)
      (omega (arith, c.loop-k-test.true, c.count-k-end.ensures, c.requires.few_rules)) (omega (arith, inside (goal.at.loop-k-preserved c).In-Some))
      _ (slot_set c.loop-k.found c.loop-k.k c.of.result _ c.of.ensures),
)

pub returns : goal.returns
returns c = matched _ _ _ c.loop-k.invariant.1 (omega arith) (omega arith)
