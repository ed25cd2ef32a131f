-- `link::rule_ids::link_rule` meets its contract: an unnamed rule is kept, a named one gets the id of the entry that was found or none.
use Rattle.std.specs.Prelude.{Some, None}
use mathlib.Core.Path.{sym, ap, ◌∙◌}
use native.Mathlib.Omega.{arith}
use Rattle.name_map.proofs.Maps.{read-count, id_read}
use Rattle.name_map.specs.Map.{read_each}
use Rattle.name_map.specs.Phrases.{map_in}
use Rattle.link.specs.Matches.{found_id}
use Rattle.link.proofs.LinkedRules.{link_unnamed, link_named}
use Rattle.link.proofs.rule_ids.link_rule.Goals as goal

pub returns-then-not-is_named : goal.returns-then-not-is_named
returns-then-not-is_named c = link_unnamed _ _ _ (sym c.is_named.ensures ∙ c.if-not-is_named.true)

pub returns-in-Some : goal.returns-in-Some
returns-in-Some c =
    let map = c.args.map.now in
    let id = id_read map.names.now (read_each map.entries.now) c.in-Some.j _ c.entry.ensures (omega (arith, c.requires c.in-Some.j c.in-Some.is, read-count map.entries.now)) in
    link_named (map_in map) c.args.found _ (sym c.is_named.ensures ∙ c.if-not-is_named.false) (Some c.entry.result.id) (id ∙ ap (found_id (map_in map)) (sym c.in-Some.is)) _ c.with_id.ensures

pub returns-in-None : goal.returns-in-None
returns-in-None c =
    let es = map_in c.args.map.now in
    link_named es c.args.found _ (sym c.is_named.ensures ∙ c.if-not-is_named.false) None (ap (found_id es) (sym c.in-None.is)) _ c.with_id-in-None.ensures
