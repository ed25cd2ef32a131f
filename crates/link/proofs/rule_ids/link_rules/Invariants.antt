-- `link::rule_ids::link_rules` meets its contract: the rules so far are linked and written back, whatever gives the names.
use Rattle.name_map.specs.Phrases.{map_in}
use Rattle.link.proofs.LinkedRules.{Linking}
use Rattle.link.proofs.rule_ids.link_rules.Given as goal

abbrev pub invariant-loop-at : goal.invariant-loop-at
invariant-loop-at l = Linking (map_in l.map) l.initial.area l.count l.found l.at l.area
