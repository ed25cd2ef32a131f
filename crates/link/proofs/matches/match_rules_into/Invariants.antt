-- `link::matches::match_rules_into` meets its contract: the rules so far are matched, and each of the three ways goes on by one.
use Prim.Native.Nat.{◌≤◌}
use Rattle.names.specs.Names.{name_of}
use Rattle.name_map.specs.Phrases.{map_in, entries_in}
use Rattle.link.proofs.Matching.{Matching}
use Rattle.link.proofs.matches.match_rules_into.Given as goal

abbrev pub invariant-loop-k : goal.invariant-loop-k
invariant-loop-k l = (l.unmapped_count ≤ l.k) × Matching (name_of l.src) (map_in l.index.map) l.rules l.k l.unmapped_count (entries_in l.found) l.used
