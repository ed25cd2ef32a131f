-- `parse::sections::parse_sections` meets its contract: each return is an outcome of the file.
use Rattle.std.proofs.Common.{refl, rules}
use Rattle.section.specs.Request.{asked_by}
use Rattle.parse.proofs.Files.{nothing_held, none_distinct, none_inside, opening_faults, file_stops}
use Rattle.parse.proofs.Files.{rules_inside, states_fit, rules_held, rules_faults, rules_stop, rules_judged}
use Rattle.parse.proofs.sections.parse_sections.Goals as goal

pub parse_opening-requires : goal.parse_opening-requires
parse_opening-requires c = record { held_declared = nothing_held c.requires.zeroed c.default.ensures }

pub close-requires : goal.close-requires
close-requires c = opening_faults (asked_by c.args.lex_file) _ _ _ _ _ _ c.requires.zeroed c.default.ensures _ _ _ _ _ c.parse_opening.ensures.does refl refl (search rules) _ c.in-Err.is

pub new-states-requires : goal.new-states-requires
new-states-requires c = states_fit (asked_by c.args.lex_file) _ _ _ _ _ _ c.requires.zeroed c.default.ensures _ _ _ _ _ c.parse_opening.ensures.does (search rules) refl refl c.in-Ok.is

pub parse_rules-requires-clause-i_in_bounds : goal.parse_rules-requires-clause-i_in_bounds
parse_rules-requires-clause-i_in_bounds c =
    rules_inside (asked_by c.args.lex_file) _ _ _ _ _ _ c.requires.zeroed c.default.ensures _ _ _ _ _ c.parse_opening.ensures.does refl refl refl c.in-Ok.is

pub parse_rules-requires-clause-held_ruled : goal.parse_rules-requires-clause-held_ruled
parse_rules-requires-clause-held_ruled c =
    rw c.no_rules.ensures (rules_held (asked_by c.args.lex_file) _ _ _ _ _ _ c.requires.zeroed c.default.ensures _ _ _ _ _ c.parse_opening.ensures.does refl refl (search rules) c.in-Ok.is)

pub parse_rules-requires-clause-distinct_names : goal.parse_rules-requires-clause-distinct_names
parse_rules-requires-clause-distinct_names c = rw c.no_rules.ensures (none_distinct _ _)

pub parse_rules-requires-clause-names_inside : goal.parse_rules-requires-clause-names_inside
parse_rules-requires-clause-names_inside c = rw c.no_rules.ensures (none_inside _ _)

pub close-requires-in-Err-parse_rules : goal.close-requires-in-Err-parse_rules
close-requires-in-Err-parse_rules c =
    rules_faults (asked_by c.args.lex_file) _ _ _ _ _ _ c.requires.zeroed c.default.ensures _ _ _ _ _ c.parse_opening.ensures.does (search rules) refl (search rules) c.in-Ok.is
    _ _ _ _ _ _ _ c.new-states.ensures _ c.no_rules.ensures c.parse_rules.ensures.does c.parse_opening.ensures.same.faults.long
    refl refl refl (search rules) _ c.in-Err-parse_rules.is

pub returns-in-Err : goal.returns-in-Err
returns-in-Err c =
    file_stops (asked_by c.args.lex_file) _ _ _ _ _ _ c.requires.zeroed c.default.ensures _ _ _ _ _ c.parse_opening.ensures.does (search rules) (search rules) (search rules) _ c.in-Err.is c.parse_opening.ensures.same.faults.long
    c.close.ensures

pub returns-in-Err-parse_rules : goal.returns-in-Err-parse_rules
returns-in-Err-parse_rules c =
    rules_stop (asked_by c.args.lex_file) _ _ _ _ _ _ c.requires.zeroed c.default.ensures _ _ _ _ _ c.parse_opening.ensures.does (search rules) (search rules) (search rules) c.in-Ok.is
    _ _ _ _ _ _ _ c.new-states.ensures _ c.no_rules.ensures c.parse_rules.ensures.does c.parse_opening.ensures.same.faults.long
    (search rules) (search rules) (search rules) (search rules) _ c.in-Err-parse_rules.is
    c.parse_rules.ensures.same.faults.long c.close-in-Err-parse_rules.ensures

pub returns-in-Ok-parse_rules : goal.returns-in-Ok-parse_rules
returns-in-Ok-parse_rules c =
    rules_judged (asked_by c.args.lex_file) _ _ _ _ _ _ c.requires.zeroed c.default.ensures _ _ _ _ _ c.parse_opening.ensures.does (search rules) (search rules) (search rules) c.in-Ok.is
    _ _ _ _ _ _ _ c.new-states.ensures _ c.no_rules.ensures c.parse_rules.ensures.does c.parse_opening.ensures.same.faults.long
    (search rules) (search rules) (search rules) (search rules) c.in-Ok-parse_rules.is
    _ c.judge.ensures
