-- `link::call::link_checked` meets its contract: each way out is the definition's.
use Rattle.std.proofs.lemmas.Result.{err_from_is_err_and}
use mathlib.Core.Path.{◌≡◌, sym, ap, subst, ◌∙◌}
use mathlib.Core.Bool.{Bool}
use mathlib.Core.List.{List}
use native.Mathlib.Omega.{arith}
use lib.ListN.{length, take}
use Rattle.area.specs.declared.Rule.{Rule}
use Rattle.area.specs.Records.{most_rules}
use Rattle.area.specs.Contents.{rule_format, entry_format, laid}
use Rattle.area.proofs.Contents.{contents_count}
use Rattle.names.specs.Names.{name_of}
use Rattle.name_map.specs.Phrases.{map_in, entries_in}
use Rattle.name_map.proofs.Maps.{map_count}
use Rattle.name_map.proofs.Slots.{slots_free}
use Rattle.link.specs.declared.LinkArea.TheVariants.{Unmapped, Unused}
use Rattle.link.specs.Link.{unused, unlinked, fits}
use Rattle.link.specs.Matches.{EntriesFound, MatchedInto, unmarked}
use Rattle.link.specs.Phrases.{rules_in}
use Rattle.link.proofs.Counting.{unmarked_take}
use Rattle.link.proofs.Outcomes.{room_left, short_7, short_8, none_short, unlinked_left, all_written}
use Rattle.link.proofs.call.link_checked.Goals.{After-match_rules_into-unmapped_count}
use Rattle.link.proofs.call.link_checked.Goals as goal

-- what was found and marked, said of the rules of area 2
matched : (c : After-match_rules_into-unmapped_count)
    → let first = c.match_rules_into-unmapped_count in
    MatchedInto (name_of c.args.src.now) (map_in c.args.index.now.map) (rules_in c.args.area2.now c.args.rules)
    first.result (entries_in first.new.found) first.new.used
matched c =
    let first = c.match_rules_into-unmapped_count in
    subst (λ (xs : List Rule). MatchedInto (name_of c.args.src.now) (map_in c.args.index.now.map) xs first.result (entries_in first.new.found) first.new.used)
    c.new-lent.ensures first.ensures

-- the marks of the entries
abbrev marks : After-match_rules_into-unmapped_count → List Bool
marks c = take (length c.args.index.now.map.entries.now) c.match_rules_into-unmapped_count.new.used

-- the numbers that are written to area 8
idle : (c : After-match_rules_into-unmapped_count)
    → unmarked (marks c) (length (marks c))
    ≡ unused (name_of c.args.src.now) (map_in c.args.index.now.map) (rules_in c.args.area2.now c.args.rules)
idle c =
    let map = c.args.index.now.map in
    let used = c.match_rules_into-unmapped_count.new.used in
    unmarked_take used (length map.entries.now) (omega (arith, c.requires.few_entries))
    ∙ ap (unmarked used) (sym (map_count map.names.now map.entries.now)) ∙ (matched c).without_mark

-- the rules that were found, by the number of rules
kept : (c : After-match_rules_into-unmapped_count)
    → EntriesFound (name_of c.args.src.now) (map_in c.args.index.now.map) (rules_in c.args.area2.now c.args.rules) c.args.rules
    (entries_in c.match_rules_into-unmapped_count.new.found)
kept c =
    let found = entries_in c.match_rules_into-unmapped_count.new.found in
    subst (λ n. EntriesFound (name_of c.args.src.now) (map_in c.args.index.now.map) (rules_in c.args.area2.now c.args.rules) n found)
    (contents_count rule_format c.args.area2.now c.args.rules) (matched c).kept

pub returns-in_err-check_room : goal.returns-in_err-check_room
returns-in_err-check_room c =
    let a = c.args in
    let m = matched (goal.at.returns-in_err-check_room c).After-match_rules_into-unmapped_count in
    let p = err_from_is_err_and c.from_residual.result c.from_residual.ensures.1 in
    let short = short_7 (name_of a.src.now) (rules_in a.area2.now a.rules) (map_in a.index.now.map) a.area2.now a.area7.now a.area8.now
    _ m.missing _ (sym c.in_err-check_room.was ∙ c.check_room.ensures) in
    rw (p.1, p.2) short

pub returns-in_err-check_room-2 : goal.returns-in_err-check_room-2
returns-in_err-check_room-2 c =
    let a = c.args in
    let m = matched (goal.at.returns-in_err-check_room-2 c).After-match_rules_into-unmapped_count in
    let p = err_from_is_err_and c.from_residual-in_err-check_room-2.result c.from_residual-in_err-check_room-2.ensures.1 in
    let free = c.count_unused-unused_count.ensures ∙ ap length (idle (goal.at.returns-in_err-check_room-2 c).After-match_rules_into-unmapped_count) in
    let short = short_8 (name_of a.src.now) (rules_in a.area2.now a.rules) (map_in a.index.now.map) a.area2.now a.area7.now a.area8.now
    _ m.missing _ (sym c.in_ok-check_room.was ∙ c.check_room.ensures)
    _ free _ (sym c.in_err-check_room-2.was ∙ c.check_room-2.ensures) in
    rw (p.1, p.2) short

pub match_rules_into-unmapped_count-requires-clause-few_rules : goal.match_rules_into-unmapped_count-requires-clause-few_rules
match_rules_into-unmapped_count-requires-clause-few_rules c =
    omega (arith, ap length c.new-lent.ensures, contents_count rule_format c.args.area2.now c.args.rules, c.requires.few_rules.0)

pub match_rules_into-unmapped_count-requires-clause-none_found : goal.match_rules_into-unmapped_count-requires-clause-none_found
match_rules_into-unmapped_count-requires-clause-none_found c = slots_free most_rules

pub write_unlinked-requires-clause-rules_le_most_rules : goal.write_unlinked-requires-clause-rules_le_most_rules
write_unlinked-requires-clause-rules_le_most_rules c =
    omega (arith, ap length c.new-linked.ensures, contents_count rule_format c.link_rules_by_slots.new.area c.args.rules, c.requires.few_rules.0)

pub write_unused-requires-clause-room : goal.write_unused-requires-clause-room
write_unused-requires-clause-room c =
    room_left _ _ _ Unused c.count_unused-unused_count.ensures _ (sym c.in_ok-check_room-2.was ∙ c.check_room-2.ensures)

pub link_rules_by_slots-requires-clause-found_inside : goal.link_rules_by_slots-requires-clause-found_inside
link_rules_by_slots-requires-clause-found_inside c = (matched (goal.at.link_rules_by_slots-requires-clause-found_inside c).After-match_rules_into-unmapped_count).inside

pub write_unlinked-requires-clause-room : goal.write_unlinked-requires-clause-room
write_unlinked-requires-clause-room c =
    let a = c.args in
    let first = (goal.at.write_unlinked-requires-clause-room c).After-match_rules_into-unmapped_count in
    let linked = c.link_rules_by_slots.ensures (name_of a.src.now) (kept first) in
    let left = ap unlinked c.new-linked.ensures ∙ unlinked_left (name_of a.src.now) (map_in a.index.now.map) a.area2.now a.rules _ linked in
    ap (λ ns. fits ns a.area7.now) left
    ∙ room_left _ _ _ Unmapped (matched first).missing _ (sym c.in_ok-check_room.was ∙ c.check_room.ensures)

pub returns : goal.returns
returns c =
    let a = c.args in
    let first = (goal.at.returns c).After-match_rules_into-unmapped_count in
    let m = matched first in
    let linked = c.link_rules_by_slots.ensures (name_of a.src.now) (kept first) in
    let free = c.count_unused-unused_count.ensures ∙ ap length (idle first) in
    let seven = c.write_unlinked.ensures ∙ ap (λ xs. laid entry_format (length a.area7.now) (unlinked xs)) c.new-linked.ensures in
    let eight = c.write_unused.ensures ∙ ap (laid entry_format (length a.area8.now)) (idle first) in
    all_written (name_of a.src.now) (map_in a.index.now.map) a.area2.now a.rules _ linked _ a.area7.now a.area8.now _ _ seven eight
    ∙ none_short (name_of a.src.now) (rules_in a.area2.now a.rules) (map_in a.index.now.map) a.area2.now a.area7.now a.area8.now
    _ m.missing _ (sym c.in_ok-check_room.was ∙ c.check_room.ensures)
    _ free _ (sym c.in_ok-check_room-2.was ∙ c.check_room-2.ensures)
