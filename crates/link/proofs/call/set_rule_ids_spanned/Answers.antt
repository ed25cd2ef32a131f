-- `link::call::set_rule_ids_spanned` meets its contract: the sheet check, the map check, and the link of what passed both.
use Rattle.std.specs.Prelude.{is_some}
use mathlib.Core.Path.{◌≡◌, sym, ap, ◌∙◌}
use Rattle.sheet_check.specs.declared.Sizes.{Sizes}
use Rattle.sheet_check.specs.SheetCheck.{sheet_bytes}
use Rattle.link.proofs.Outcomes.{call_entries, call_sheet, call_map, call_rules, call_linked}
use Rattle.name_map.specs.Index.{slot_count}
use Rattle.name_map.proofs.Maps.{entries_count, map_count}
use Rattle.name_map.proofs.Slots.{slots_free}
use native.Mathlib.Omega.{arith}
use lib.ListN.{length}
use Rattle.link.proofs.call.set_rule_ids_spanned.Goals as goal

pub returns-then-not-check : goal.returns-then-not-check
returns-then-not-check c =
    let lent = sheet_bytes c.args.src.now c.args.area1.now c.args.area2.now c.args.area3.now c.args.area4.now c.args.area5.now c.args.counts.now in
    call_sheet lent c.args.names.now c.args.entries.now c.args.area7.now c.args.area8.now
    _ c.check.ensures c.if-not-check.true

pub returns-in_default : goal.returns-in_default
returns-in_default c =
    let lent = sheet_bytes c.args.src.now c.args.area1.now c.args.area2.now c.args.area3.now c.args.area4.now c.args.area5.now c.args.counts.now in
    call_map lent c.args.names.now c.args.entries.now c.args.area7.now c.args.area8.now
    _ c.check.ensures c.if-not-check.false (sym (ap is_some c.in_default.is) ∙ c.check_map.ensures.is)

pub check_map-requires : goal.check_map-requires
check_map-requires c = slots_free slot_count

pub invariant_of-index : goal.invariant_of-index
invariant_of-index c = record { index = c.check_map.ensures.index _ c.in-Some.is }

-- the sheet's number of rules is its second count
counted : {q z : Sizes} → q ≡ z → q.rules ≡ z.rules
counted e = ap (λ (x : Sizes). x.rules) e

pub link_checked-requires-clause-few_rules : goal.link_checked-requires-clause-few_rules
link_checked-requires-clause-few_rules c =
    let lent = sheet_bytes c.args.src.now c.args.area1.now c.args.area2.now c.args.area3.now c.args.area4.now c.args.area5.now c.args.counts.now in
    rw (counted c.sizes-rules.ensures) (call_rules lent _ c.check.ensures c.if-not-check.false)

pub link_checked-requires-clause-few_entries : goal.link_checked-requires-clause-few_entries
link_checked-requires-clause-few_entries c =
    let map = c.in-Some.map in
    let few = call_entries c.args.names.now c.args.entries.now _ c.check_map.ensures.is (ap is_some c.in-Some.is) in
    omega (arith, map_count map.names.now map.entries.now, ap length (c.check_map.ensures.map _ c.in-Some.is), entries_count c.args.names.now c.args.entries.now, few)

pub returns : goal.returns
returns c =
    let lent = sheet_bytes c.args.src.now c.args.area1.now c.args.area2.now c.args.area3.now c.args.area4.now c.args.area5.now c.args.counts.now in
    rw (counted c.sizes-rules.ensures) at c.link_checked.ensures
    ∙ call_linked lent c.args.names.now c.args.entries.now c.args.area7.now c.args.area8.now
    _ c.check.ensures c.if-not-check.false (sym (ap is_some c.in-Some.is) ∙ c.check_map.ensures.is) _ (c.check_map.ensures.map _ c.in-Some.is)
