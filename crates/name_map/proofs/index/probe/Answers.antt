-- `name_map::index::probe` meets its contract: the slots that it has passed are taken by entries of other names.
use Rattle.std.proofs.Common.{◌≡◌, get_or, None, sym, ◌∙◌, arith}
use Rattle.name_map.specs.Map.{read_each}
use Rattle.name_map.specs.Phrases.{entries_in}
use Rattle.name_map.proofs.Maps.{name_compared}
use Rattle.name_map.proofs.Slots.{slot_read}
use Rattle.name_map.proofs.Probing.{passed_next, probe_free}
use Rattle.name_map.proofs.index.probe.Goals.{After-entry}
use Rattle.name_map.proofs.index.probe.Goals as goal

-- the entry that slot p has
entry_there : (c : After-entry) → get_or (entries_in c.args.slots.now) c.loop-p.p None ≡ c.entry.result
entry_there c = sym (slot_read c.args.slots.now c.loop-p.p _ (omega (arith, c.loop-p-test.true)) _ c.entry.ensures)

pub returns-in-None : goal.returns-in-None
returns-in-None c = λ n S.
    probe_free _ _ _ _ c.loop-p.invariant n S c.loop-p-test.true (entry_there (goal.at.returns-in-None c).After-entry ∙ c.in-None.is)

pub entry-requires-in-Some : goal.entry-requires-in-Some
entry-requires-in-Some c = c.requires _ _ (entry_there (goal.at.entry-requires-in-Some c).After-entry ∙ c.in-Some.is)

pub returns-then-has_name : goal.returns-then-has_name
returns-then-has_name c = λ n S.
    let map = c.args.map.now in (
      S.low _ _ (entry_there (goal.at.returns-then-has_name c).After-entry ∙ c.in-Some.is),
      sym (name_compared map.names.now (read_each map.entries.now) _ _ c.entry-in-Some.ensures _ _ c.has_name.ensures) ∙ c.if-has_name.true,
    )

pub loop-p-preserved : goal.loop-p-preserved
loop-p-preserved c =
    let map = c.args.map.now in
    passed_next _ _ _ _ c.loop-p.invariant c.loop-p-test.true _ (entry_there (goal.at.loop-p-preserved c).After-entry ∙ c.in-Some.is)
    (sym (name_compared map.names.now (read_each map.entries.now) _ _ c.entry-in-Some.ensures _ _ c.has_name.ensures) ∙ c.if-has_name.false)
