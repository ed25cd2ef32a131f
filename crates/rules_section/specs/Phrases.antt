-- Short words for contracts: a step over what the areas of the rules hold (01, Areas).
use Rattle.std.specs.Prelude.{ℕ, Result, length}
use Rattle.area.specs.Phrases.{Lent, before, after}
use Rattle.fault.specs.declared.Stop.{Stop}
use Rattle.fault.specs.Step.{Out, Does, outcome}
use Rattle.rules_section.specs.declared.areas.RuleAreas.{RuleAreas}
use Rattle.rules_section.specs.RulesSection.{Caps, Sheet, Ruled}
use Rattle.rules_section.specs.Answers.{rules_sheet_in, HeldSheet, ruled_in, HeldRuled}
use Rattle.rules_section.specs.Areas.{caps_in, sheet_held_in, ruled_held_in}

-- the step f, over areas with so many bytes, does to the rules, list entries and text in them what r and the counts afterwards tell
abbrev pub DoesSheet : (Caps → Sheet → Out Sheet) → Lent RuleAreas → Result ℕ Stop → Type 0
DoesSheet f p r =
    Does (HeldSheet (after p).rules.now (after p).entries.now (after p).text.now) (f (caps_in (before p))) (sheet_held_in (before p))
    (rules_sheet_in (after p).rules.now (after p).entries.now (after p).text.now) (outcome r (after p).counts.sheet)

-- the same with the faults
abbrev pub DoesRuled : (Caps → ℕ → Ruled → Out Ruled) → Lent RuleAreas → Result ℕ Stop → Type 0
DoesRuled f p r =
    Does (HeldRuled (after p).rules.now (after p).entries.now (after p).text.now (after p).faults.now)
    (f (caps_in (before p)) (length (before p).faults.now)) (ruled_held_in (before p))
    (ruled_in (after p).rules.now (after p).entries.now (after p).text.now (after p).faults.now) (outcome r (after p).counts)
