-- What the areas of the rules section hold, as one value with their counts (01, Areas).
use Rattle.std.specs.Prelude.{◌≡◌, List, length}
use Rattle.area.specs.declared.Rule.{Rule}
use Rattle.area.specs.Contents.{contents, rule_format}
use Rattle.area.specs.Phrases.{SameArea}
use Rattle.rules_section.specs.declared.areas.RuleAreas.{RuleAreas}
use Rattle.rules_section.specs.RulesSection.{Sheet, Ruled, Caps}
use Rattle.rules_section.specs.Answers.{rules_sheet_in, ruled_in, HeldSheet, HeldRuled, rule_caps_of}

-- the four areas that were lent
pub record SameAreas (a b : RuleAreas) : Type 0 where
  pub rules : SameArea a.rules b.rules
  pub entries : SameArea a.entries b.entries
  pub text : SameArea a.text b.text
  pub faults : SameArea a.faults b.faults

-- the faults stay as they are
pub record SameFaults (a b : RuleAreas) : Type 0 where
  pub bytes : b.faults.now ≡ a.faults.now
  pub count : b.counts.faults ≡ a.counts.faults

-- how many bytes there are for rules, list entries and text
abbrev pub caps_in : RuleAreas → Caps
caps_in a = rule_caps_of (length a.rules.now) (length a.entries.now) (length a.text.now)

-- the rules (01, Areas, 2)
abbrev pub rules_in : RuleAreas → List Rule
rules_in a = contents rule_format a.rules.now a.counts.sheet.rules

-- the rules, list entries and text (01, Areas, 2 to 4)
abbrev pub sheet_held_in : RuleAreas → Sheet
sheet_held_in a = rules_sheet_in a.rules.now a.entries.now a.text.now a.counts.sheet

-- the same with the faults (01, Areas, 6)
abbrev pub ruled_held_in : RuleAreas → Ruled
ruled_held_in a = ruled_in a.rules.now a.entries.now a.text.now a.faults.now a.counts

-- the rules, list entries and text are as many as the counts say, with zeros behind them (01, Areas)
abbrev pub SheetHeld : RuleAreas → Type 0
SheetHeld a = HeldSheet a.rules.now a.entries.now a.text.now a.counts.sheet

-- the same with the faults
abbrev pub RuledHeld : RuleAreas → Type 0
RuledHeld a = HeldRuled a.rules.now a.entries.now a.text.now a.faults.now a.counts
