-- What the areas of the rules hold, by counts of their records (01, Areas).
use Rattle.std.specs.Prelude.{ℕ, List}
use Rattle.area.specs.Contents.{contents, rule_format, entry_format, text_format, fault_format, Held}
use Rattle.fault.specs.Faults.{HeldFaults}
use Rattle.rules_section.specs.RulesSection.{Sheet, sheet, Ruled, Caps}
use Rattle.rules_section.specs.declared.SheetCounts.{SheetCounts}
use Rattle.rules_section.specs.declared.RuleCounts.{RuleCounts}

-- the rules, list entries and text that areas 2, 3 and 4 hold
abbrev pub rules_sheet_in : List ℕ → List ℕ → List ℕ → SheetCounts → Sheet
rules_sheet_in l2 l3 l4 q = sheet (contents rule_format l2 q.rules) (contents entry_format l3 q.entries) (contents text_format l4 q.text)

-- they hold these many, and zeros behind them
pub record HeldSheet (l2 l3 l4 : List ℕ) (q : SheetCounts) : Type 0 where
  pub rules : Held rule_format l2 q.rules
  pub entries : Held entry_format l3 q.entries
  pub text : Held text_format l4 q.text

abbrev pub sheet_counts : ℕ → ℕ → ℕ → SheetCounts
sheet_counts r e t = record { rules = r; entries = e; text = t }

-- the rules, list entries, text and faults that areas 2, 3, 4 and 6 hold
abbrev pub ruled_in : List ℕ → List ℕ → List ℕ → List ℕ → RuleCounts → Ruled
ruled_in l2 l3 l4 l6 q = record {
  rules = contents rule_format l2 q.sheet.rules;
  lists = contents entry_format l3 q.sheet.entries;
  text = contents text_format l4 q.sheet.text;
  faults = contents fault_format l6 q.faults;
}

-- they hold these many, and zeros behind them
pub record HeldRuled (l2 l3 l4 l6 : List ℕ) (q : RuleCounts) : Type 0 where
  pub sheet : HeldSheet l2 l3 l4 q.sheet
  pub faults : HeldFaults l6 q.faults

abbrev pub rule_counts : SheetCounts → ℕ → RuleCounts
rule_counts q f = record { sheet = q; faults = f }

-- the lengths of areas 2, 3 and 4
abbrev pub rule_caps_of : ℕ → ℕ → ℕ → Caps
rule_caps_of c2 c3 c4 = record { c2 = c2; c3 = c3; c4 = c4 }
