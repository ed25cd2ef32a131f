-- The values of the parse call's answers have two bytes: a full area is one of the six, and no fault list passes its limit.
use Prim.Native.Nat.{ℕ, ◌≤◌}
use mathlib.Core.List.{List}
use native.Mathlib.Omega.{arith}
use lib.ListN.{length}
use Rattle.answers.specs.Numbers.{accepted_number, long_file_number, unknown_flag_number, invalid_utf8_number, area_full_number, faulty_file_number}
use Rattle.area.specs.declared.AreaName.{AreaName}
use Rattle.area.specs.declared.AreaName.TheVariants as Areas
use Rattle.area.specs.Names.{area_number}
use Rattle.answers.specs.Words.{TwoBytes}
use Rattle.answers.proofs.Words.{two_bytes, no_values}
use Rattle.section.specs.Request.{Request}
use Rattle.parse.specs.Parse.{Caps, Outcome, long_file, unknown_flag, invalid_utf8, area_full, faulty, accepted, outcome, leaves, parse_call, parse_fields}
use Rattle.parsed_sheet.proofs.Bounds.{Bounded, outcome_bounded}

area_small : (name : AreaName) → area_number name ≤ 6
area_small Areas.States = omega arith
area_small Areas.Rules = omega arith
area_small Areas.Entries = omega arith
area_small Areas.Text = omega arith
area_small Areas.Expected = omega arith
area_small Areas.Faults = omega arith

outcome_small : (s : List ℕ) (k : Caps) (o : Outcome) → Bounded s k.c6 o → TwoBytes (parse_fields (leaves k o).answer)
unfolding leaves parse_fields
outcome_small s k long_file b = no_values long_file_number (omega arith)
outcome_small s k unknown_flag b = no_values unknown_flag_number (omega arith)
outcome_small s k invalid_utf8 b = no_values invalid_utf8_number (omega arith)
outcome_small s k (area_full name) b =
    two_bytes area_full_number (area_number name) 0 0 (omega arith) (omega (arith, area_small name)) (omega arith) (omega arith)
outcome_small s k (faulty fs) b = two_bytes faulty_file_number (length fs) 0 0 (omega arith) (omega (arith, b.few)) (omega arith) (omega arith)
outcome_small s k (accepted c) b = no_values accepted_number (omega arith)

pub parse_small : (asked : Request) (k : Caps) → TwoBytes (parse_fields (parse_call asked k).answer)
unfolding parse_call
parse_small asked k = outcome_small asked.source k (outcome asked k) (outcome_bounded asked k)
