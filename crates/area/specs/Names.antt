-- The areas and their numbers (01, Areas).
-- Assumes nothing.
use Rattle.std.specs.Prelude.{ℕ}
use Rattle.area.specs.declared.AreaName.{AreaName}
use Rattle.area.specs.declared.AreaName.TheVariants.{States, Rules, Entries, Text, Expected, Faults}

-- its number (01, Areas)
abbrev pub area_number : AreaName → ℕ
area_number States = 1
area_number Rules = 2
area_number Entries = 3
area_number Text = 4
area_number Expected = 5
area_number Faults = 6
