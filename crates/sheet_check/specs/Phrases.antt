-- Short words for contracts: the sheet that is lent.
use Rattle.std.specs.Prelude.{◌≡◌, ℕ, true, List}
use Rattle.sheet_check.specs.declared.Sheet.{Sheet}
use Rattle.sheet_check.specs.SheetCheck.{SheetBytes, sheet_bytes, sizes_of, good_sizes}

-- the sheet, as it is lent
abbrev pub sheet_in : List ℕ → List ℕ → List ℕ → List ℕ → List ℕ → List ℕ → List ℕ → SheetBytes
sheet_in src area1 area2 area3 area4 area5 counts =
    sheet_bytes src area1 area2 area3 area4 area5 counts

-- the same, lent as one value
abbrev pub lent_sheet : Sheet → SheetBytes
lent_sheet s = sheet_bytes s.source.now s.states.now s.rules.now s.entries.now s.text.now s.expected.now s.counts.now

-- the sizes of the sheet pass their test: each area is long enough for its count
abbrev pub GoodSizes : Sheet → Type 0
GoodSizes s = good_sizes (sizes_of (lent_sheet s)) ≡ true
