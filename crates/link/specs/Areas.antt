-- The two areas for the numbers of a link, and their own numbers (01, Linking).
-- Assumes nothing.
use Rattle.std.specs.Prelude.{ℕ}
use Rattle.link.specs.declared.LinkArea.{LinkArea}
use Rattle.link.specs.declared.LinkArea.TheVariants.{Unmapped, Unused}

-- its number (01, Linking)
abbrev pub link_area_number : LinkArea → ℕ
link_area_number Unmapped = 7
link_area_number Unused = 8
