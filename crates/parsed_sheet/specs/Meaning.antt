-- The meaning of a file, whatever areas a parse is lent: its outcome where each area has as many bytes as its limit allows (01, Areas).
use Rattle.std.specs.Prelude.{ℕ, ◌*◌}
use Rattle.area.specs.Contents.{Format, state_format, rule_format, entry_format, text_format, expected_format, fault_format}
use Rattle.section.specs.Request.{Request}
use Rattle.parse.specs.Parse.{Caps, caps, Outcome, outcome}

-- the bytes of as many records as an area may have
abbrev pub whole : {A : Type 0} → Format A → ℕ
whole F = F.most * F.width

abbrev pub limits : Caps
limits = caps (whole state_format) (whole rule_format) (whole entry_format) (whole text_format) (whole expected_format) (whole fault_format)

unfoldable pub meaning : Request → Outcome
meaning q = outcome q limits
