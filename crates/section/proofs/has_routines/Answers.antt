-- `section::has_routines` meets its contract: behind the `%%` there is room.
use Rattle.section.proofs.Lines.{percents_end}
use Rattle.section.proofs.has_routines.Goals as goal

pub parse_ws-requires : goal.parse_ws-requires
parse_ws-requires c = percents_end _ _ _ c.lookahead_is.ensures c.requires _ c.in-Some.is
