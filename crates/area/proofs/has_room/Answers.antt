-- `area::has_room` meets its contract: the width and the limit are those of the format.
use Rattle.area.proofs.Rooms.{room_asked, room_told}
use Rattle.area.proofs.has_room.Goals as goal

pub has_room_of_width-requires : goal.has_room_of_width-requires
has_room_of_width-requires g c = room_asked g.met.R.Record.sized c.WIDTH.ensures c.MOST.ensures

pub returns : goal.returns
returns g c = room_told g.met.R.Record.sized c.WIDTH.ensures c.MOST.ensures _ _ _ _ c.has_room_of_width.ensures
