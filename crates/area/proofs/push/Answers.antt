use Rattle.area.proofs.Rooms.{was_next, was_small, push_next, push_full}
use Rattle.area.proofs.push.Goals as goal

pub write-requires : goal.write-requires
write-requires g c = was_next _ _ _ _ _ c.has_room.ensures c.if-has_room.true

pub overflow_add-result : goal.overflow_add-result
overflow_add-result g c = was_small _ _ _ _ _ _ c.has_room.ensures c.if-has_room.true g.met.R.Record.sized.few

pub returns-then-has_room : goal.returns-then-has_room
returns-then-has_room g c = push_next _ _ _ _ _ _ _ _ c.has_room.ensures _ c.if-has_room.true c.write.ensures

pub returns : goal.returns
returns g c = rw (c.NAME.ensures, g.met.R.Record.sized.name_is) (push_full _ _ _ _ _ _ _ _ c.has_room.ensures c.if-has_room.false)
