-- `area::has_room_of_width` meets its contract: each way out is one law of `room`.
use Rattle.std.proofs.Common.{◌+◌, arith}
use Rattle.area.proofs.Rooms.{room_over, room_within, product_fits}
use Rattle.area.proofs.has_room_of_width.Goals as goal

pub returns-then-limit-n : goal.returns-then-limit-n
returns-then-limit-n c = room_over _ _ _ _ _ (omega (arith, c.if-limit-n.true))

pub returns-then-limit-n-2 : goal.returns-then-limit-n-2
returns-then-limit-n-2 c = room_over _ _ _ _ _ (omega (arith, c.if-limit-n.false, c.if-limit-n-2.true))

pub overflow_mul-result : goal.overflow_mul-result
overflow_mul-result c =
    product_fits c.args.width c.args.limit (c.args.n + c.args.m) c.requires.0 c.requires.1 (omega (arith, c.if-limit-n.false, c.if-limit-n-2.false))

pub returns : goal.returns
returns c = room_within _ _ _ _ _ (omega (arith, c.if-limit-n.false, c.if-limit-n-2.false))
