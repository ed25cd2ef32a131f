-- Each area is lent as long as it was recorded, and comes back at the front of its buffer.
use Rattle.std.proofs.Common.{refl}
use Rattle.replay.proofs.Calling.{stands_first, stands_next, returned, called}
use Rattle.replay.proofs.call.parse_into.Goals as goal

pub returns : goal.returns
returns c =
    let s0 = stands_first c.args.lengths.now in
    let s1 = stands_next s0 c.lent-c1.ensures.goes in
    let s2 = stands_next s1 c.lent-c2.ensures.goes in
    let s3 = stands_next s2 c.lent-c3.ensures.goes in
    let s4 = stands_next s3 c.lent-c4.ensures.goes in
    let s5 = stands_next s4 c.lent-c5.ensures.goes in
    let back = c.troymantle_parse.auto in
    called _ _ _ _ _ _ _ _ _ _ _ _ _ _ _ _ _ _ _ _ _ _ _ c.troymantle_parse.ensures
    (returned s0 _ _ _ _ c.lent-c1.ensures.is refl back.area1)
    (returned s1 _ _ _ _ c.lent-c2.ensures.is refl back.area2)
    (returned s2 _ _ _ _ c.lent-c3.ensures.is refl back.area3)
    (returned s3 _ _ _ _ c.lent-c4.ensures.is refl back.area4)
    (returned s4 _ _ _ _ c.lent-c5.ensures.is refl back.area5)
    (returned s5 _ _ _ _ c.lent-c6.ensures.is refl back.area6)
