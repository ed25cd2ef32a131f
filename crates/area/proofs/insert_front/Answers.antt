use Rattle.std.proofs.Common.{◌∙◌}
use Rattle.area.proofs.Lists.{move_front}
use Rattle.area.proofs.insert_front.Goals as goal

pub returns : goal.returns
returns g c =
    let s = g.met.R.Record.sized in
    move_front _ _ _ (c.WIDTH.ensures ∙ s.width_is) (s.wide c.args.x) c.requires c.copy_within.ensures.after c.write.ensures
