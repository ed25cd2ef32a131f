use Rattle.std.proofs.Common.{◌∙◌}
use Rattle.area.proofs.Lists.{insert_tail}
use Rattle.area.proofs.insert.Goals as goal

pub returns : goal.returns
returns g c = insert_tail _ _ _ _ _ (c.WIDTH-width.ensures ∙ g.met.R.Record.sized.width_is) c.insert_front.ensures
