-- The areas so far are those recorded if the answer is still true, and both cursors stand behind them.
use Rattle.std.proofs.Common.{◌∙◌, refl, arith, add-one}
use Rattle.recorded.specs.Records.{area_start}
use Rattle.recorded.proofs.Reading.{skip_none, skip_step}
use Rattle.recorded.proofs.Comparing.{areas_none, areas_next}
use Rattle.recorded.proofs.reader.Cursor.same_areas.Goals as goal

pub loop-area-init : goal.loop-area-init
unfolding area_start
loop-area-init c = record {
  same = refl;
  lengths_same = c.requires;
  at_is = refl;
  lengths_at = skip_none _ _ (rw c.requires at c.args.lengths.now.within);
  on = omega arith;
  areas_are = areas_none _ _ _ _;
}

pub loop-area-preserved : goal.loop-area-preserved
unfolding area_start
loop-area-preserved c =
    let so_far = c.loop-area.invariant in
    let lent = c.lent-n.ensures in
    let read = c.bytes.ensures in
    record {
      same = read.goes.same ∙ so_far.same;
      lengths_same = lent.goes.same ∙ so_far.lengths_same;
      at_is = read.goes.at_is ∙ rw (so_far.same, so_far.at_is, add-one) refl;
      lengths_at = skip_step _ _ _ _ _ _ _ so_far.lengths_same so_far.lengths_at lent.goes.at_is _ (omega arith);
      on = omega (arith, so_far.on, read.goes.on);
      areas_are = areas_next _ _ _ _ _ _ _ _ _ _ _ _ _ _ refl so_far.lengths_same so_far.same so_far.lengths_at so_far.at_is
          lent.is read.is c.holds-same.ensures so_far.areas_are;
    }
