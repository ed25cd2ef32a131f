-- As many pieces are read as turns are done.
use Rattle.std.proofs.Common.{◌≡◌, refl, ◌∙◌, arith}
use Rattle.output.proofs.Appending.{appends_same}
use Rattle.recorded.specs.Records.{source_at, source_end, pieces_end}
use Rattle.recorded.proofs.Pieces.{pieces_none, pieces_next, pieces_on}
use Rattle.recorded.proofs.reader.Cursor.source.Goals as goal

pub loop-init : goal.loop-init
unfolding pieces_end
loop-init c = record {
  same = refl;
  at_is = refl;
  on = omega arith;
  text = pieces_none _ _;
}

pub loop-preserved : goal.loop-preserved
loop-preserved c =
    let so_far = c.loop.invariant in
    let times = c.number-times.ensures in
    let piece = c.bytes.ensures in
    record {
      same = piece.goes.same ∙ times.goes.same ∙ so_far.same;
      at_is = pieces_on _ _ _ _ _ so_far.at_is (piece.goes.at_is ∙ rw (times.goes.at_is, times.goes.same, so_far.same) refl);
      on = omega (arith, so_far.on, times.goes.on, piece.goes.on);
      text = pieces_next _ _ _ _ _ _ so_far.at_is
          (times.is ∙ rw so_far.same refl)
          (piece.is ∙ rw (times.goes.at_is, times.goes.same, so_far.same) refl)
          c.push_times.ensures so_far.text;
    }

pub returns-clause-reads : goal.returns-clause-reads
unfolding source_at
returns-clause-reads c =
    let count = c.number-end.ensures in
    let z : c.loop.counter ≡ c.number-end.result = omega arith in
    appends_same (rw (z, count.is, count.goes.at_is, count.goes.same) refl) c.loop.invariant.text

pub returns-clause-goes : goal.returns-clause-goes
unfolding source_end
returns-clause-goes c =
    let done = c.loop.invariant in
    let count = c.number-end.ensures in
    let z : c.loop.counter ≡ c.number-end.result = omega arith in
    record {
      at_is = done.at_is ∙ rw (z, count.is, count.goes.at_is, count.goes.same) refl;
      same = done.same ∙ count.goes.same;
      on = omega (arith, done.on, count.goes.on);
    }
