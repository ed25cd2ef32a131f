-- `characters::walk::skip` meets its contract: from where the loop stands the walk ends where it would from the start.
use Rattle.std.proofs.Common.{arith}
use Rattle.characters.proofs.Walks.{skip_ended, skip_again}
use Rattle.characters.proofs.walk.skip.Goals as goal

pub returns-then-n-eq0 : goal.returns-then-n-eq0
returns-then-n-eq0 g c =
    let (from, to, before) = c.loop-width.invariant in
    record {
      rule = λ width inside is. record {
        is = skip_ended width c.args.e inside c.args.i c.loop-width.k c.width-n.result (before width inside is) (is _ _ to c.width-n.ensures) c.if-n-eq0.true;
        from = from;
        to = to;
      };
    }

pub loop-width-preserved : goal.loop-width-preserved
loop-width-preserved g c =
    let (from, to, before) = c.loop-width.invariant in (
      omega arith,
      c.requires.fits _ _ to c.width-n.ensures,
      λ width inside is.
          skip_again width c.args.e inside c.args.i c.loop-width.k c.width-n.result (before width inside is) (is _ _ to c.width-n.ensures) c.if-n-eq0.false,
    )
