-- `section::past_comments` meets its contract: from where the loop stands, with nothing left to skip there, the walk comes to rest at the same place.
use Rattle.std.proofs.Common.{arith}
use Rattle.section.proofs.Lines.{skipped, none_left, rests, passes, slashes_told}
use Rattle.section.proofs.past_comments.Goals as goal

pub loop-options-init : goal.loop-options-init
loop-options-init g c =
    let s = c.args.src.now in
    let at = c.requires.onward _ _ c.requires.inside c.skip-k.ensures in (
      at.0,
      at.1,
      λ width inside is.
          let j = (is _ _ c.requires.inside c.skip-k.ensures).is in (skipped s c.args.options width inside _ _ j, none_left width _ inside _ _ j),
    )

pub comment_end-requires : goal.comment_end-requires
comment_end-requires g c = slashes_told c.args.src.now c.args.options.comments _ _ c.is_comment.ensures c.loop-options-test.true

pub loop-options-preserved : goal.loop-options-preserved
loop-options-preserved g c =
    let s = c.args.src.now in
    let (from, to, before) = c.loop-options.invariant in
    let end = c.comment_end.ensures in
    let at = c.requires.onward _ _ end.to c.skip-k-in-loop-options.ensures in (
      omega (arith, end.from, at.0),
      at.1,
      λ width inside is.
          let (same, none) = before width inside is in
          let j = (is _ _ end.to c.skip-k-in-loop-options.ensures).is in
          (passes s c.args.options width inside _ _ same none _ c.is_comment.ensures _ _ c.loop-options-test.true end.is j, none_left width _ inside _ _ j),
    )

pub returns : goal.returns
returns g c =
    let (from, to, before) = c.loop-options.invariant in
    record {
      rule = λ width inside is.
          let (same, none) = before width inside is in
          record {
            is = rests c.args.src.now c.args.options width inside _ _ same none _ c.is_comment.ensures c.loop-options-test.false;
            from = from;
            to = to;
          };
    }
