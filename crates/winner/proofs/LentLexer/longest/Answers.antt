-- `winner::LentLexer::longest` meets its contract: what is kept is the best of the rules so far.
use Rattle.std.proofs.Common.{arith, ◌∙◌}
use Rattle.winner.proofs.Winning.{best_none, scan_next, scan_past, lengths_count, length_read}
use Rattle.winner.proofs.LentLexer.longest.Goals as goal
use Rattle.winner.proofs.LentLexer.longest.Goals.{then-bytes-row, else-bytes-row}

pub loop-k-init : goal.loop-k-init
loop-k-init c = best_none _

pub get-bytes-requires : goal.get-bytes-requires
get-bytes-requires c = omega (arith, lengths_count _ _ c.lengths-lengths.ensures)

pub loop-k-preserved : goal.loop-k-preserved
loop-k-preserved c =
    let length = c.get-bytes.ensures ∙ length_read _ _ c.lengths-lengths.ensures _ c.loop-k-test.true in
    elim c.if-bytes-row.branch [
      | then-bytes-row w ↦ rw w.b-is (scan_next _ _ _ _ _ _ _ c.loop-k.invariant length w.better_of-b.ensures)
      | else-bytes-row w ↦ rw w.b-is (scan_past _ _ _ _ _ _ _ _ c.loop-k.invariant length c.requires.none_longest c.loop-k-test.true w.if-bytes-row.false)
    ]
