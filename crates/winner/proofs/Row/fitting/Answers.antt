-- `winner::Row::fitting` meets its contract: every length is at most what is left where the greatest is.
use Rattle.std.proofs.Common.{arith}
use Rattle.winner.proofs.Winning.{long_row}
use Rattle.winner.proofs.Fitting.{row_broken, row_above, row_within, row_fits, row_misfits}
use Rattle.winner.proofs.Row.fitting.Goals as goal

pub returns-then-bytes-rules : goal.returns-then-bytes-rules
returns-then-bytes-rules c = row_broken _ _ _ c.if-bytes-rules.true

pub returns-then-left-row : goal.returns-then-left-row
returns-then-left-row c =
    row_misfits _ _ _ c.new-row.result c.new-row.ensures (row_above _ _ _ _ c.new-row.result.greatest_is (omega (arith, c.if-left-row.true)))

pub returns : goal.returns
returns c =
    row_fits _ _ _ c.new-row.result c.new-row.ensures
    (row_within _ _ _ _ c.new-row.result.greatest_is (long_row _ _ c.new-row.result c.new-row.ensures c.if-bytes-rules.false)
    (omega (arith, c.if-left-row.false))).0
