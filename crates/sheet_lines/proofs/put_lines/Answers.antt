-- `sheet_lines::put_lines` meets its contract: the first k lines are appended.
use Rattle.output.proofs.Appending.{joined_none, joined_next}
use Rattle.sheet_lines.proofs.put_lines.Goals as goal

pub loop-k-init : goal.loop-k-init
loop-k-init g c = joined_none (g.R.Records.line c.args.records.now)

pub loop-k-preserved : goal.loop-k-preserved
loop-k-preserved g c = joined_next (g.R.Records.line c.args.records.now) {k = c.loop-k.k} c.put_line.ensures c.loop-k.invariant
