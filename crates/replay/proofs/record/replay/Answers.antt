-- The source is read, and the rest is compared.
use Rattle.recorded.specs.Records.{source_at}
use Rattle.replay.proofs.Whole.{source_read, record_read}
use Rattle.replay.proofs.record.replay.Goals as goal

pub returns : goal.returns
returns c =
    let source = source_at c.args.cursor.now.answers.now c.args.cursor.now.at in
    record_read _ _ _ _ 65536 _ c.source.ensures.goes
    (source_read source 65536 c.zeros-buffer.ensures c.new-src.ensures c.source.ensures.reads c.as_slice.ensures)
    c.replay_rest.ensures
