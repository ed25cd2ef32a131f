-- Four bytes make the number.
use Rattle.std.proofs.Common.{◌∙◌}
use Rattle.recorded.proofs.Reading.{number_read}
use Rattle.recorded.proofs.reader.number.Goals as goal

pub returns : goal.returns
returns c = c.from_le_bytes.ensures ∙ number_read _ _ _ c.front.ensures
