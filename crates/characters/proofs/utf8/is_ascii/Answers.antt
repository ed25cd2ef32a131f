-- `characters::utf8::is_ascii` meets its contract: a text of ASCII bytes is well formed.
use Rattle.characters.proofs.Runs.{ascii_tells}
use Rattle.characters.proofs.utf8.is_ascii.Goals as goal

pub returns : goal.returns
returns c = ascii_tells _ _ c.has_above_ascii.ensures
