-- `names::is_state` meets its contract: the name of state 0, or the span of another's. `auto` with these laws does not close the latter (tried).
use Rattle.names.proofs.Finds.{comparing_names}
use Rattle.names.proofs.is_state.Goals as goal

pub returns : goal.returns
returns c = search comparing_names
