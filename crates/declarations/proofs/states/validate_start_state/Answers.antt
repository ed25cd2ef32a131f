-- `declarations::states::validate_start_state` meets its contract: the name is that of the state that is found.
use Rattle.declarations.proofs.Declares.{known}
use Rattle.declarations.proofs.states.validate_start_state.Goals as goal

pub returns : goal.returns
returns c =
    rw c.into.ensures
    (known _ _ _ _ _ c.validate_start_state_name.ensures c.if-not-validate_start_state_name.false c.get_start_state_by_name.ensures
    c.get.result c.in-Some.is c.get.ensures)
