-- `names::get_start_state_by_name` meets its contract: the closure answers the test of a state.
use borrow.Author.Rules.{rules}
use Rattle.names.specs.Names.{is_state}
use Rattle.names.proofs.Finds.{state_below}
use Rattle.names.proofs.get_start_state_by_name.Goals as goal

pub returns : goal.returns
returns c = state_below _ _ _ _ _ (c.position.ensures.is (is_state c.args.src.now c.args.a c.args.e c.args.states.now) (λ k b i h q. search rules))
