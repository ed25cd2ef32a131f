-- `declarations::states::declare_state` meets its contract: each return is an outcome of the step.
use borrow.Author.Rules.{rules}
use Rattle.fault.proofs.Steps.{passed_on}
use Rattle.declarations.proofs.Declares.{name_overfull, name_new, name_no_room}
use Rattle.declarations.proofs.states.declare_state.Goals as goal

pub returns-in_err-count-in-Some-clause-does : goal.returns-in_err-count-in-Some-clause-does
returns-in_err-count-in-Some-clause-does c =
    passed_on _ _ _ c.from_residual-in_err-count-in-Some.ensures.1
    (name_overfull _ c.args.exclusive _ _ _ _ c.args.areas.now.counts.names c.requires.held_names _ c.whitespace_len.ensures _
    (rw c.state_records.ensures at c.validate_start_state-named.ensures)
    (search rules) c.add_duplicate_occurrence.ensures c.args.areas.now.counts.names c.in_err-count-in-Some.was)

pub returns-in_err-areas-in-None-clause-does : goal.returns-in_err-areas-in-None-clause-does
returns-in_err-areas-in-None-clause-does c =
    passed_on _ _ _ c.from_residual-in_err-areas-in-None.ensures.1
    (name_no_room _ c.args.exclusive _ _ _ _ c.args.areas.now.counts.names c.requires.held_names _ c.whitespace_len.ensures _ (rw c.state_records.ensures at c.validate_start_state-named.ensures)
    (search rules) c.push.ensures c.args.areas.now.counts.names c.in_err-areas-in-None.was)

pub returns-in_ok-areas-in-None-clause-does : goal.returns-in_ok-areas-in-None-clause-does
returns-in_ok-areas-in-None-clause-does c =
    name_new _ _ _ _ _ _ c.args.areas.now.counts.names c.requires.held_names _ c.whitespace_len.ensures _ (rw c.state_records.ensures at c.validate_start_state-named.ensures)
    (search rules) c.push.ensures c.in_ok-areas-in-None.was
