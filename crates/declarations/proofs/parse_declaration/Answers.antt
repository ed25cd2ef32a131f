-- `declarations::parse_declaration` meets its contract: what the line declares is declared.
use Rattle.fault.proofs.Steps.{passed_on}
use Rattle.declarations.proofs.Lines.{names_in_source, expected_within, line_states, line_states_err, line_expected, line_expected_err}
use Rattle.declarations.proofs.parse_declaration.Goals as goal

pub invariant_of-names : goal.invariant_of-names
invariant_of-names c = record { inside = names_in_source _ _ _ c.declaration_of.ensures c.args.at.inside _ _ c.in-States.is }

pub expected_names-requires-clause-w_le_end : goal.expected_names-requires-clause-w_le_end
expected_names-requires-clause-w_le_end c = expected_within _ _ _ _ c.declaration_of.ensures c.args.at.inside.0 _ c.in-Expecting.is

pub returns-in_err-declare_start_states-in-States-clause-does : goal.returns-in_err-declare_start_states-in-States-clause-does
returns-in_err-declare_start_states-in-States-clause-does c =
    passed_on _ _ _ c.from_residual.ensures.1
    (line_states_err _ _ _ _ _ _ _ c.requires.held_declared _ c.declaration_of.ensures _ _ c.in-States.is _ c.declare_start_states.new.areas.counts
    c.declare_start_states.ensures.expected.bytes c.declare_start_states.ensures.expected.count c.declare_start_states.ensures.does _ c.in_err-declare_start_states-in-States.was)

pub returns-in_err-expected_names-in-Expecting-clause-does : goal.returns-in_err-expected_names-in-Expecting-clause-does
returns-in_err-expected_names-in-Expecting-clause-does c =
    passed_on _ _ _ c.from_residual-in_err-expected_names-in-Expecting.ensures.1
    (line_expected_err _ _ _ _ _ _ _ c.requires.held_declared _ c.declaration_of.ensures _ c.in-Expecting.is _ _ c.expected_names.ensures _ c.in_err-expected_names-in-Expecting.was)

pub returns-in_ok-declare_start_states-in-States-clause-does : goal.returns-in_ok-declare_start_states-in-States-clause-does
returns-in_ok-declare_start_states-in-States-clause-does c =
    line_states _ _ _ _ _ _ _ c.requires.held_declared _ c.declaration_of.ensures _ _ c.in-States.is _ c.declare_start_states.new.areas.counts
    c.declare_start_states.ensures.expected.bytes c.declare_start_states.ensures.expected.count c.declare_start_states.ensures.does c.in_ok-declare_start_states-in-States.was

pub returns-in_ok-expected_names-in-Expecting-clause-does : goal.returns-in_ok-expected_names-in-Expecting-clause-does
returns-in_ok-expected_names-in-Expecting-clause-does c =
    line_expected _ _ _ _ _ _ _ c.requires.held_declared _ c.declaration_of.ensures _ c.in-Expecting.is _ _ c.expected_names.ensures c.in_ok-expected_names-in-Expecting.was
