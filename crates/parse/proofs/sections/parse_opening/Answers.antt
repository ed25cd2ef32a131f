-- `parse::sections::parse_opening` meets its contract: the state that is pushed, then the declarations.
use Rattle.fault.proofs.Steps.{passed_on}
use Rattle.parse.proofs.Files.{opening_full, opening_held, opening_on}
use Rattle.parse.proofs.sections.parse_opening.Goals as goal

pub returns-in_err-areas-clause-does : goal.returns-in_err-areas-clause-does
returns-in_err-areas-clause-does c =
    passed_on _ _ _ c.from_residual.ensures.1
    (opening_full _ c.args.lex_file.options _ _ _ _ c.requires.held_declared _ c.push.ensures c.args.areas.now.counts c.in_err-areas.was)

pub parse_declarations-requires-clause-held_declared : goal.parse_declarations-requires-clause-held_declared
parse_declarations-requires-clause-held_declared c =
    opening_held c.args.lex_file.source.now c.args.lex_file.options _ _ _ _ c.requires.held_declared _ c.push.ensures c.in_ok-areas.was

pub returns-clause-does : goal.returns-clause-does
returns-clause-does c =
    opening_on _ c.args.lex_file.options _ _ _ _ c.requires.held_declared _ c.push.ensures c.in_ok-areas.was c.parse_declarations.ensures.does
