-- `declarations::parse_declarations` meets its contract: the loop has come to the line `line`.
use Rattle.fault.proofs.Steps.{passed_on}
use Rattle.section.proofs.Lines.{percents_end}
use Rattle.declarations.proofs.Lines.{sections_start, sections_less, sections_next, section_ends, section_cut, section_err}
use Rattle.declarations.proofs.parse_declarations.Goals as goal

pub loop-file-init : goal.loop-file-init
loop-file-init c = sections_start _ c.args.file.options _ _ c.args.areas.now c.requires.held_declared c.next_declaration-line.ensures

pub returns-in_err-parse_declaration-clause-does : goal.returns-in_err-parse_declaration-clause-does
returns-in_err-parse_declaration-clause-does c =
    passed_on _ _ _ c.from_residual.ensures.1
    (section_err _ _ _ _ _ c.loop-file.areas c.loop-file.invariant _ c.in_section.ensures c.loop-file-test.true c.parse_declaration.new.areas _ c.parse_declaration.ensures.does _ c.in_err-parse_declaration.was)

pub loop-file-smaller : goal.loop-file-smaller
loop-file-smaller c =
    sections_less c.loop-file.areas c.loop-file.invariant _ c.in_section.ensures c.loop-file-test.true c.parse_declaration.new.areas _ c.parse_declaration.ensures.does c.in_ok-parse_declaration.was _ c.next_declaration-line-in-loop-file.ensures

pub loop-file-preserved : goal.loop-file-preserved
loop-file-preserved c =
    let step = c.parse_declaration in
    sections_next c.loop-file.areas c.loop-file.invariant _ c.in_section.ensures c.loop-file-test.true step.new.areas _ step.ensures.does c.in_ok-parse_declaration.was _ c.next_declaration-line-in-loop-file.ensures step.ensures.same

pub returns-in_default-clause-does : goal.returns-in_default-clause-does
returns-in_default-clause-does c =
    rw c.at.ensures
    (section_cut _ _ _ _ _ c.loop-file.areas c.loop-file.invariant _ c.in_section.ensures c.loop-file-test.false _ c.lookahead_is.ensures c.in_default.is)

pub past_blanks-requires : goal.past_blanks-requires
past_blanks-requires c = percents_end _ _ _ c.lookahead_is.ensures c.loop-file.invariant.within _ c.in-Some.is

pub returns-clause-does : goal.returns-clause-does
returns-clause-does c =
    section_ends _ _ _ _ _ c.loop-file.areas c.loop-file.invariant _ c.in_section.ensures c.loop-file-test.false _ c.lookahead_is.ensures _ _ c.in-Some.is c.past_blanks.ensures
