-- `declarations::missing::next_expected` meets its contract: a name is appended, or the area is full.
use Rattle.fault.proofs.Steps.{passed_on}
use Rattle.declarations.proofs.Expecting.{expected_next, expected_full}
use Rattle.declarations.proofs.missing.next_expected.Goals as goal

pub returns-in_err-count : goal.returns-in_err-count
returns-in_err-count c =
    passed_on _ _ _ c.from_residual.ensures.1
    (expected_full _ _ _ _ _ c.requires.held _ c.find_ascii_whitespace-end.ensures _ c.is_quoted.ensures c.if-is_quoted.true _ _ c.push.ensures 0 c.in_err-count.was)

pub returns-then-is_quoted : goal.returns-then-is_quoted
returns-then-is_quoted c =
    expected_next _ _ _ _ _ c.requires.held _ c.find_ascii_whitespace-end.ensures _ c.is_quoted.ensures c.if-is_quoted.true _ _ c.push.ensures c.in_ok-count.was c.skip_ascii_whitespace.ensures
