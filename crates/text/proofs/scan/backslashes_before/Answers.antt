-- `text::scan::backslashes_before` meets its contract: it asks of each byte whether it is no backslash.
use Rattle.std.proofs.Common.{rules}
use Rattle.std.proofs.Common.{ap, not, eqb, None}
use Rattle.characters.specs.Whitespace.{byte}
use Rattle.text.specs.Scan.{backslashes_behind, backslashes_before}
use Rattle.characters.proofs.Asking.{finds_last}
use Rattle.text.proofs.scan.backslashes_before.Goals as goal

pub returns-in-Some : goal.returns-in-Some
unfolding backslashes_before backslashes_behind
returns-in-Some c =
    let args = c.args in
    ap (backslashes_behind args.i args.u) (finds_last _ (λ k. not (eqb (byte args.s.now k) 0x5c)) _ _ _ (λ k b h l a. search rules) c.in-Some.ensures)

pub returns-in-None : goal.returns-in-None
unfolding backslashes_before backslashes_behind
returns-in-None c =
    let args = c.args in
    ap (backslashes_behind args.i args.u) (finds_last _ (λ k. not (eqb (byte args.s.now k) 0x5c)) _ _ None (λ k b h l a. search rules) c.in-None.ensures)
