-- `fault::fault_end` meets its contract: the last span with the number, looked for from the end.
use borrow.Author.Rules.{rules}
use Rattle.fault.proofs.Spans.{end_as}
use Rattle.fault.proofs.fault_end.Goals as goal

pub returns-in-Some : goal.returns-in-Some
returns-in-Some c = end_as c.args.spans.now c.args.number c.count.ensures _ c.in-Some.is c.find_last.ensures (λ k b i h q. search rules)

pub returns-in-None : goal.returns-in-None
returns-in-None c = end_as c.args.spans.now c.args.number c.count.ensures _ c.in-None.is c.find_last.ensures (λ k b i h q. search rules)
