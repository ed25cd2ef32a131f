-- `fault::find_fault` meets its contract: the closure answers the test of a span.
use borrow.Author.Rules.{rules}
use Rattle.fault.specs.Faults.{is_fault, find_fault}
use Rattle.fault.proofs.find_fault.Goals as goal

pub returns : goal.returns
unfolding find_fault
returns c = c.position.ensures.is (is_fault c.args.spans.now c.args.kind c.args.first.start c.args.first.end) (λ k b i h q. search rules)
