-- `text::scan::last_blank` meets its contract: where the two passes stop the last blank is the same.
use Rattle.std.proofs.Common.{rules}
use Rattle.std.proofs.Common.{sym, ◌∙◌}
use Rattle.characters.proofs.Walks.{last_none}
use Rattle.characters.proofs.Asking.{finds_last}
use Rattle.text.proofs.scan.last_blank.Goals as goal

pub returns-then-e-i : goal.returns-then-e-i
returns-then-e-i c = last_none _ _ _ c.if-e-i.true

pub returns : goal.returns
returns c =
    finds_last _ _ _ _ _ (λ k b h l a. search rules) c.find_last.ensures ∙ sym (c.past_blankless.ensures.2 ∙ c.past_blankless-k.ensures.2)
