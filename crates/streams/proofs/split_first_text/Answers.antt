-- `streams::split_first_text` meets its contract: the first text ends at the first end.
use Rattle.streams.proofs.Texts.{first_text, last_text}
use Rattle.streams.proofs.split_first_text.Goals as goal

pub returns-in-Some-clause-texts : goal.returns-in-Some-clause-texts
returns-in-Some-clause-texts c = first_text _ _ _ _ c.text_end.ensures c.in-Some.is

pub returns-in-None-clause-texts : goal.returns-in-None-clause-texts
returns-in-None-clause-texts c = last_text _ _ _ c.text_end.ensures c.in-None.is c.requires
