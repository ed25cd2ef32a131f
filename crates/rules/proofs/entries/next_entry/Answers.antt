-- `rules::entries::next_entry` meets its contract: an entry is appended, or the area is full.
use Rattle.fault.proofs.Steps.{passed_on}
use Rattle.rules.proofs.Listing.{entry_next, entry_full}
use Rattle.rules.proofs.entries.next_entry.Goals as goal

pub returns-in_err-count : goal.returns-in_err-count
returns-in_err-count c =
    passed_on _ _ _ c.from_residual.ensures.1
    (entry_full _ _ _ _ _ _ _ c.requires.held _ c.find_byte-e.ensures _ c.state_between.ensures c.in-Some.is _ c.number.ensures _ _ c.push.ensures 0
    c.in_err-count.was)

pub returns : goal.returns
returns c =
    entry_next _ _ _ _ _ _ _ c.requires.held _ c.find_byte-e.ensures _ c.state_between.ensures c.in-Some.is _ c.number.ensures _ _ c.push.ensures
    c.in_ok-count.was
