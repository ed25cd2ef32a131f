-- `rules::entries::parse_start_states` meets its contract: the loop has come to the name at a.
use Prim.Native.Nat.{◌+◌, ◌-◌}
use lib.ListN.{length}
use Rattle.area.specs.Contents.{entry_format, contents}
use Rattle.rules.specs.Rules.{entries}
use Rattle.rules.proofs.Listing.{Lists}
use Rattle.rules.proofs.entries.parse_start_states.Given as goal

abbrev pub invariant-loop-a : goal.invariant-loop-a
invariant-loop-a l = Lists (entries l.file.source.now (length l.initial.area3) l.states l.i l.g (contents entry_format l.initial.area3 l.initial.count)) l.file.source.now
    (length l.initial.area3) l.states l.i l.g l.a l.area3 l.count

abbrev pub decreases-loop-a : goal.decreases-loop-a
decreases-loop-a l = l.g + 1 - l.a
