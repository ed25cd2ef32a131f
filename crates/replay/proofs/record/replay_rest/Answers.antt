-- What the call left is compared with what was recorded.
use Rattle.std.proofs.Common.{◌≡◌, length, rules}
use Rattle.parse.specs.Parse.{caps}
use Rattle.replay.proofs.Whole.{record_compared}
use Rattle.replay.proofs.record.replay_rest.Goals as goal

pub returns : goal.returns
returns c =
    let left = c.parse_into-word.new in
    let long1 : length left.area1 ≡ 512 = search rules in
    let long2 : length left.area2 ≡ 65536 = search rules in
    let long3 : length left.area3 ≡ 65536 = search rules in
    let long4 : length left.area4 ≡ 65536 = search rules in
    let long5 : length left.area5 ≡ 65536 = search rules in
    let long6 : length left.area6 ≡ 65536 = search rules in
    record_compared _ _ _ _ _ _ _ _ _ _ _ _ _ _ _ _ c.long-flags.ensures c.bytes-verdicts.ensures c.parse_into-word.ensures
    (λ i. caps (long1 i) (long2 i) (long3 i) (long4 i) (long5 i) (long6 i))
    c.compare.ensures
