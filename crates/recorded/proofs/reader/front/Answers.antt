-- Each byte is the one that stands there, or 0 behind the last.
use Rattle.std.proofs.Common.{ℕ, ◌+◌, sym, rules}
use Rattle.characters.specs.Whitespace.{byte}
use Rattle.area.proofs.Contents.{list_of_is}
use Rattle.recorded.specs.Records.{front_at}
use Rattle.recorded.proofs.Reading.{front_byte}
use Rattle.recorded.proofs.Made.{made_at}
use Rattle.recorded.proofs.reader.front.Goals as goal

pub returns : goal.returns
unfolding front_at
returns g c =
    let items = c.from_fn.ensures.items in
    sym (list_of_is (λ (k : ℕ). byte c.args.answers.now (c.args.at + k)) 0 _ _ (sym items.long) (λ k h.
    front_byte _ _ _ k c.part-bytes.ensures _ (made_at _ (λ (i : ℕ). byte c.part-bytes.result.now i) _ (λ i y q called. search rules) _ _ items 0 k h)))
