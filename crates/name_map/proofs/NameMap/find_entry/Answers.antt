-- `name_map::NameMap::find_entry` meets its contract: the closure answers whether an entry has the name.
use Rattle.std.proofs.Common.{◌≡◌, true, false, rules}
use Rattle.std.proofs.lemmas.Iterator.{YieldsList-from_slice, IsFirst-from_position}
use Rattle.name_map.proofs.Maps.{chunk_has, first_chunk}
use Rattle.name_map.proofs.NameMap.find_entry.Goals as goal

pub returns : goal.returns
returns c =
    let map = c.args.self.now in
    let has = chunk_has map.names.now map.entries.now c.args.name.now in
    first_chunk map.names.now map.entries.now c.args.name.now c.position.result
    (IsFirst-from_position _ _ c.position.result (λ b. has b ≡ true) (λ b. has b ≡ false) c.position.ensures.ran
    (YieldsList-from_slice {s = c.iter.result} _ c.iter.ensures.rest) (λ x q k. search rules) (λ x q k. (search rules, search rules)))
