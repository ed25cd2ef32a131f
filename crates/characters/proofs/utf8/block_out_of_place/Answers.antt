-- `characters::utf8::block_out_of_place` meets its contract: ASCII bytes are in place.
use Rattle.std.proofs.lemmas.Bool.{not_from_false}
use Rattle.characters.proofs.InPlace.{ascii_block}
use Rattle.characters.proofs.utf8.block_out_of_place.Goals as goal

pub returns-then-not-has_above_ascii : goal.returns-then-not-has_above_ascii
returns-then-not-has_above_ascii c =
    let args = c.args in
    ascii_block args.s.now args.k _ c.has_above_ascii.ensures (not_from_false c.has_above_ascii.result c.if-not-has_above_ascii.true)
