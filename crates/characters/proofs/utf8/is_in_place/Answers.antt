-- `characters::utf8::is_in_place` meets its contract: a text whose bytes are all in place is well formed.
use native.Mathlib.Omega.{arith}
use Rattle.characters.proofs.InPlace.{in_place_tells}
use Rattle.characters.proofs.utf8.is_in_place.Goals as goal

pub returns : goal.returns
returns c =
    let starts = c.starts_out_of_place-starts.ensures in
    in_place_tells _ _ _ _ _ starts c.is_any_out_of_place.ensures c.ends_out_of_place-ends.ensures (omega arith)
