-- `characters::utf8::utf8` meets its contract: ASCII alone is well formed, and so are bytes in place; otherwise the characters end where the text does.
use Rattle.std.proofs.Common.{ap, length, eqb, rules}
use Rattle.characters.specs.Utf8.{utf8, char_len}
use Rattle.characters.proofs.Chars.{char_inside}
use Rattle.characters.proofs.utf8.utf8.Goals as goal

pub returns : goal.returns
unfolding utf8
returns c =
    ap (λ k. eqb k (length c.args.s.now)) (c.skip.ensures.rule (char_len c.args.s.now) (char_inside c.args.s.now) (λ k n h a. search rules)).is
