-- `lines::counts::Block::end_bits` meets its contract: its bytes are loaded, and each is compared with a line feed.
use mathlib.Core.Path.{ap, ◌∙◌}
use mathlib.Core.List.{List, map}
use Prim.Native.Nat.{ℕ}
use native.Mathlib.Omega.{arith}
use mir.Syntax.{w8}
use lib.Dec.{eqb}
use lib.Lanes.{mask_l}
use lib.ListN.{length}
use Rattle.std.proofs.lemmas.Simd.{length-chunk, bitmask_splat}
use Rattle.lines.specs.Lines.{line_feed}
use Rattle.lines.proofs.Counting.{loaded}
use Rattle.lines.proofs.counts.Block.end_bits.Goals as goal

pub returns : goal.returns
returns c =
    let b = c.args.self.now in
    let same = loaded b.source.bytes.now b.from.0 in
    let long = length-chunk b.from.0 64 b.source.bytes.now (omega (arith, c.requires, b.range.inside)) in
    bitmask_splat w8 eqb _ 64 line_feed (ap length same ∙ long) (omega arith) ∙ ap (λ (xs : List ℕ). mask_l (map (λ x. eqb x line_feed) xs)) same
