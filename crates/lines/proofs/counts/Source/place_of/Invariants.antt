-- `lines::counts::Source::place_of` meets its contract: it has the place of where it stands.
use mathlib.Core.Path.{◌≡◌}
use Prim.Native.Nat.{◌*◌}
use Rattle.lines.specs.Places.{place_at}
use Rattle.lines.proofs.counts.Source.place_of.Given as goal

abbrev pub invariant-loop-k : goal.invariant-loop-k
invariant-loop-k l = l.here ≡ place_at l.self.bytes.now (l.k * 64)
