-- Whether a position was found, of an answer that says where the first one stands.
use mathlib.Core.Path.{◌≡◌, sym}
use Rattle.std.specs.Prelude.{ℕ, Option, Some, None, is_some, ltb}
use borrow.Author.Tests.{lt-ltb, le-ltb}
use native.Mathlib.Omega.{arith}
use Rattle.characters.specs.Walk.{Below}

-- whether a position was found is whether it is below the end
pub below_some : (e n : ℕ) (r : Option ℕ) → Below e n r → is_some r ≡ ltb n e
below_some e n (Some k) h = sym (lt-ltb n e (omega (arith, h.0, h.1)))
below_some e n None h = sym (le-ltb n e (omega (arith, h)))
