-- The next backslash is the first position that passes a test: one stands there, and from there on it is the next one too.
use mathlib.Core.Path.{◌≡◌, sym}
use mathlib.Core.Bool.{Bool, true}
use mathlib.Core.List.{List}
use Prim.Native.Nat.{ℕ, ◌<◌}
use native.Mathlib.Omega.{arith}
use borrow.Author.Tests.{eqb-true}
use lib.Dec.{eqb}
use Rattle.characters.specs.Whitespace.{byte}
use Rattle.characters.proofs.Walks.{first_from, first_here}
use Rattle.characters.proofs.Firsts.{first_passes}
use Rattle.escape.specs.Escape.{next_backslash}

abbrev pub is_backslash : List ℕ → ℕ → Bool
is_backslash s k = eqb (byte s k) 0x5c

module _ (s : List ℕ) (c : ℕ) where
  next_passes : (p : ℕ) → next_backslash s c p < c → is_backslash s (next_backslash s c p) ≡ true
  next_passes p h = first_passes (is_backslash s) p c (omega (arith, first_from (is_backslash s) p c)) h

  -- a backslash stands there
  pub next_is : (p : ℕ) → next_backslash s c p < c → byte s (next_backslash s c p) ≡ 0x5c
  next_is p h = eqb-true (byte s (next_backslash s c p)) 0x5c (next_passes p h)

  -- the next backslash from the next one on is the same
  pub backslash_again : (p : ℕ) → next_backslash s c p < c → next_backslash s c (next_backslash s c p) ≡ next_backslash s c p
  backslash_again p h = sym (first_here (is_backslash s) (next_backslash s c p) c h (next_passes p h))
