-- What the contracts of single functions say of one escape.
use Rattle.std.specs.Prelude.{ℕ, ◌+◌, Bool, cond, List, Option, Some, None, ltb}
use Rattle.characters.specs.Whitespace.{byte}
use Rattle.escape.specs.Escape.{Escape, next_escape, is_whole, is_code}

-- a character's code starts at q
abbrev pub starts_code : List ℕ → ℕ → ℕ → Bool
starts_code s c q = is_code (byte s q) (byte s (q + 1)) (ltb (q + 1) c)

-- the next escape from p on, if it is whole
unfoldable pub next_whole : List ℕ → ℕ → ℕ → Option Escape
next_whole s c p = cond (is_whole c (next_escape s c p)) (Some (next_escape s c p)) None
