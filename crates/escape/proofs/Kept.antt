-- Which escapes stay: a code letter and what follows it, and the kinds of escape, at a position.
use mathlib.Core.Path.{◌≡◌, refl, sym, ap, ◌∙◌}
use mathlib.Core.Bool.{Bool, true, false, ◌&&◌, ◌||◌}
use mathlib.Core.List.{List}
use Prim.Native.Nat.{ℕ, ◌+◌}
use borrow.Author.Rules.{rules}
use lib.Dec.{ltb, eqb}
use Rattle.std.proofs.Math.Bool.{or-false}
use Rattle.characters.specs.Class.{is_hex_digit, is_always_kept}
use Rattle.characters.specs.Whitespace.{byte}
use Rattle.escape.specs.Escape.{is_code_letter, is_code, is_kept_by, is_kept}
use Rattle.escape.specs.Phrases.{starts_code}

pub code_letter : (b : ℕ) → eqb b 0x78 || (eqb b 0x75 || eqb b 0x55) ≡ is_code_letter b
unfolding is_code_letter
code_letter b = ap (λ (t : Bool). eqb b 0x78 || (eqb b 0x75 || t)) (sym (or-false (eqb b 0x55)))

module _ (s : List ℕ) (c q x : ℕ) (r : Bool) (is : x ≡ byte s q) where
  pub code_behind : (y : ℕ) (h : Bool) → r ≡ is_code_letter x → r ≡ true → y ≡ byte s (q + 1) → h ≡ is_hex_digit y → ltb (q + 1) c && h ≡ starts_code s c q
  unfolding is_code
  code_behind y h e t f g = rw (← is, ← f, ← e, t, g) refl

  pub no_code : r ≡ is_code_letter x → r ≡ false → false ≡ starts_code s c q
  unfolding is_code
  no_code e f = rw (← is, ← e, f) refl

  pub always_kept : r ≡ is_always_kept x → r ≡ true → true ≡ is_kept s c q
  unfolding is_kept is_kept_by
  always_kept e t = rw (← is, ← e, t) refl

  pub kept_as_code : (k : Bool) → r ≡ is_always_kept x → r ≡ false → k ≡ starts_code s c q → k ≡ is_kept s c q
  unfolding is_kept is_kept_by
  kept_as_code k e f u = rw (← is, ← e, f) (u ∙ ap (λ (z : ℕ). is_code z (byte s (q + 1)) (ltb (q + 1) c)) (sym is))

pub ruleset keeping = (rules, code_letter, code_behind, no_code, always_kept, kept_as_code)
