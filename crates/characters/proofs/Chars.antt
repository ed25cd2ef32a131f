-- Characters at an offset: a law for each branch of `char_of`, and that a character ends within the text.
use mathlib.Core.Path.{◌≡◌, ◌∙◌}
use mathlib.Core.Bool.{true, false}
use mathlib.Core.List.{List}
use mathlib.Core.Logic.{⊎_elim}
use Prim.Native.Nat.{ℕ, ◌+◌, ◌-◌, ◌≤◌, ◌<◌}
use native.Mathlib.Omega.{arith}
use borrow.Author.Tests.{lt-ltb, le-ltb, le-leb, lt-leb}
use lib.ListN.{length}
use Rattle.characters.specs.Whitespace.{Width}
use Rattle.characters.specs.Utf8.{two_bytes, three_bytes, four_bytes, char_of, char_at, char_len}
use Rattle.characters.proofs.Tests.{le_or_lt}

module _ (a b c d : ℕ) where
  pub char_one : a < 0x80 → 1 ≡ char_of a b c d
  unfolding char_of
  char_one h = simp (lt-ltb a 0x80 h)

  pub char_two : 0x80 ≤ a → two_bytes a b ≡ true → 2 ≡ char_of a b c d
  unfolding char_of
  char_two h e = simp (le-ltb a 0x80 h, e)

  pub char_three : 0x80 ≤ a → two_bytes a b ≡ false → three_bytes a b c ≡ true → 3 ≡ char_of a b c d
  unfolding char_of
  char_three h e f = simp (le-ltb a 0x80 h, e, f)

  pub char_four : 0x80 ≤ a → two_bytes a b ≡ false → three_bytes a b c ≡ false → four_bytes a b c d ≡ true → 4 ≡ char_of a b c d
  unfolding char_of
  char_four h e f g = simp (le-ltb a 0x80 h, e, f, g)

module _ (s : List ℕ) (k : ℕ) where
  pub char_fits : k + char_at s k ≤ length s → char_at s k ≡ char_len s k
  unfolding char_len
  char_fits h = simp (le-leb (k + char_at s k) (length s) h)

  pub char_cut : length s < k + char_at s k → 0 ≡ char_len s k
  unfolding char_len
  char_cut h = simp (lt-leb (k + char_at s k) (length s) h)

  pub char_inside : 0 < char_len s k → k + char_len s k ≤ length s
  char_inside p =
      ⊎_elim (λ h. omega (arith, char_fits h)) (λ h. absurd (omega (arith, char_cut h))) (le_or_lt (k + char_at s k) (length s))

-- the character at k, from what is known of the bytes there
module _ (s : List ℕ) (k : ℕ) (h : k ≤ length s) where
  pub char_width : (n : ℕ) → n ≡ char_at s k → n ≤ length s - k → Width s k (char_len s k) n
  char_width n e f = record { is = e ∙ char_fits s k (omega arith); fits = omega arith }

  pub char_cut_width : (n : ℕ) → n ≡ char_at s k → length s - k < n → Width s k (char_len s k) 0
  char_cut_width n e f = record { is = char_cut s k (omega arith); fits = omega arith }

pub ruleset measuring_chars = (char_width, char_cut_width)
