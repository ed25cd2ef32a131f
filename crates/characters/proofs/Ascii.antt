-- For ASCII: a byte below 80 is a whole character. The first byte of a character is its code point if that is below 80, and else above; the bytes
-- inside it are from 80 to BF. So a blank, a quote or one of `<`, `>`, `,`, `\`, `%`, `/`, which are looked for as bytes, is found where its code
-- point stands, and nowhere else.
use mathlib.Core.Path.{◌≡◌, sym, ap, ◌∙◌}
use mathlib.Core.Bool.{false}
use mathlib.Core.List.{List, ◌∷◌, ◌++◌}
use Prim.Native.Nat.{ℕ, ◌+◌, ◌/◌, ◌≤◌, ◌<◌}
use native.Mathlib.Omega.{arith}
use borrow.Author.Tests.{ne_eqb}
use lib.Dec.{eqb}
use lib.ListN.{length, get_or-append}
use Rattle.characters.specs.Whitespace.{byte}
use Rattle.characters.specs.Unicode.{encode, encode_all}
use Rattle.characters.proofs.Codes.{by_size, encode_1, encode_2, encode_3, encode_4, inner_bytes, byte_behind, byte_next, encode_all-append}

-- the byte b at the character c, behind the characters xs and before ys: it stands at the edge exactly if c is b, which is one byte wide then, and
-- not inside
pub record WholeCharacter (xs : List ℕ) (c : ℕ) (ys : List ℕ) (b : ℕ) : Type 0 where
  pub edge : eqb (byte (encode_all (xs ++ c ∷ ys)) (length (encode_all xs))) b ≡ eqb c b
  pub wide : c ≡ b → length (encode c) ≡ 1
  pub inside : (j : ℕ) → 0 < j → j < length (encode c) → eqb (byte (encode_all (xs ++ c ∷ ys)) (length (encode_all xs) + j)) b ≡ false

-- neither of two numbers from 80 on is b
both_differ : (x c b : ℕ) → b < 0x80 → 0x80 ≤ x → 0x80 ≤ c → eqb x b ≡ eqb c b
both_differ x c b h l k = ne_eqb x b (omega arith) ∙ sym (ne_eqb c b (omega arith))

-- the bytes of the character, where it stands in the text
module _ (xs : List ℕ) (c : ℕ) (ys : List ℕ) where
  pub first-at : byte (encode_all (xs ++ c ∷ ys)) (length (encode_all xs)) ≡ byte (encode c ++ encode_all ys) 0
  unfolding encode_all
  first-at = rw (encode_all-append xs (c ∷ ys)) (byte_next (encode_all xs) (encode c ++ encode_all ys))

  byte_inside : (j : ℕ) → j < length (encode c) → byte (encode_all (xs ++ c ∷ ys)) (length (encode_all xs) + j) ≡ byte (encode c) j
  unfolding encode_all
  byte_inside j h =
      rw (encode_all-append xs (c ∷ ys)) (byte_behind (encode_all xs) (encode c ++ encode_all ys) j ∙ get_or-append (encode c) (encode_all ys) 0 j h)

  pub inner_at : (j : ℕ) → 0 < j → j < length (encode c)
      → (0x80 ≤ byte (encode_all (xs ++ c ∷ ys)) (length (encode_all xs) + j)) × (byte (encode_all (xs ++ c ∷ ys)) (length (encode_all xs) + j) < 0xc0)
  inner_at j p h = rw (byte_inside j h) (inner_bytes c j p h)

first_is : (c b : ℕ) (t : List ℕ) → b < 0x80 → eqb (byte (encode c ++ t) 0) b ≡ eqb c b
first_is c b t h =
    by_size c
    (λ r. rw (encode_1 c r))
    (λ l r. rw (encode_2 c l r) (both_differ (0xc0 + c / 0x40) c b h (omega arith) l))
    (λ l r. rw (encode_3 c l r) (both_differ (0xe0 + c / 0x1000) c b h (omega arith) (omega arith)))
    (λ l. rw (encode_4 c l) (both_differ (0xf0 + c / 0x40000) c b h (omega arith) (omega arith)))

-- a byte below 80 is a whole character
pub ascii_whole : (xs : List ℕ) (c : ℕ) (ys : List ℕ) (b : ℕ) → b < 0x80 → WholeCharacter xs c ys b
ascii_whole xs c ys b h = record {
  edge = ap (λ (x : ℕ). eqb x b) (first-at xs c ys) ∙ first_is c b (encode_all ys) h;
  wide = λ e. ap length (encode_1 c (omega arith));
  inside = λ j p l. ne_eqb _ b (omega (arith, inner_at xs c ys j p l));
}
