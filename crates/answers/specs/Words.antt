-- An answer as one word of 64 bits: four two-byte fields, the number of the answer and up to three values (01, Numbers given at the counter).
use Rattle.std.specs.Prelude.{ℕ, ◌+◌, ◌*◌, ◌<◌, ◌≡◌}

-- the number of an answer, and its values
pub record Fields : Type 0 where
  pub number : ℕ
  pub a : ℕ
  pub b : ℕ
  pub c : ℕ

abbrev pub fields : ℕ → ℕ → ℕ → ℕ → Fields
fields number a b c = record { number = number; a = a; b = b; c = c }

-- their word, the number in the low 16 bits
abbrev pub word : Fields → ℕ
word f = f.number + 65536 * f.a + 65536 * 65536 * f.b + 65536 * 65536 * 65536 * f.c

-- each field has two bytes
pub record TwoBytes (f : Fields) : Type 0 where
  pub number : f.number < 65536
  pub a : f.a < 65536
  pub b : f.b < 65536
  pub c : f.c < 65536

-- words tell answers apart: where the fields of two answers have two bytes each, equal words are those of equal answers
pub record TellsApart {A : Type 0} (of : A → Fields) : Type 0 where
  pub same : (x y : A) → TwoBytes (of x) → TwoBytes (of y) → word (of x) ≡ word (of y) → x ≡ y
