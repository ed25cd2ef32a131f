-- The bytes of a code point: how many by its size, the first, and those inside the character, which are all from 80 to BF.
use mathlib.Core.Path.{◌≡◌, refl, sym, ap, ◌∙◌}
use mathlib.Core.List.{List, [], ◌∷◌, ◌++◌, append_assoc}
use mathlib.Core.Logic.{⊎_elim}
use Prim.Native.Nat.{ℕ, zero, suc, ◌+◌, ◌/◌, ◌%◌, ◌≤◌, ◌<◌}
use native.Mathlib.Nat.{add-zero, not-suc-le-zero, le_of_suc-le-suc}
use native.Mathlib.Omega.{arith}
use borrow.Author.Tests.{lt-ltb, le-ltb}
use lib.ListN.{length, get_or}
use lib.Seq.{get_or-append-add}
use Rattle.characters.specs.Whitespace.{byte}
use Rattle.characters.specs.Unicode.{encode, encode_all}
use Rattle.characters.proofs.Tests.{le_or_lt}

module _ (c : ℕ) where
  pub encode_1 : c < 0x80 → encode c ≡ c ∷ []
  unfolding encode
  encode_1 h = simp (lt-ltb c 0x80 h)

  pub encode_2 : 0x80 ≤ c → c < 0x800 → encode c ≡ (0xc0 + c / 0x40) ∷ (0x80 + c % 0x40) ∷ []
  unfolding encode
  encode_2 g h = simp (le-ltb c 0x80 g, lt-ltb c 0x800 h)

  pub encode_3 : 0x800 ≤ c → c < 0x10000 → encode c ≡ (0xe0 + c / 0x1000) ∷ (0x80 + c / 0x40 % 0x40) ∷ (0x80 + c % 0x40) ∷ []
  unfolding encode
  encode_3 g h = simp (le-ltb c 0x80 (omega arith), le-ltb c 0x800 g, lt-ltb c 0x10000 h)

  pub encode_4 :
      0x10000 ≤ c
      → encode c ≡ (0xf0 + c / 0x40000) ∷ (0x80 + c / 0x1000 % 0x40) ∷ (0x80 + c / 0x40 % 0x40) ∷ (0x80 + c % 0x40) ∷ []
  unfolding encode
  encode_4 g = simp (le-ltb c 0x80 (omega arith), le-ltb c 0x800 (omega arith), le-ltb c 0x10000 g)

  -- to go by cases on the size
  pub by_size :
      {A : Type 0} → (c < 0x80 → A) → (0x80 ≤ c → c < 0x800 → A) → (0x800 ≤ c → c < 0x10000 → A) → (0x10000 ≤ c → A) → A
  by_size f1 f2 f3 f4 =
      ⊎_elim
      (λ p. ⊎_elim (λ q. ⊎_elim (λ r. f4 r) (λ r. f3 q r) (le_or_lt 0x10000 c)) (λ q. f2 p q) (le_or_lt 0x800 c))
      (λ p. f1 p)
      (le_or_lt 0x80 c)

-- what holds of each number of a list
abbrev pub Each : (ℕ → Type 0) → List ℕ → Type 0
Each P [] = Unit {0}
Each P (x ∷ xs) = P x × Each P xs

each_at : (P : ℕ → Type 0) (xs : List ℕ) → Each P xs → (j : ℕ) → j < length xs → P (byte xs j)
each_at P [] h j l = absurd (not-suc-le-zero l)
each_at P (x ∷ xs) h zero l = h.0
each_at P (x ∷ xs) h (suc j) l = each_at P xs h.1 j (le_of_suc-le-suc l)

abbrev Inner : ℕ → Type 0
Inner b = (0x80 ≤ b) × (b < 0xc0)

-- a first byte, and the bytes inside the character
record Bytes (bs : List ℕ) : Type 0 where
  head : ℕ
  rest : List ℕ
  is : bs ≡ head ∷ rest
  inner : Each Inner rest

bytes_of : (c : ℕ) → Bytes (encode c)
bytes_of c =
    by_size c (λ h. record { head = _; rest = _; is = encode_1 c h; inner = tt })
    (λ g h. record { head = _; rest = _; is = encode_2 c g h; inner = (omega arith, tt) })
    (λ g h. record { head = _; rest = _; is = encode_3 c g h; inner = (omega arith, (omega arith, tt)) })
    (λ g. record { head = _; rest = _; is = encode_4 c g; inner = (omega arith, (omega arith, (omega arith, tt))) })

pub encode_long : (c : ℕ) → 0 < length (encode c)
encode_long c =
    let b = bytes_of c in
    rw b.is (omega arith)

pub inner_bytes : (c j : ℕ) → 0 < j → j < length (encode c) → (0x80 ≤ byte (encode c) j) × (byte (encode c) j < 0xc0)
inner_bytes c zero p h = absurd (omega arith)
inner_bytes c (suc j) p h =
    let b = bytes_of c in
    let l : suc j < suc (length b.rest) = rw b.is at h in
    rw b.is (each_at Inner b.rest b.inner j (le_of_suc-le-suc l))

-- what stands behind the bytes p, at p's length and j more
pub byte_behind : (p q : List ℕ) (j : ℕ) → byte (p ++ q) (length p + j) ≡ byte q j
byte_behind p q j = get_or-append-add p q j 0

pub byte_next : (p q : List ℕ) → byte (p ++ q) (length p) ≡ byte q 0
byte_next p q = ap (λ (n : ℕ). get_or (p ++ q) n 0) (sym (add-zero (length p))) ∙ byte_behind p q 0

pub encode_all-append : (xs ys : List ℕ) → encode_all (xs ++ ys) ≡ encode_all xs ++ encode_all ys
unfolding encode_all
encode_all-append [] ys = refl
encode_all-append (x ∷ xs) ys = rw (encode_all-append xs ys) (sym (append_assoc (encode x) (encode_all xs) (encode_all ys)))
