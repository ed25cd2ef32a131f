-- The encoding of scalar values is well formed. The bytes of a scalar value fit a row of the table, by its size; so a walk
-- from character to character goes through the whole text.
use mathlib.Core.Path.{◌≡◌, sym, ap, ◌∙◌}
use mathlib.Core.Bool.{true, false}
use mathlib.Core.List.{List, [], ◌∷◌, ◌++◌, append_assoc, append-nil}
use mathlib.Core.Logic.{⊎_elim}
use Prim.Native.Nat.{ℕ, ◌+◌, ◌/◌, ◌%◌, ◌≤◌, ◌<◌}
use native.Mathlib.Omega.{arith}
use borrow.Author.Tests.{ltb-true, eq-eqb, ne_eqb}
use lib.Dec.{ltb}
use lib.ListN.{length, length-append}
use Rattle.characters.specs.Class.{within}
use Rattle.characters.specs.Whitespace.{byte}
use Rattle.characters.specs.Utf8.{is_continuation, two_bytes, three_bytes, four_bytes, char_of, char_at, char_len, skip_chars, utf8}
use Rattle.characters.specs.Unicode.{is_scalar, encode, encode_all, Scalars, Encoded}
use Rattle.characters.proofs.Tests.{in_range, above_range, or_cases, range_of, le_or_lt}
use Rattle.characters.proofs.Walks.{skip_stays, skip_goes}
use Rattle.characters.proofs.Chars.{char_one, char_two, char_three, char_four, char_fits, char_cut, char_inside}
use Rattle.characters.proofs.Codes.{encode_1, encode_2, encode_3, encode_4, by_size, encode_long, byte_behind, byte_next}

-- ---- the rows of the table

continues : (b : ℕ) → 0x80 ≤ b → b < 0xc0 → is_continuation b ≡ true
continues b l h = in_range 0x80 0xbf b l (omega arith)

pub row_c2 : (a b : ℕ) → 0xc2 ≤ a → a ≤ 0xdf → is_continuation b ≡ true → two_bytes a b ≡ true
row_c2 a b l h e = rw (in_range 0xc2 0xdf a l h) e

module _ (a b d : ℕ) (g : is_continuation d ≡ true) where
  pub row_e0 : a ≡ 0xe0 → 0xa0 ≤ b → b ≤ 0xbf → three_bytes a b d ≡ true
  row_e0 e l h = simp (eq-eqb a 0xe0 e, in_range 0xa0 0xbf b l h, g)

  pub row_e1 : 0xe1 ≤ a → a ≤ 0xec → is_continuation b ≡ true → three_bytes a b d ≡ true
  row_e1 l h f = simp (ne_eqb a 0xe0 (omega arith), in_range 0xe1 0xec a l h, f, g)

  pub row_ed : a ≡ 0xed → 0x80 ≤ b → b ≤ 0x9f → three_bytes a b d ≡ true
  row_ed e l h =
      simp (ne_eqb a 0xe0 (omega arith), above_range 0xe1 0xec a (omega arith), eq-eqb a 0xed e, in_range 0x80 0x9f b l h, g)

  pub row_ee : 0xee ≤ a → a ≤ 0xef → is_continuation b ≡ true → three_bytes a b d ≡ true
  row_ee l h f =
      simp (ne_eqb a 0xe0 (omega arith), above_range 0xe1 0xec a (omega arith), ne_eqb a 0xed (omega arith), in_range 0xee 0xef a l h, f, g)

module _ (a b d f : ℕ) (g : is_continuation d ≡ true) (h : is_continuation f ≡ true) where
  pub row_f0 : a ≡ 0xf0 → 0x90 ≤ b → b ≤ 0xbf → four_bytes a b d f ≡ true
  row_f0 e l k = simp (eq-eqb a 0xf0 e, in_range 0x90 0xbf b l k, g, h)

  pub row_f1 : 0xf1 ≤ a → a ≤ 0xf3 → is_continuation b ≡ true → four_bytes a b d f ≡ true
  row_f1 l k e = simp (ne_eqb a 0xf0 (omega arith), in_range 0xf1 0xf3 a l k, e, g, h)

  pub row_f4 : a ≡ 0xf4 → 0x80 ≤ b → b ≤ 0x8f → four_bytes a b d f ≡ true
  row_f4 e l k =
      simp (ne_eqb a 0xf0 (omega arith), above_range 0xf1 0xf3 a (omega arith), eq-eqb a 0xf4 e, in_range 0x80 0x8f b l k, g, h)

pub not_two : (a b : ℕ) → 0xe0 ≤ a → two_bytes a b ≡ false
not_two a b l = simp (above_range 0xc2 0xdf a (omega arith))

pub not_three : (a b d : ℕ) → 0xf0 ≤ a → three_bytes a b d ≡ false
not_three a b d l =
    simp (ne_eqb a 0xe0 (omega arith), above_range 0xe1 0xec a (omega arith), ne_eqb a 0xed (omega arith), above_range 0xee 0xef a (omega arith))

-- ---- the bytes of a scalar value fit a row of their number

module _ (c : ℕ) (t : List ℕ) where
  abbrev Starts : Type 0
  Starts = char_at (encode c ++ t) 0 ≡ length (encode c)

  starts_1 : c < 0x80 → Starts
  starts_1 h = rw (encode_1 c h) (sym (char_one c (byte t 0) (byte t 1) (byte t 2) h))

  starts_2 : 0x80 ≤ c → c < 0x800 → Starts
  starts_2 l h =
      let a = 0xc0 + c / 0x40 in
      let b = 0x80 + c % 0x40 in
      rw (encode_2 c l h)
      (sym (char_two a b (byte t 0) (byte t 1) (omega arith) (row_c2 a b (omega arith) (omega arith) (continues b (omega arith) (omega arith)))))

  starts_3 : 0x800 ≤ c → c < 0x10000 → (0xd800 ≤ c → c < 0xe000 → ⊥) → Starts
  starts_3 l h n =
      let a = 0xe0 + c / 0x1000 in
      let b = 0x80 + c / 0x40 % 0x40 in
      let d = 0x80 + c % 0x40 in
      let cb : is_continuation b ≡ true = continues b (omega arith) (omega arith) in
      let cd : is_continuation d ≡ true = continues d (omega arith) (omega arith) in
      rw (encode_3 c l h)
      (sym (char_three a b d (byte t 0) (omega arith) (not_two a b (omega arith))
      (⊎_elim (λ p. row_e0 a b d cd (omega arith) (omega arith) (omega arith))
      (λ p. ⊎_elim (λ q. row_e1 a b d cd (omega arith) (omega arith) cb)
      (λ q. ⊎_elim (λ r. row_ed a b d cd (omega arith) (omega arith) (low_half r (omega arith)))
      (λ r. row_ee a b d cd (omega arith) (omega arith) cb)
      (le_or_lt a 0xed))
      (le_or_lt a 0xec))
      (le_or_lt a 0xe0))))
    where
      low_half : 0xe0 + c / 0x1000 ≤ 0xed → 0xec < 0xe0 + c / 0x1000 → 0x80 + c / 0x40 % 0x40 ≤ 0x9f
      low_half r q = ⊎_elim (λ k. absurd (n k (omega arith))) (λ k. omega arith) (le_or_lt 0xd800 c)

  starts_4 : 0x10000 ≤ c → c < 0x110000 → Starts
  starts_4 l h =
      let a = 0xf0 + c / 0x40000 in
      let b = 0x80 + c / 0x1000 % 0x40 in
      let d = 0x80 + c / 0x40 % 0x40 in
      let f = 0x80 + c % 0x40 in
      let cb : is_continuation b ≡ true = continues b (omega arith) (omega arith) in
      let cd : is_continuation d ≡ true = continues d (omega arith) (omega arith) in
      let cf : is_continuation f ≡ true = continues f (omega arith) (omega arith) in
      rw (encode_4 c l)
      (sym (char_four a b d f (omega arith) (not_two a b (omega arith)) (not_three a b d (omega arith))
      (⊎_elim (λ p. row_f0 a b d f cd cf (omega arith) (omega arith) (omega arith))
      (λ p. ⊎_elim (λ q. row_f1 a b d f cd cf (omega arith) (omega arith) cb)
      (λ q. row_f4 a b d f cd cf (omega arith) (omega arith) (omega arith))
      (le_or_lt a 0xf3))
      (le_or_lt a 0xf0))))

  char_at_start : is_scalar c ≡ true → Starts
  char_at_start e =
      or_cases (ltb c 0xd800) (within 0xe000 0x10ffff c) e
      (λ s. let h = ltb-true c 0xd800 s in by (omega arith) (λ k m. omega arith))
      (λ s. let h = range_of 0xe000 0x10ffff c s in by (omega arith) (λ k m. omega arith))
    where
      by : c < 0x110000 → (0xd800 ≤ c → c < 0xe000 → ⊥) → char_at (encode c ++ t) 0 ≡ length (encode c)
      by h n = by_size c starts_1 starts_2 (λ q r. starts_3 q r n) (λ r. starts_4 r h)

char_behind : (p q : List ℕ) → char_at (p ++ q) (length p) ≡ char_at q 0
char_behind p q = rw (byte_next p q, byte_behind p q 1, byte_behind p q 2, byte_behind p q 3)

-- ---- the walk goes through

module _ (s : List ℕ) where
  pub chars_stay : (k : ℕ) → char_len s k ≡ 0 → k ≡ skip_chars s k
  chars_stay = skip_stays (char_len s) (length s) (char_inside s)

  pub chars_go : (k : ℕ) → 0 < char_len s k → skip_chars s k ≡ skip_chars s (k + char_len s k)
  chars_go = skip_goes (char_len s) (length s) (char_inside s)

walked : (cs p : List ℕ) → Scalars cs → skip_chars (p ++ encode_all cs) (length p) ≡ length (p ++ encode_all cs)
unfolding encode_all char_of
walked [] p h =
    let s = p ++ [] in
    let end : length s ≡ length p = ap length (append-nil p) in
    let none : char_len s (length p) ≡ 0 = sym (char_cut s (length p) (omega (arith, char_behind p []))) in
    sym (chars_stay s (length p) none) ∙ sym end
walked (c ∷ cs) p h =
    let s = p ++ (encode c ++ encode_all cs) in
    let k = length p in
    let n : char_at s k ≡ length (encode c) = char_behind p (encode c ++ encode_all cs) ∙ char_at_start c (encode_all cs) h.0 in
    let long : length s ≡ k + (length (encode c) + length (encode_all cs)) = simp length-append in
    let is : char_len s k ≡ length (encode c) = sym (char_fits s k (omega arith)) ∙ n in
    let at : k + char_len s k ≡ length (p ++ encode c) = simp length-append (omega arith) in
    let same : s ≡ (p ++ encode c) ++ encode_all cs = sym (append_assoc p (encode c) (encode_all cs)) in
    chars_go s k (omega (arith, encode_long c)) ∙ ap (skip_chars s) at ∙ rw same (walked cs (p ++ encode c) h.1)

pub encoded_is_utf8 : (s : List ℕ) → Encoded s → utf8 s ≡ true
unfolding utf8
encoded_is_utf8 s e = eq-eqb (skip_chars s 0) (length s) (rw e.bytes at (walked e.scalar_values [] e.scalars))
