-- What is well formed is the encoding of scalar values. The bytes of each row of the table give a scalar value whose
-- encoding they are; the walk then gives the list of them, from the end of the text back.
use mathlib.Core.Path.{◌≡◌, refl, sym, subst, ◌∙◌}
use mathlib.Core.Bool.{Bool, true, ◌&&◌, ◌||◌}
use mathlib.Core.List.{List, [], ◌∷◌, ◌++◌}
use mathlib.Core.Logic.{⊎_elim}
use Prim.Native.Nat.{ℕ, zero, suc, ◌+◌, ◌-◌, ◌*◌, ◌/◌, ◌%◌, ◌≤◌, ◌<◌}
use native.Mathlib.Nat.{eq-zero-or-pos}
use native.Mathlib.Numerals.{add-one}
use native.Mathlib.Omega.{arith}
use borrow.Author.Tests.{lt-ltb, le-ltb, ltb-true, eqb-true}
use lib.Dec.{eqb}
use lib.ListN.{length, drop, drop_of_length-le}
use lib.Seq.{drop-cons}
use Rattle.std.proofs.lemmas.Bool.{cond_both, and_parts}
use Rattle.characters.specs.Class.{within}
use Rattle.characters.specs.Whitespace.{byte}
use Rattle.characters.specs.Utf8.{is_continuation, one_byte, two_bytes, three_bytes, four_bytes, char_of, char_at, char_len, skip_chars, utf8}
use Rattle.characters.specs.Unicode.{is_scalar, encode, encode_all, Encoded, Judges}
use Rattle.characters.proofs.Tests.{in_range, or_cases, range_of, le_or_lt}
use Rattle.characters.proofs.Chars.{char_fits, char_cut, char_inside}
use Rattle.characters.proofs.Codes.{encode_1, encode_2, encode_3, encode_4}
use Rattle.characters.proofs.Encoding.{chars_stay, chars_go, encoded_is_utf8}

-- ---- the scalar value of the bytes of a row

record Decoded (bs : List ℕ) : Type 0 where
  value : ℕ
  scalar : is_scalar value ≡ true
  bytes : encode value ≡ bs

low : (c : ℕ) → c < 0xd800 → is_scalar c ≡ true
low c h = rw (lt-ltb c 0xd800 h)

high : (c : ℕ) → 0xe000 ≤ c → c ≤ 0x10ffff → is_scalar c ≡ true
high c l h = rw (le-ltb c 0xd800 (omega arith), in_range 0xe000 0x10ffff c l h)

both : (p q r : Bool) → p && (q && r) ≡ true → (p ≡ true) × (q ≡ true) × (r ≡ true)
both p q r e =
    let f = (and_parts p (q && r) e).1 in
    ((and_parts p (q && r) e).0, (and_parts q r f).0, (and_parts q r f).1)

decode_1 : (a : ℕ) → a < 0x80 → Decoded (a ∷ [])
decode_1 a h = record { value = a; scalar = low a (omega arith); bytes = encode_1 a h }

decode_2 : (a b : ℕ) → two_bytes a b ≡ true → Decoded (a ∷ b ∷ [])
decode_2 a b e =
    let ra = range_of 0xc2 0xdf a (and_parts (within 0xc2 0xdf a) (is_continuation b) e).0 in
    let rb = range_of 0x80 0xbf b (and_parts (within 0xc2 0xdf a) (is_continuation b) e).1 in
    let c = (a - 0xc0) * 0x40 + (b - 0x80) in
    let p : 0xc0 + c / 0x40 ≡ a = omega arith in
    let q : 0x80 + c % 0x40 ≡ b = omega arith in
    record { value = c; scalar = low c (omega arith); bytes = encode_2 c (omega arith) (omega arith) ∙ rw (p, q) }

module _ (a b d : ℕ) where
  value_3 : ℕ
  value_3 = (a - 0xe0) * 0x1000 + (b - 0x80) * 0x40 + (d - 0x80)

  build_3 :
      (0xe0 ≤ a) × (a ≤ 0xef)
      → (0x80 ≤ b) × (b ≤ 0xbf)
      → (0x80 ≤ d) × (d ≤ 0xbf)
      → 0x800 ≤ value_3
      → is_scalar value_3 ≡ true
      → Decoded (a ∷ b ∷ d ∷ [])
  unfolding value_3
  build_3 ra rb rd big ok =
      let p : 0xe0 + value_3 / 0x1000 ≡ a = omega arith in
      let q : 0x80 + value_3 / 0x40 % 0x40 ≡ b = omega arith in
      let r : 0x80 + value_3 % 0x40 ≡ d = omega arith in
      record { value = value_3; scalar = ok; bytes = encode_3 value_3 big (omega arith) ∙ rw (p, q, r) }

  -- a row with a range of first bytes, and one with a single first byte
  row_3 :
      (la ha lb hb : ℕ)
      → within la ha a && (within lb hb b && is_continuation d) ≡ true
      → ((la ≤ a) × (a ≤ ha) × (lb ≤ b) × (b ≤ hb) × (0x80 ≤ d) × (d ≤ 0xbf) → Decoded (a ∷ b ∷ d ∷ []))
      → Decoded (a ∷ b ∷ d ∷ [])
  row_3 la ha lb hb e f =
      let t = both (within la ha a) (within lb hb b) (is_continuation d) e in
      let ra = range_of la ha a t.0 in
      let rb = range_of lb hb b t.1 in
      let rd = range_of 0x80 0xbf d t.2 in
      f (ra.0, ra.1, rb.0, rb.1, rd.0, rd.1)

  one_row_3 :
      (x lb hb : ℕ)
      → eqb a x && (within lb hb b && is_continuation d) ≡ true
      → ((a ≡ x) × (lb ≤ b) × (b ≤ hb) × (0x80 ≤ d) × (d ≤ 0xbf) → Decoded (a ∷ b ∷ d ∷ []))
      → Decoded (a ∷ b ∷ d ∷ [])
  one_row_3 x lb hb e f =
      let t = both (eqb a x) (within lb hb b) (is_continuation d) e in
      let rb = range_of lb hb b t.1 in
      let rd = range_of 0x80 0xbf d t.2 in
      f (eqb-true a x t.0, rb.0, rb.1, rd.0, rd.1)

  decode_3 : three_bytes a b d ≡ true → Decoded (a ∷ b ∷ d ∷ [])
  unfolding value_3
  decode_3 e =
      let r1 = eqb a 0xe0 && (within 0xa0 0xbf b && is_continuation d) in
      let r2 = within 0xe1 0xec a && (is_continuation b && is_continuation d) in
      let r3 = eqb a 0xed && (within 0x80 0x9f b && is_continuation d) in
      let r4 = within 0xee 0xef a && (is_continuation b && is_continuation d) in
      or_cases r1 (r2 || (r3 || r4)) e
      (λ t. one_row_3 0xe0 0xa0 0xbf t (λ h. build_3 (omega arith) (omega arith) (omega arith) (omega arith) (low value_3 (omega arith))))
      (λ u. or_cases r2 (r3 || r4) u
      (λ t. row_3 0xe1 0xec 0x80 0xbf t (λ h. build_3 (omega arith) (omega arith) (omega arith) (omega arith) (low value_3 (omega arith))))
      (λ v. or_cases r3 r4 v
      (λ t. one_row_3 0xed 0x80 0x9f t (λ h. build_3 (omega arith) (omega arith) (omega arith) (omega arith) (low value_3 (omega arith))))
      (λ t. row_3 0xee 0xef 0x80 0xbf t (λ h. build_3 (omega arith) (omega arith) (omega arith) (omega arith) (high value_3 (omega arith) (omega arith))))))

low_six_2 : (x y : ℕ) → y < 0x40 → (x * 0x40 + y) % 0x40 ≡ y
low_six_2 x y h = omega arith

low_six_3 : (x y z : ℕ) → z < 0x40 → (x * 0x1000 + y * 0x40 + z) % 0x40 ≡ z
low_six_3 x y z h = omega arith

module _ (a b d f : ℕ) where
  value_4 : ℕ
  value_4 = (a - 0xf0) * 0x40000 + (b - 0x80) * 0x1000 + (d - 0x80) * 0x40 + (f - 0x80)

  build_4 :
      (0xf0 ≤ a) × (a ≤ 0xf4)
      → (0x80 ≤ b) × (b ≤ 0xbf)
      → is_continuation d && is_continuation f ≡ true
      → (0x10000 ≤ (a - 0xf0) * 0x40000 + (b - 0x80) * 0x1000) × ((a - 0xf0) * 0x40000 + (b - 0x80) * 0x1000 ≤ 0x10f000)
      → Decoded (a ∷ b ∷ d ∷ f ∷ [])
  unfolding value_4
  build_4 ra rb t big =
      let rd = range_of 0x80 0xbf d (and_parts (is_continuation d) (is_continuation f) t).0 in
      let rf = range_of 0x80 0xbf f (and_parts (is_continuation d) (is_continuation f) t).1 in
      let p : 0xf0 + value_4 / 0x40000 ≡ a = omega arith in
      let u : value_4 / 0x1000 ≡ (a - 0xf0) * 0x40 + (b - 0x80) = omega arith in
      let v : value_4 / 0x40 ≡ (a - 0xf0) * 0x1000 + (b - 0x80) * 0x40 + (d - 0x80) = omega arith in
      let q : 0x80 + value_4 / 0x1000 % 0x40 ≡ b = rw (u, low_six_2 (a - 0xf0) (b - 0x80) (omega arith)) (omega arith) in
      let r : 0x80 + value_4 / 0x40 % 0x40 ≡ d = rw (v, low_six_3 (a - 0xf0) (b - 0x80) (d - 0x80) (omega arith)) (omega arith) in
      let s : 0x80 + value_4 % 0x40 ≡ f = omega arith in
      record { value = value_4; scalar = high value_4 (omega arith) (omega arith); bytes = encode_4 value_4 (omega arith) ∙ rw (p, q, r, s) }

  decode_4 : four_bytes a b d f ≡ true → Decoded (a ∷ b ∷ d ∷ f ∷ [])
  decode_4 e =
      let rest = is_continuation d && is_continuation f in
      let r1 = eqb a 0xf0 && (within 0x90 0xbf b && rest) in
      let r2 = within 0xf1 0xf3 a && (is_continuation b && rest) in
      let r3 = eqb a 0xf4 && (within 0x80 0x8f b && rest) in
      or_cases r1 (r2 || r3) e
      (λ t.
      let k = both (eqb a 0xf0) (within 0x90 0xbf b) rest t in
      let x = eqb-true a 0xf0 k.0 in
      let y = range_of 0x90 0xbf b k.1 in
      build_4 (omega arith) (omega arith) k.2 (omega arith))
      (λ u. or_cases r2 r3 u
      (λ t.
      let k = both (within 0xf1 0xf3 a) (is_continuation b) rest t in
      let x = range_of 0xf1 0xf3 a k.0 in
      let y = range_of 0x80 0xbf b k.1 in
      build_4 (omega arith) (omega arith) k.2 (omega arith))
      (λ t.
      let k = both (eqb a 0xf4) (within 0x80 0x8f b) rest t in
      let x = eqb-true a 0xf4 k.0 in
      let y = range_of 0x80 0x8f b k.1 in
      build_4 (omega arith) (omega arith) k.2 (omega arith)))

-- ---- the character that the walk passes at k

record Passed (s : List ℕ) (k n : ℕ) : Type 0 where
  value : ℕ
  scalar : is_scalar value ≡ true
  bytes : encode value ++ drop (k + n) s ≡ drop k s

module _ (s : List ℕ) where
  next : (k j : ℕ) → j ≡ k + 1 → k < length s → drop k s ≡ byte s k ∷ drop j s
  next k j e h = rw (e, add-one) (drop-cons s k 0 h)

  passed : {k n : ℕ} {bs : List ℕ} → Decoded bs → drop k s ≡ bs ++ drop (k + n) s → Passed s k n
  passed {k} {n} t e = record { value = t.value; scalar = t.scalar; bytes = rw t.bytes (sym e) }

  pass : (k : ℕ) → 0 < char_at s k → k + char_at s k ≤ length s → Passed s k (char_at s k)
  unfolding char_of
  pass k =
      let a = byte s k in
      let b = byte s (k + 1) in
      let d = byte s (k + 2) in
      let f = byte s (k + 3) in
      let P : ℕ → Type 0 = λ n. 0 < n → k + n ≤ length s → Passed s k n in
      cond_both (one_byte a) 1 _ P (λ e _ h. passed (decode_1 a (ltb-true a 0x80 e)) (next k (k + 1) refl (omega arith)))
      (λ _. cond_both (two_bytes a b) 2 _ P (λ e _ h. passed (decode_2 a b e)
      (rw (next k (k + 1) refl (omega arith), next (k + 1) (k + 2) (omega arith) (omega arith))))
      (λ _. cond_both (three_bytes a b d) 3 _ P (λ e _ h. passed (decode_3 a b d e)
      (rw (next k (k + 1) refl (omega arith), next (k + 1) (k + 2) (omega arith) (omega arith), next (k + 2) (k + 3) (omega arith) (omega arith))))
      (λ _. cond_both (four_bytes a b d f) 4 0 P (λ e _ h. passed (decode_4 a b d f e)
      (rw (
        next k (k + 1) refl (omega arith),
        next (k + 1) (k + 2) (omega arith) (omega arith),
        next (k + 2) (k + 3) (omega arith) (omega arith),
        next (k + 3) (k + 4) (omega arith) (omega arith),
      )))
      (λ _ z. absurd (omega arith)))))

  pass_char : (k : ℕ) → 0 < char_len s k → Passed s k (char_len s k)
  pass_char k p =
      ⊎_elim (λ h. subst (Passed s k) (char_fits s k h) (pass k (omega (arith, char_fits s k h)) h))
      (λ h. absurd (omega (arith, char_cut s k h)))
      (le_or_lt (k + char_at s k) (length s))

  -- ---- the whole text, from the end back

  at_end : (k : ℕ) → char_len s k ≡ 0 → skip_chars s k ≡ length s → Encoded (drop k s)
  unfolding encode_all
  at_end k z e =
      let h : length s ≤ k = omega (arith, chars_stay s k z) in
      record { scalar_values = []; scalars = tt; bytes = sym (drop_of_length-le s h) }

  with_char : (k : ℕ) → Passed s k (char_len s k) → Encoded (drop (k + char_len s k) s) → Encoded (drop k s)
  unfolding encode_all
  with_char k c rest =
      record { scalar_values = c.value ∷ rest.scalar_values; scalars = (c.scalar, rest.scalars); bytes = rw rest.bytes c.bytes }

  from : (m k : ℕ) → length s - k ≤ m → skip_chars s k ≡ length s → Encoded (drop k s)
  from zero k b e =
      at_end k (⊎_elim (λ z. z) (λ p. absurd (omega (arith, char_inside s k p))) (eq-zero-or-pos (char_len s k))) e
  from (suc m) k b e =
      ⊎_elim (λ z. at_end k z e)
      (λ p. with_char k (pass_char k p) (from m (k + char_len s k) (omega (arith, char_inside s k p)) (sym (chars_go s k p) ∙ e)))
      (eq-zero-or-pos (char_len s k))

  pub utf8_is_encoded : utf8 s ≡ true → Encoded s
  unfolding utf8
  utf8_is_encoded e = from (length s) 0 (omega arith) (eqb-true (skip_chars s 0) (length s) e)

-- the test by the table holds exactly of the encodings of lists of scalar values
pub utf8_judges : (s : List ℕ) → Judges s (utf8 s)
utf8_judges s = record { sound = utf8_is_encoded s; complete = encoded_is_utf8 s }
