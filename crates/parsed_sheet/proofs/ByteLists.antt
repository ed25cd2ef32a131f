-- Well-formed text consists of bytes, since each byte of an encoded code point is below 256; and so does rewritten text, which is made of parts of the
-- source and of the texts for `\b`.
use Prim.Native.Nat.{ℕ, ◌+◌, ◌-◌, ◌/◌, ◌%◌, ◌<◌}
use mathlib.Core.Path.{◌≡◌, refl, subst}
use mathlib.Core.Bool.{Bool, true}
use mathlib.Core.List.{List, [], ◌∷◌, ◌++◌}
use native.Mathlib.Omega.{arith}
use borrow.Author.Tests.{lt-ltb, ltb-true}
use lib.Dec.{eqb, ltb}
use lib.ListN.{drop}
use Rattle.std.proofs.lemmas.Bool.{cond_both}
use Rattle.characters.specs.Class.{within}
use Rattle.characters.specs.Whitespace.{byte}
use Rattle.text.specs.Range.{part}
use Rattle.characters.specs.Unicode.{is_scalar, encode, encode_all, Scalars}
use Rattle.characters.specs.Utf8.{utf8}
use Rattle.characters.proofs.Tests.{or_cases, range_of}
use Rattle.characters.proofs.Decoding.{utf8_judges}
use Rattle.escape.specs.declared.Escape.{Escape}
use Rattle.escape.specs.Escape.{escapes, backspace, escape_from, escaped, rewritten_end, replaced, unescaped}
use Rattle.area.specs.Lists.{all}
use Rattle.area.proofs.All.{all_append, all_take, all_drop}
use Rattle.parsed_sheet.specs.Accepted.{is_byte}

-- ---- parts

part_bytes : (s : List ℕ) (a e : ℕ) → all is_byte s ≡ true → all is_byte (part s a e) ≡ true
unfolding part
part_bytes s a e h = all_take is_byte (e - a) (drop a s) (all_drop is_byte a s h)

-- ---- well-formed text

scalar_small : (c : ℕ) → is_scalar c ≡ true → c < 0x110000
scalar_small c e =
    or_cases (ltb c 0xd800) (within 0xe000 0x10ffff c) e (λ h. omega (arith, ltb-true c 0xd800 h)) (λ h. omega (arith, range_of 0xe000 0x10ffff c h))

byte_more : (x : ℕ) (xs : List ℕ) → x < 256 → all is_byte xs ≡ true → all is_byte (x ∷ xs) ≡ true
unfolding all
byte_more x xs h g = rw (lt-ltb x 256 h) g

-- the bytes of a character after its first
inner_byte : (v : ℕ) → 0x80 + v % 0x40 < 256
inner_byte v = omega arith

no_bytes : all is_byte [] ≡ true
unfolding all
no_bytes = refl

inner_one : (u : ℕ) → all is_byte ((0x80 + u % 0x40) ∷ []) ≡ true
inner_one u = byte_more (0x80 + u % 0x40) [] (inner_byte u) no_bytes

inner_two : (v u : ℕ) → all is_byte ((0x80 + v % 0x40) ∷ (0x80 + u % 0x40) ∷ []) ≡ true
inner_two v u = byte_more (0x80 + v % 0x40) ((0x80 + u % 0x40) ∷ []) (inner_byte v) (inner_one u)

encode_bytes : (c : ℕ) → is_scalar c ≡ true → all is_byte (encode c) ≡ true
unfolding encode
encode_bytes c e =
    let P : List ℕ → Type 0 = λ l. all is_byte l ≡ true in
    let one : List ℕ = (0x80 + c % 0x40) ∷ [] in
    let two : List ℕ = (0x80 + c / 0x40 % 0x40) ∷ one in
    let three : List ℕ = (0x80 + c / 0x1000 % 0x40) ∷ two in
    let three_bytes_lem : P three = byte_more (0x80 + c / 0x1000 % 0x40) two (inner_byte (c / 0x1000)) (inner_two (c / 0x40) c) in
    cond_both (ltb c 0x80) (c ∷ []) _ P (λ h. byte_more c [] (omega (arith, ltb-true c 0x80 h)) no_bytes)
    (λ _. cond_both (ltb c 0x800) ((0xc0 + c / 0x40) ∷ one) _ P (λ h. byte_more (0xc0 + c / 0x40) one (omega (arith, ltb-true c 0x800 h)) (inner_one c))
    (λ _. cond_both (ltb c 0x10000) ((0xe0 + c / 0x1000) ∷ two) ((0xf0 + c / 0x40000) ∷ three) P
    (λ h. byte_more (0xe0 + c / 0x1000) two (omega (arith, ltb-true c 0x10000 h)) (inner_two (c / 0x40) c))
    (λ _. byte_more (0xf0 + c / 0x40000) three (omega (arith, scalar_small c e)) three_bytes_lem)))

encoded_bytes : (cs : List ℕ) → Scalars cs → all is_byte (encode_all cs) ≡ true
unfolding encode_all all
encoded_bytes [] h = refl
encoded_bytes (c ∷ cs) h = all_append is_byte (encode c) (encode_all cs) (encode_bytes c h.0) (encoded_bytes cs h.1)

pub utf8_bytes : (s : List ℕ) → utf8 s ≡ true → all is_byte s ≡ true
utf8_bytes s e =
    let x = (utf8_judges s).sound e in
    subst (λ (l : List ℕ). all is_byte l ≡ true) x.bytes (encoded_bytes x.scalar_values x.scalars)

-- ---- rewritten text

module _ (s : List ℕ) (posix_escapes : Bool) (c : ℕ) (h : all is_byte s ≡ true) where
  abbrev AllBytes : List ℕ → Type 0
  AllBytes l = all is_byte l ≡ true

  escaped_bytes : (e : Escape) → AllBytes (escaped s posix_escapes c e)
  unfolding escaped backspace all
  escaped_bytes e =
      cond_both (eqb (byte s e.start) 0x62) (backspace posix_escapes) (part s (escape_from s c e) e.end) AllBytes
      (λ _. cond_both posix_escapes (0x5c ∷ 0x78 ∷ 0x30 ∷ 0x38 ∷ []) (0x5c ∷ 0x62 ∷ []) AllBytes (λ _. refl) (λ _. refl))
      (λ _. part_bytes s (escape_from s c e) e.end h)

  replaced_bytes : (p z : ℕ) (es : List Escape) → AllBytes (replaced (escaped s posix_escapes c) s p z es)
  unfolding replaced
  replaced_bytes p z [] = part_bytes s p z h
  replaced_bytes p z (e ∷ es) =
      let rest = replaced (escaped s posix_escapes c) s e.end z es in
      all_append is_byte (part s p e.backslash) (escaped s posix_escapes c e ++ rest) (part_bytes s p e.backslash h)
      (all_append is_byte (escaped s posix_escapes c e) rest (escaped_bytes e) (replaced_bytes e.end z es))

  pub unescaped_bytes : (i : ℕ) → all is_byte (unescaped s posix_escapes i c) ≡ true
  unfolding unescaped
  unescaped_bytes i = replaced_bytes i (rewritten_end s i c) (escapes s i c)
