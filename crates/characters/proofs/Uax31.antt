-- What is measured in bytes is what UAX #31 says of code points. At a character the bytes of each of the eleven code points are measured
-- right, by computing; bytes that are measured are those of one of them, by the size of the code point; inside a character nothing is
-- measured, since the bytes there are from 80 to BF.
use mathlib.Core.Path.{◌≡◌, refl, sym, ap, subst, ◌∙◌}
use mathlib.Core.Bool.{Bool, true, false, cond, ◌&&◌, ◌||◌, true≢false, false≢true}
use mathlib.Core.List.{List, [], ◌∷◌, ◌++◌}
use mathlib.Core.Logic.{⊎_elim}
use Prim.Native.Nat.{ℕ, ◌+◌, ◌/◌, ◌%◌, ◌≤◌, ◌<◌}
use native.Mathlib.Nat.{eq-zero-or-pos}
use native.Mathlib.Omega.{arith}
use borrow.Author.Tests.{eqb-true}
use lib.Dec.{eqb}
use lib.ListN.{length}
use Rattle.std.proofs.lemmas.Bool.{cond_both, and_parts}
use Rattle.characters.specs.Class.{among, is_whitespace_byte, is_line_end, is_blank, is_other_whitespace}
use Rattle.characters.specs.Whitespace.{byte, is_next_line, is_mark, is_separator, whitespace_of, line_end_of, whitespace_len, line_end_len}
use Rattle.characters.specs.Unicode.{encode, encode_all, pattern_white_space, line_terminators, is_pattern_white_space, is_line_terminator}
use Rattle.characters.proofs.Tests.{or_cases}
use Rattle.characters.proofs.Spaces.{end_none_of_white, inner_none}
use Rattle.characters.proofs.Codes.{Each, by_size, encode_1, encode_2, encode_3, encode_4, byte_behind, byte_next, encode_all-append}
use Rattle.characters.proofs.Ascii.{inner_at}

-- what holds of each number of a list holds of a number that is among them
among_each : (P : ℕ → Type 0) (xs : List ℕ) (c : ℕ) → among xs c ≡ true → Each P xs → P c
among_each P [] c e h = absurd (false≢true e)
among_each P (x ∷ xs) c e h =
    or_cases (eqb c x) (among xs c) e (λ t. subst P (sym (eqb-true c x t)) h.0) (λ t. among_each P xs c t h.1)

-- ---- a whitespace character is measured

white_points : (P : ℕ → Type 0) (c : ℕ) → is_pattern_white_space c ≡ true → Each P pattern_white_space → P c
unfolding is_pattern_white_space
white_points P c e h = among_each P pattern_white_space c e h

white_measured : (c : ℕ) (t : List ℕ) → is_pattern_white_space c ≡ true → whitespace_len (encode c ++ t) 0 ≡ length (encode c)
unfolding is_whitespace_byte is_line_end is_blank is_other_whitespace encode whitespace_of whitespace_len
white_measured c t e =
    white_points (λ n. whitespace_len (encode n ++ t) 0 ≡ length (encode n)) c e
    (refl, (refl, (refl, (refl, (refl, (refl, (refl, (refl, (refl, (refl, (refl, tt)))))))))))

-- a whitespace character is measured as a line end if it is one
end_measured : (c : ℕ) (t : List ℕ) → is_pattern_white_space c ≡ true → line_end_len (encode c ++ t) 0 ≡ cond (is_line_terminator c) (length (encode c)) 0
unfolding is_line_end encode line_end_of line_end_len is_line_terminator
end_measured c t e =
    white_points (λ n. line_end_len (encode n ++ t) 0 ≡ cond (is_line_terminator n) (length (encode n)) 0) c e
    (refl, (refl, (refl, (refl, (refl, (refl, (refl, (refl, (refl, (refl, (refl, tt)))))))))))

terminator_is_white : (c : ℕ) → is_line_terminator c ≡ true → is_pattern_white_space c ≡ true
unfolding is_line_terminator is_pattern_white_space
terminator_is_white c e = among_each (λ n. is_pattern_white_space n ≡ true) line_terminators c e (refl, (refl, (refl, (refl, (refl, tt)))))

-- ---- what is measured is a whitespace character

whitespace_bytes : (P : ℕ → Type 0) (a : ℕ) → is_whitespace_byte a ≡ true → Each P (0x0a ∷ 0x0b ∷ 0x0d ∷ []) → Each P (0x20 ∷ 0x09 ∷ []) → P 0x0c → P a
unfolding is_whitespace_byte is_line_end is_blank is_other_whitespace
whitespace_bytes P a e f g h =
    or_cases (is_line_end a) (is_blank a || is_other_whitespace a) e (λ t. among_each P (0x0a ∷ 0x0b ∷ 0x0d ∷ []) a t f)
    (λ u. or_cases (is_blank a) (is_other_whitespace a) u (λ t. among_each P (0x20 ∷ 0x09 ∷ []) a t g) (λ t. subst P (sym (eqb-true a 0x0c t)) h))

byte_is_white : (a : ℕ) → is_whitespace_byte a ≡ true → is_pattern_white_space a ≡ true
unfolding is_pattern_white_space
byte_is_white a e = whitespace_bytes (λ n. is_pattern_white_space n ≡ true) a e (refl, (refl, (refl, tt))) (refl, (refl, tt)) refl

byte_is_small : (a : ℕ) → is_whitespace_byte a ≡ true → a ≤ 0x20
byte_is_small a e =
    whitespace_bytes (λ n. n ≤ 0x20) a e (omega arith, (omega arith, (omega arith, tt))) (omega arith, (omega arith, tt)) (omega arith)

-- the three ways in which bytes are measured
measured_by :
    {A : Type 0} (a b d : ℕ)
    → 0 < whitespace_of a b d
    → (is_whitespace_byte a ≡ true → A)
    → (a ≡ 0xc2 → b ≡ 0x85 → A)
    → (a ≡ 0xe2 → b ≡ 0x80 → is_pattern_white_space (0x1f80 + d) ≡ true → A)
    → A
unfolding whitespace_of is_pattern_white_space
measured_by {A} a b d h one two three =
    let P : ℕ → Type 0 = λ n. 0 < n → A in
    cond_both (is_whitespace_byte a) 1 _ P (λ e _. one e)
    (λ _. cond_both (is_next_line a b) 2 _ P
    (λ e _. two (eqb-true a 0xc2 (and_parts (eqb a 0xc2) (eqb b 0x85) e).0) (eqb-true b 0x85 (and_parts (eqb a 0xc2) (eqb b 0x85) e).1))
    (λ _. cond_both (is_mark a b d || is_separator a b d) 3 0 P
    (λ e _. or_cases (is_mark a b d) (is_separator a b d) e (third 0x8e 0x8f refl refl) (third 0xa8 0xa9 refl refl)) (λ _ k. absurd (omega arith)))) h
  where
    third : (x y : ℕ) → is_pattern_white_space (0x1f80 + x) ≡ true → is_pattern_white_space (0x1f80 + y) ≡ true
        → eqb a 0xe2 && (eqb b 0x80 && (eqb d x || eqb d y)) ≡ true → A
    third x y p q e =
        let f = (and_parts (eqb a 0xe2) (eqb b 0x80 && (eqb d x || eqb d y)) e).1 in
        three (eqb-true a 0xe2 (and_parts (eqb a 0xe2) (eqb b 0x80 && (eqb d x || eqb d y)) e).0) (eqb-true b 0x80 (and_parts (eqb b 0x80) (eqb d x || eqb d y) f).0)
        (or_cases (eqb d x) (eqb d y) (and_parts (eqb b 0x80) (eqb d x || eqb d y) f).1
        (λ t. rw (eqb-true d x t) p)
        (λ t. rw (eqb-true d y t) q))

is_white : (c v : ℕ) → c ≡ v → is_pattern_white_space v ≡ true → is_pattern_white_space c ≡ true
is_white c v e h = rw e h

measured_is_white : (c : ℕ) (t : List ℕ) → 0 < whitespace_len (encode c ++ t) 0 → is_pattern_white_space c ≡ true
unfolding whitespace_len is_pattern_white_space
measured_is_white c t h =
    by_size c
    (λ r. measured_by c (byte t 0) (byte t 1) (rw (encode_1 c r) at h) (λ e. byte_is_white c e) (λ a b. absurd (omega arith)) (λ a b d. absurd (omega arith)))
    (λ l r. measured_by (0xc0 + c / 0x40) (0x80 + c % 0x40) (byte t 0) (rw (encode_2 c l r) at h)
    (λ e. absurd (omega (arith, byte_is_small (0xc0 + c / 0x40) e)))
    (λ a b. is_white c 0x85 (omega arith) refl)
    (λ a b d. absurd (omega arith)))
    (λ l r. measured_by (0xe0 + c / 0x1000) (0x80 + c / 0x40 % 0x40) (0x80 + c % 0x40) (rw (encode_3 c l r) at h)
    (λ e. absurd (omega (arith, byte_is_small (0xe0 + c / 0x1000) e)))
    (λ a b. absurd (omega arith))
    (λ a b d. is_white c (0x1f80 + (0x80 + c % 0x40)) (omega arith) d))
    (λ l. measured_by (0xf0 + c / 0x40000) (0x80 + c / 0x1000 % 0x40) (0x80 + c / 0x40 % 0x40) (rw (encode_4 c l) at h)
    (λ e. absurd (omega (arith, byte_is_small (0xf0 + c / 0x40000) e)))
    (λ a b. absurd (omega arith))
    (λ a b d. absurd (omega arith)))

-- ---- at a character that bytes follow

white_at_start : (c : ℕ) (t : List ℕ) → whitespace_len (encode c ++ t) 0 ≡ cond (is_pattern_white_space c) (length (encode c)) 0
white_at_start c t = go (is_pattern_white_space c) refl
  where
    go : (b : Bool) → is_pattern_white_space c ≡ b → whitespace_len (encode c ++ t) 0 ≡ cond b (length (encode c)) 0
    go true e = white_measured c t e
    go false e =
        ⊎_elim (λ z. z) (λ p. absurd (true≢false (sym (measured_is_white c t p) ∙ e))) (eq-zero-or-pos (whitespace_len (encode c ++ t) 0))

end_at_start : (c : ℕ) (t : List ℕ) → line_end_len (encode c ++ t) 0 ≡ cond (is_line_terminator c) (length (encode c)) 0
end_at_start c t = go (is_pattern_white_space c) refl
  where
    no_terminator : is_pattern_white_space c ≡ false → (b : Bool) → is_line_terminator c ≡ b → 0 ≡ cond b (length (encode c)) 0
    no_terminator e true f = absurd (true≢false (sym (terminator_is_white c f) ∙ e))
    no_terminator e false f = refl

    go : (b : Bool) → is_pattern_white_space c ≡ b → line_end_len (encode c ++ t) 0 ≡ cond (is_line_terminator c) (length (encode c)) 0
    go true e = end_measured c t e
    go false e =
        end_none_of_white (encode c ++ t) 0 (white_at_start c t ∙ ap (λ (b : Bool). cond b (length (encode c)) 0) e)
        ∙ no_terminator e (is_line_terminator c) refl

-- ---- in a text of code points

module _ (p q : List ℕ) where
  white_behind : whitespace_len (p ++ q) (length p) ≡ whitespace_len q 0
  unfolding whitespace_len
  white_behind = rw (byte_next p q, byte_behind p q 1, byte_behind p q 2)

  end_behind : line_end_len (p ++ q) (length p) ≡ line_end_len q 0
  unfolding line_end_len
  end_behind = rw (byte_next p q, byte_behind p q 1, byte_behind p q 2)

-- at a character's edge, its width exactly if its code point is in the set
module _ (xs : List ℕ) (c : ℕ) (ys : List ℕ) where
  pub whitespace_at : whitespace_len (encode_all (xs ++ c ∷ ys)) (length (encode_all xs)) ≡ cond (is_pattern_white_space c) (length (encode c)) 0
  unfolding encode_all
  whitespace_at = rw (encode_all-append xs (c ∷ ys)) (white_behind (encode_all xs) (encode c ++ encode_all ys) ∙ white_at_start c (encode_all ys))

  pub line_end_at : line_end_len (encode_all (xs ++ c ∷ ys)) (length (encode_all xs)) ≡ cond (is_line_terminator c) (length (encode c)) 0
  unfolding encode_all
  line_end_at = rw (encode_all-append xs (c ∷ ys)) (end_behind (encode_all xs) (encode c ++ encode_all ys) ∙ end_at_start c (encode_all ys))

  -- and nothing inside a character
  module _ (j : ℕ) (p : 0 < j) (h : j < length (encode c)) where
    pub no_whitespace_inside : whitespace_len (encode_all (xs ++ c ∷ ys)) (length (encode_all xs) + j) ≡ 0
    unfolding whitespace_len
    no_whitespace_inside =
        let b = inner_at xs c ys j p h in
        inner_none _ _ _ b.0 b.1

    pub no_line_end_inside : line_end_len (encode_all (xs ++ c ∷ ys)) (length (encode_all xs) + j) ≡ 0
    no_line_end_inside = end_none_of_white _ _ no_whitespace_inside
