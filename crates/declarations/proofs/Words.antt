-- What a declaration's line says: a law for each way through its readers.
use mathlib.Core.Path.{◌≡◌, refl, sym, ap, ◌∙◌}
use mathlib.Core.Bool.{Bool, true, false, not, ◌&&◌, ◌||◌, and-false}
use mathlib.Core.List.{List}
use Prim.Native.Nat.{ℕ, ◌+◌, ◌-◌, ◌≤◌, ◌<◌}
use native.Mathlib.Omega.{arith}
use borrow.Author.Rules.{rules}
use borrow.Author.Tests.{eq-eqb, ne_eqb}
use lib.Dec.{eqb}
use lib.ListN.{length, take, drop}
use Rattle.std.specs.Char.{is_ascii_alphanumeric, eq_ignore_ascii_case, to_ascii_lowercase, to_ascii_uppercase}
use Rattle.std.specs.List.{list_all}
use Rattle.std.proofs.lemmas.List.{take_rest}
use Rattle.std.proofs.Math.Bool.{and_assoc}
use Rattle.std.proofs.Common.{inl, inr}
use Rattle.std.proofs.lemmas.Bool.{cases_lt}
use Rattle.characters.specs.Class.{within, is_letter, is_digit}
use Rattle.characters.specs.Walk.{Between}
use Rattle.characters.specs.Whitespace.{byte}
use Rattle.text.specs.Range.{part, lookahead_is}
use Rattle.text.specs.Scan.{find_whitespace, trim_end, trim_start}
use Rattle.characters.proofs.Walks.{first_none}
use Rattle.std.specs.Prelude.{Option, is_some}
use Rattle.text.proofs.Parts.{part_length, part_byte, part_first, part_rest}
use Rattle.names.specs.Names.{all_bytes}
use Rattle.names.proofs.Forms.{all_pass}
use Rattle.declarations.specs.declared.Declaration.{Declaration}
use Rattle.declarations.specs.declared.Declaration.TheVariants.{States, Expecting, Unknown}
use Rattle.declarations.specs.Declarations.{Range, range, trimmed, word_end, first_word, rest_of, is_alphanumeric, declares, is_inclusive}
use Rattle.declarations.specs.Declarations.{is_exclusive, is_expecting, expect_missing, states_of, declaration_of}
use Rattle.declarations.specs.Stages.{declaration_by}

-- the library's test asks for a digit first
alphanumeric_byte : (b : ℕ) → is_ascii_alphanumeric b ≡ is_alphanumeric b
unfolding is_alphanumeric is_letter is_digit
alphanumeric_byte b = turn (within 0x30 0x39 b) (within 0x41 0x5a b) (within 0x61 0x7a b)
  where
    turn : (d u l : Bool) → (d || u) || l ≡ (u || l) || d
    turn true true l = refl
    turn true false true = refl
    turn true false false = refl
    turn false true l = refl
    turn false false true = refl
    turn false false false = refl

alphanumeric_bytes : (bs : List ℕ) → list_all is_ascii_alphanumeric bs ≡ list_all is_alphanumeric bs
alphanumeric_bytes bs = λ i. list_all (λ b. alphanumeric_byte b i) bs

-- ---- the first word

-- equal but for their case: one of the two letters of either case
either_case : (b letter : ℕ) → eq_ignore_ascii_case b letter ≡ eqb b (to_ascii_lowercase letter) || eqb b (to_ascii_uppercase letter)
either_case b letter = elim (cases_lt letter 65) [
  | inl h ↦ grind arith
  | inr h ↦ elim (cases_lt letter 91) [
    | inl k ↦ grind arith
    | inr k ↦ elim (cases_lt letter 97) [
      | inl m ↦ grind arith
      | inr m ↦ elim (cases_lt letter 123) [
        | inl n ↦ grind arith
        | inr n ↦ grind arith
      ]
    ]
  ]
]

none_past : (test : ℕ → Bool) (s : List ℕ) (a e : ℕ) → e < a → all_bytes test s a e ≡ false
unfolding all_bytes
none_past test s a e h = rw (← first_none (λ k. not (test (byte s k))) a e (omega arith)) (ne_eqb a e (omega arith))

-- the word is read as a part of the source
module _ (letter : ℕ) (s : List ℕ) (w : Range) (word : List ℕ) (cut : word ≡ part s w.start w.end) (fits : w.end ≤ length s) where
  abbrev Declares : Bool → Type 0
  Declares r = r ≡ declares (to_ascii_lowercase letter) (to_ascii_uppercase letter) s w

  -- % and the letter, before letters or digits
  abbrev begins : Bool
  begins = eqb (byte s w.start) 0x25 && (eqb (byte s (w.start + 1)) (to_ascii_lowercase letter) || eqb (byte s (w.start + 1)) (to_ascii_uppercase letter))

  tail_decides : (t : Bool) → begins ≡ t → Declares (t && all_bytes is_alphanumeric s (w.start + 2) w.end)
  unfolding declares
  tail_decides t e = sym (sym (and_assoc (eqb (byte s w.start) 0x25) _ _) ∙ ap (λ (b : Bool). b && all_bytes is_alphanumeric s (w.start + 2) w.end) e)

  pub word_short : length word < 2 → Declares false
  word_short h = sym (ap (λ (b : Bool). begins && b) (none_past is_alphanumeric s (w.start + 2) w.end (omega (arith, part_length s w.start w.end word cut fits))) ∙ and-false begins) ∙ tail_decides begins refl

  module _ (h : 2 ≤ length word) where
    pub word_unmarked : (byte word 0 ≡ 0x25 → ⊥) → Declares false
    word_unmarked d = tail_decides false (rw (ne_eqb (byte s w.start) 0x25 (λ z. d (part_first s w.start w.end word cut fits (omega arith) ∙ z))) refl)

    module _ (mark : byte word 0 ≡ 0x25) (t : Bool) (is : t ≡ eq_ignore_ascii_case (byte word 1) letter) where
      begun : begins ≡ t
      begun =
          ap (λ (b : Bool). b && (eqb (byte s (w.start + 1)) (to_ascii_lowercase letter) || eqb (byte s (w.start + 1)) (to_ascii_uppercase letter)))
          (eq-eqb (byte s w.start) 0x25 (sym (part_first s w.start w.end word cut fits (omega arith)) ∙ mark))
          ∙ sym (is ∙ ap (λ (b : ℕ). eq_ignore_ascii_case b letter) (part_byte s w.start w.end word cut fits 1 (omega arith)) ∙ either_case (byte s (w.start + 1)) letter)

      pub word_other : t ≡ false → Declares t
      word_other q = q ∙ tail_decides false (begun ∙ q)

      pub word_rest : (r : Bool) → t ≡ true → r ≡ list_all is_ascii_alphanumeric (take (length word - 2) (drop 2 word)) → Declares r
      unfolding part
      word_rest r q e =
          all_pass is_alphanumeric s (w.start + 2) w.end r (omega (arith, part_length s w.start w.end word cut fits)) fits
          (e ∙ alphanumeric_bytes (take (length word - 2) (drop 2 word)) ∙ ap (list_all is_alphanumeric) rest)
          ∙ tail_decides true (begun ∙ q)
        where
          rest : take (length word - 2) (drop 2 word) ≡ take (w.end - (w.start + 2)) (drop (w.start + 2) s)
          rest = take_rest word 2 ∙ part_rest s w.start w.end word cut fits 2 h

pub ruleset words = (rules, word_short, word_unmarked, word_other, word_rest)

-- ---- what stands behind it

module _ (s : List ℕ) (exclusive : ℕ) (r : Range) (a t : ℕ) (start : Between r.start r.end (trim_start s r.start r.end) a) (end : Between a r.end (trim_end s a r.end) t) where
  pub states_none : a ≡ t → Unknown ≡ states_of exclusive (trimmed s r)
  unfolding states_of trimmed
  states_none q = rw (← start.is, ← end.is, eq-eqb a t q)

  pub states_some : (a ≡ t → ⊥) → States exclusive (range a t) ≡ states_of exclusive (trimmed s r)
  unfolding states_of trimmed
  states_some d = rw (← start.is, ← end.is, ne_eqb a t d)

pub ruleset stating = (rules, states_none, states_some)

module _ (s : List ℕ) (i e w r : ℕ) (p : Bool) (inclusive : p ≡ declares 0x73 0x53 s (range i w)) where
  abbrev Says : Declaration → Type 0
  Says d = d ≡ declaration_by s (range i w) (range r e)

  pub by_inclusive : (d : Declaration) → p ≡ true → d ≡ states_of 0 (trimmed s (range r e)) → Says d
  unfolding declaration_by is_inclusive
  by_inclusive d q z = rw (← inclusive, q) z

  module _ (no : p ≡ false) (x : Bool) (exclusive : x ≡ declares 0x78 0x58 s (range i w)) where
    pub by_exclusive : (d : Declaration) → x ≡ true → d ≡ states_of 1 (trimmed s (range r e)) → Says d
    unfolding declaration_by is_inclusive is_exclusive
    by_exclusive d q z = rw (← inclusive, no, ← exclusive, q) z

    module _ (no-x : x ≡ false) (f : Option ℕ) (z : Bool) (ahead : f ≡ lookahead_is s expect_missing i) (is : z ≡ is_some f) where
      pub by_expecting : z ≡ true → Says (Expecting r)
      unfolding declaration_by is_inclusive is_exclusive is_expecting
      by_expecting q = rw (← inclusive, no, ← exclusive, no-x, ← ahead, ← is, q)

      pub by_unknown : z ≡ false → Says Unknown
      unfolding declaration_by is_inclusive is_exclusive is_expecting
      by_unknown q = rw (← inclusive, no, ← exclusive, no-x, ← ahead, ← is, q)

pub ruleset deciding = (rules, by_inclusive, by_exclusive, by_expecting, by_unknown)

-- the decision by the first word and the rest of the line is what the line says
line_decides : (s : List ℕ) (l : Range) → declaration_by s (first_word s l) (rest_of s l) ≡ declaration_of s l
unfolding declaration_by declaration_of
line_decides s l = refl

module _ (s : List ℕ) (l : Range) (t w : ℕ) (line : Between l.start l.end (trim_end s l.start l.end) t) (word : Between l.start l.end (find_whitespace s l.start l.end) w)
    (d : Declaration) where
  abbrev Decides : Type 0
  Decides = d ≡ declaration_by s (first_word s l) (rest_of s l)

  no_rest : w ≡ t → d ≡ declaration_by s (range l.start w) (range l.end l.end) → Decides
  unfolding first_word rest_of word_end
  no_rest q z = rw (← line.is, ← word.is, eq-eqb w t q) z

  some_rest : (w ≡ t → ⊥) → d ≡ declaration_by s (range l.start w) (range w l.end) → Decides
  unfolding first_word rest_of word_end
  some_rest q z = rw (← line.is, ← word.is, ne_eqb w t q) z

  pub only_word : w ≡ t → d ≡ declaration_by s (range l.start w) (range l.end l.end) → d ≡ declaration_of s l
  only_word q z = no_rest q z ∙ line_decides s l

  pub word_and_more : (w ≡ t → ⊥) → d ≡ declaration_by s (range l.start w) (range w l.end) → d ≡ declaration_of s l
  word_and_more q z = some_rest q z ∙ line_decides s l

pub ruleset lining = (rules, only_word, word_and_more)
