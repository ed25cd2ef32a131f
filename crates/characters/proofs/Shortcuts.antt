-- Quick tests of a byte, in front of the table of classes. What one promises of a class is computed at each of the 256 entries of the table, and
-- the table's rule turns it into the promise at each byte. Behind them: what a promise says where the test decides, and tests of several classes
-- at one look into the table.
use mathlib.Core.Path.{◌≡◌, refl, sym, ap, ◌∙◌}
use mathlib.Core.Bool.{Bool, true, false, ◌||◌, not, true≢false, false≢true}
use Prim.Native.Nat.{ℕ, ◌<◌}
use borrow.Author.Rules.{rules}
use lib.Dec.{leb}
use lib.ListN.{get_or}
use borrow.Author.Tests.{not-true}
use Rattle.std.proofs.lemmas.Bool.{or_parts, agree_below_at}
use Rattle.std.specs.Char.{is_ascii_whitespace as library_ascii_whitespace}
use Rattle.characters.specs.Class.{Classes, has, is_line_end, is_blank, is_other_whitespace, is_whitespace_byte, is_ascii_whitespace, is_always_kept}
use Rattle.characters.specs.Shortcuts.{RulesOut, Tells, may_be_whitespace}
use Rattle.characters.proofs.Tests.{or_cases}
use Rattle.characters.proofs.Table.{all_below, table, table_rule, at_each_entry}

-- ---- what the bits of an entry say of its byte

module _ (b x : ℕ) (k : Classes b x) where
  pub by_three_classes : has x 1 || (has x 2 || has x 4) ≡ is_whitespace_byte b
  unfolding is_whitespace_byte
  by_three_classes = rw (k.line_end, k.blank, k.other_whitespace) refl

  pub by_kept_classes : has x 64 || (has x 16 || has x 128) ≡ is_always_kept b
  unfolding is_always_kept
  by_kept_classes = rw (k.meta_character, k.digit, k.escape_letter) refl

-- ---- a promise, from what is computed at each entry: `bits` of a byte and its entry say whether the byte has the property p

-- the quick test passes at each byte whose bits say yes
abbrev pub Covers : (ℕ → Bool) → (ℕ → ℕ → Bool) → Type 0
Covers quick bits = all_below (λ k. quick k || not (bits k (get_or table k 0))) 256 ≡ true

-- the bits say yes at each byte that passes the quick test
abbrev pub Covered : (ℕ → Bool) → (ℕ → ℕ → Bool) → Type 0
Covered quick bits = all_below (λ k. not (quick k) || bits k (get_or table k 0)) 256 ≡ true

module _ (bits : ℕ → ℕ → Bool) (p : ℕ → Bool) (says : (b x : ℕ) → Classes b x → bits b x ≡ p b) (quick : ℕ → Bool) where
  rules_out : Covers quick bits → (b : ℕ) → b < 256 → RulesOut (p b) (quick b)
  rules_out e b h = record { none = λ f. sym (says b _ (table_rule b h)) ∙ fails (quick b) _ (at_each_entry (λ k x. quick k || not (bits k x)) e b h) f }
    where
      fails : (q r : Bool) → q || not r ≡ true → q ≡ false → r ≡ false
      fails true r e f = absurd (true≢false f)
      fails false r e f = not-true r e

  tells : Covered quick bits → (b : ℕ) → b < 256 → Tells (p b) (quick b)
  tells e b h = record { holds = λ t. sym (says b _ (table_rule b h)) ∙ passes (quick b) _ (at_each_entry (λ k x. not (quick k) || bits k x) e b h) t }
    where
      passes : (q r : Bool) → not q || r ≡ true → q ≡ true → r ≡ true
      passes true r e t = e
      passes false r e t = absurd (false≢true t)

pub rules_out_line_ends : (quick : ℕ → Bool) → Covers quick (λ b x. has x 1) → (b : ℕ) → b < 256 → RulesOut (is_line_end b) (quick b)
rules_out_line_ends = rules_out _ is_line_end (λ b x k. k.line_end)

pub rules_out_whitespace :
    (quick : ℕ → Bool) → Covers quick (λ b x. (has x 1 || (has x 2 || has x 4)) || leb 0x80 b) → (b : ℕ) → b < 256 → RulesOut (may_be_whitespace b) (quick b)
rules_out_whitespace = rules_out _ may_be_whitespace (λ b x k. ap (λ (t : Bool). t || leb 0x80 b) (by_three_classes b x k))

pub rules_out_blanks : (quick : ℕ → Bool) → Covers quick (λ b x. has x 2) → (b : ℕ) → b < 256 → RulesOut (is_blank b) (quick b)
rules_out_blanks = rules_out _ is_blank (λ b x k. k.blank)

pub tells_line_end : (quick : ℕ → Bool) → Covered quick (λ b x. has x 1) → (b : ℕ) → b < 256 → Tells (is_line_end b) (quick b)
tells_line_end = tells _ is_line_end (λ b x k. k.line_end)

pub tells_blank : (quick : ℕ → Bool) → Covered quick (λ b x. has x 2) → (b : ℕ) → b < 256 → Tells (is_blank b) (quick b)
tells_blank = tells _ is_blank (λ b x k. k.blank)

-- ---- where a quick test decides

module _ (p r : Bool) where
  pub ruled_out : RulesOut p r → not r ≡ true → false ≡ p
  ruled_out f e = sym (f.none (not-true r e))

  pub told : Tells p r → r ≡ true → true ≡ p
  told f e = sym (f.holds e)

-- of a byte of 128 or more nothing is said
pub ruled_out_below : (p q r : Bool) → RulesOut (p || q) r → not r ≡ true → false ≡ p
ruled_out_below p q r f e = sym (or_parts p q (f.none (not-true r e))).0

-- a test that is added to both
pub rules_out_or : (p q r : Bool) → RulesOut p r → RulesOut (p || q) (r || q)
rules_out_or p q r f = record { none = λ e. rw (f.none (or_parts r q e).0, (or_parts r q e).1) refl }

module _ (b : ℕ) where
  pub blank_or_line_end_white : (r q : Bool) → Tells (is_blank b) r → Tells (is_line_end b) q → r || q ≡ true → true ≡ is_whitespace_byte b
  unfolding is_whitespace_byte
  blank_or_line_end_white r q f g e = or_cases r q e (λ t. blank (is_line_end b) (is_blank b) _ (f.holds t)) (λ t. rw (g.holds t) refl)
    where
      blank : (x y z : Bool) → y ≡ true → true ≡ x || (y || z)
      blank true y z t = refl
      blank false y z t = rw t refl

pub ruleset settling = (rules, ruled_out, ruled_out_below, rules_out_or, told, blank_or_line_end_white, by_three_classes)

-- ---- ASCII whitespace: the library tests three ranges, and the definition lists bytes

pub ascii_whitespace_tested : (b : ℕ) (r : Bool) → b < 256 → r ≡ library_ascii_whitespace b → r ≡ is_ascii_whitespace b
unfolding is_ascii_whitespace is_whitespace_byte is_line_end is_blank is_other_whitespace
ascii_whitespace_tested b r h e = e ∙ agree_below_at library_ascii_whitespace is_ascii_whitespace 256 b refl h
