-- The form of a name: a law for each way through.
use mathlib.Core.Path.{◌≡◌, refl, sym, ap, ◌∙◌}
use mathlib.Core.Bool.{Bool, true, false, not, ◌&&◌, ◌||◌, or-false}
use mathlib.Core.List.{List}
use Prim.Native.Nat.{ℕ, zero, suc, ◌+◌, ◌-◌, ◌≤◌, ◌<◌}
use native.Mathlib.Omega.{arith}
use borrow.Author.Rules.{rules}
use borrow.Author.Tests.{eq-eqb, ne_eqb, lt-ltb, le-ltb}
use lib.Dec.{eqb}
use lib.ListN.{length, take, drop}
use Rattle.std.specs.List.{list_all}
use Rattle.std.proofs.lemmas.List.{drop_more}
use Rattle.characters.specs.Class.{is_letter, is_digit}
use Rattle.characters.specs.Walk.{first}
use Rattle.characters.specs.Whitespace.{byte}
use Rattle.characters.proofs.Walks.{first_here, first_next, first_none}
use Rattle.names.specs.Names.{all_bytes, is_name_byte, is_state_name}

pub name_byte : (b : ℕ) (l d : Bool) → l ≡ is_letter b → d ≡ is_digit b → l || (d || (eqb b 0x5f || eqb b 0x2e)) ≡ is_name_byte b
unfolding is_name_byte
name_byte b l d el ed = rw (el, ed, or-false (eqb b 0x2e))

-- all bytes pass where the library's test of their list does
all_listed : (test : ℕ → Bool) (s : List ℕ) (n a e : ℕ) → a + n ≡ e → e ≤ length s → list_all test (take n (drop a s)) ≡ all_bytes test s a e
unfolding all_bytes
all_listed test s zero a e q h = sym (eq-eqb (first (λ k. not (test (byte s k))) a e) e (sym (first_none (λ k. not (test (byte s k))) a e (omega arith)) ∙ omega arith))
all_listed test s (suc n) a e q h = rw (drop_more s a 0 (omega arith)) (by (test (byte s a)) refl (all_listed test s n (a + 1) e (omega arith) h))
  where
    failing : ℕ → Bool
    failing k = not (test (byte s k))

    by : (t : Bool) → test (byte s a) ≡ t → list_all test (take n (drop (a + 1) s)) ≡ eqb (first failing (a + 1) e) e
        → t && list_all test (take n (drop (a + 1) s)) ≡ eqb (first failing a e) e
    by true t rest = rest ∙ ap (λ (k : ℕ). eqb k e) (sym (first_next failing a e (omega arith) (ap not t)))
    by false t rest = sym (ap (λ (k : ℕ). eqb k e) (sym (first_here failing a e (omega arith) (ap not t))) ∙ ne_eqb a e (omega arith))

pub all_pass : (test : ℕ → Bool) (s : List ℕ) (a e : ℕ) (r : Bool) → a ≤ e → e ≤ length s → r ≡ list_all test (take (e - a) (drop a s)) → r ≡ all_bytes test s a e
all_pass test s a e r l h q = q ∙ all_listed test s (e - a) a e (omega arith) h

module _ (s : List ℕ) (a e : ℕ) where
  pub form_empty : e ≤ a → false ≡ is_state_name s a e
  unfolding is_state_name
  form_empty h = rw (le-ltb a e h)

  module _ (h : a < e) (r : Bool) (is : r ≡ is_letter (byte s a)) where
    pub form_start : r ≡ false → false ≡ is_state_name s a e
    unfolding is_state_name
    form_start q = rw (lt-ltb a e h, ← is, q)

    pub form_rest : (t : Bool) → r ≡ true → e ≤ length s → t ≡ list_all is_name_byte (take (e - (a + 1)) (drop (a + 1) s)) → t ≡ is_state_name s a e
    unfolding is_state_name
    form_rest t q l z = rw (lt-ltb a e h, ← is, q) (all_pass is_name_byte s (a + 1) e t (omega arith) l z)

pub ruleset forming = (rules, form_empty, form_start, form_rest)
