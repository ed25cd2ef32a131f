-- The record of a name: what the test of one record says, and that the first that passes is the record that is looked for. A rule's name that ends
-- inside the source has the length that the record says, so that a rule of another length has another name.
use mathlib.Core.Path.{◌≡◌, refl, sym, ap, ◌∙◌}
use mathlib.Core.Bool.{Bool, true, false}
use mathlib.Core.List.{List}
use Prim.Native.Nat.{ℕ, ◌+◌, ◌<◌}
use native.Mathlib.Omega.{arith}
use borrow.Author.Rules.{rules}
use borrow.Author.Tests.{eq-eqb, ne_eqb, eqb-true}
use lib.Dec.{eqb}
use lib.ListN.{length}
use Rattle.std.proofs.lemmas.Bool.{and_parts}
use Rattle.std.specs.Prelude.{Option}
use Rattle.std.specs.List.{slice_range}
use Rattle.std.specs.Cmp.Lexicographic.{pointwise}
use Rattle.characters.specs.Walk.{first, Below}
use Rattle.characters.proofs.Walks.{first_over, first_none}
use Rattle.text.specs.Range.{part, same_bytes, same_range}
use Rattle.text.proofs.Parts.{part_length}
use Rattle.text.proofs.Ranges.{same_equal, slices_same}
use Rattle.area.specs.declared.State.{State}
use Rattle.area.specs.declared.Rule.{Rule}
use Rattle.area.specs.Records.{nth_state, nth_rule}
use Rattle.names.specs.Names.{initial, is_state, find_state, name_of, has_name, find_rule}
use Rattle.names.specs.Marks.{EndsInside}

-- ---- whether a record has the name

module _ (s : List ℕ) (a e j : ℕ) (r : Bool) where
  pub state_initial : (cut : List ℕ) → j ≡ 0 → cut ≡ part s a e → r ≡ pointwise eqb cut initial → (xs : List State) → r ≡ is_state s a e xs j
  unfolding is_state
  state_initial cut z is q xs = rw (eq-eqb j 0 z) (slices_same cut initial (part s a e) r is q)

  pub state_other : (x : State) → (j ≡ 0 → ⊥) → r ≡ same_range s a e s x.start x.end → (xs : List State) → nth_state xs j ≡ x → r ≡ is_state s a e xs j
  unfolding is_state
  state_other x z q xs is = rw (ne_eqb j 0 z, is) q

-- a rule that has the name is named, and its name has the same bytes
pub named_same : (s : List ℕ) (a e : ℕ) (x : Rule) → has_name s a e x ≡ true → (x.named ≡ 1) × (part s a e ≡ name_of s x)
unfolding has_name same_range name_of
named_same s a e x t =
    let test = eqb x.named 1 in
    let name = part s x.name_from (x.name_from + x.name_length) in
    (eqb-true x.named 1 (and_parts test (same_bytes (part s a e) name) t).0, same_equal (part s a e) name (and_parts test (same_bytes (part s a e) name) t).1)

-- the rule x, by the code's tests in their order: another length, no name, or a name that is compared
module _ (s name : List ℕ) (x : Rule) where
  pub other_length : EndsInside s x → (x.name_length ≡ length name → ⊥) → (a e : ℕ) → name ≡ part s a e → false ≡ has_name s a e x
  unfolding name_of
  other_length inside f a e is = go (has_name s a e x) refl
    where
      go : (b : Bool) → has_name s a e x ≡ b → false ≡ b
      go true q =
          let (named, same) = named_same s a e x q in
          absurd (f (omega (arith, ap length (is ∙ same), part_length s x.name_from (x.name_from + x.name_length) (name_of s x) refl inside)))
      go false q = refl

  module _ (t : Bool) (tested : t ≡ eqb x.named 1) where
    pub rule_unnamed : t ≡ false → (a e : ℕ) → name ≡ part s a e → t ≡ has_name s a e x
    unfolding has_name
    rule_unnamed f a e is = rw (← tested, f) refl

    pub rule_compared : t ≡ true → (z : ℕ) (r : Bool) → z ≡ x.name_from + x.name_length → r ≡ same_bytes name (slice_range s x.name_from z)
        → (a e : ℕ) → name ≡ part s a e → r ≡ has_name s a e x
    unfolding has_name same_range part
    rule_compared pass z r end q a e is = rw (← tested, pass, ← end, ← is) q

pub ruleset comparing_names = (rules, state_initial, state_other, other_length, rule_unnamed)

-- ---- the first record that has it

pub state_below : (s : List ℕ) (a e : ℕ) (xs : List State) (r : Option ℕ) → Below (length xs) (first (is_state s a e xs) 0 (length xs)) r → Below (length xs) (find_state s a e xs) r
unfolding find_state
state_below s a e xs r h = h

-- where no rule has the name, none is found
pub none_found : (s : List ℕ) (a e : ℕ) (xs : List Rule) → ((j : ℕ) → j < length xs → has_name s a e (nth_rule xs j) ≡ false) → length xs ≡ find_rule s a e xs
unfolding find_rule
none_found s a e xs f =
    let test : ℕ → Bool = λ j. has_name s a e (nth_rule xs j) in
    let n = length xs in
    first_none test n n (omega arith) ∙ sym (first_over test 0 n n (omega arith) (omega arith) (λ j _ h. f j h))
