-- Rules with distinct names: no rules have them, and a rule more whose name is unused keeps them. Then a rule that has a name is the only one, so
-- that a search may go through the rules in any order.
use mathlib.Core.Path.{◌≡◌, refl, sym, ◌∙◌}
use mathlib.Core.Bool.{Bool, true, false, ◌&&◌, true≢false}
use mathlib.Core.List.{List, [], ◌∷◌, ◌++◌}
use mathlib.Core.Logic.{◌⊎◌, inl, inr, ⊎_elim}
use Prim.Native.Nat.{ℕ, ◌+◌, ◌≤◌, ◌<◌}
use native.Mathlib.Nat.{eq-or-lt_of_le}
use native.Mathlib.Omega.{arith}
use borrow.Author.Tests.{eq-eqb}
use lib.Dec.{eqb}
use lib.ListN.{length, length-append, get_or-append}
use lib.Seq.{get_or-append_seam}
use Rattle.text.specs.Range.{part, same_bytes, same_range}
use Rattle.text.proofs.Ranges.{same_self}
use Rattle.std.specs.Prelude.{Option}
use Rattle.characters.specs.Walk.{last, Below}
use Rattle.characters.proofs.Firsts.{first_before, first_only}
use Rattle.characters.proofs.Lasts.{LastAt, LastNone, last_is}
use Rattle.area.specs.declared.Rule.{Rule}
use Rattle.area.specs.Records.{rule_of, nth_rule}
use Rattle.names.specs.Names.{name_of, DistinctNames, has_name, find_rule}
use Rattle.names.proofs.Finds.{named_same, none_found}

-- no rule of the list that is named has the name, of this length from here, of a rule that is named
pub record Unused (s : List ℕ) (xs : List Rule) (named from len : ℕ) : Type 0 where
  pub unused : (j : ℕ) → j < length xs → (nth_rule xs j).named ≡ 1 → named ≡ 1 → name_of s (nth_rule xs j) ≡ part s from (from + len) → ⊥

-- a rule that has not the name has other bytes
other_name : (s : List ℕ) (a e : ℕ) (x : Rule) → has_name s a e x ≡ false → x.named ≡ 1 → name_of s x ≡ part s a e → ⊥
unfolding has_name same_range name_of
other_name s a e x h n q = true≢false (sym same ∙ h)
  where
    same : eqb x.named 1 && same_bytes (part s a e) (name_of s x) ≡ true
    same = rw (eq-eqb x.named 1 n, q) (same_self (part s a e))

-- where the search finds no rule, none has the name
pub name_unused : (s : List ℕ) (a e : ℕ) (xs : List Rule) → length xs ≤ find_rule s a e xs → (j : ℕ) → j < length xs → (nth_rule xs j).named ≡ 1
    → name_of s (nth_rule xs j) ≡ part s a e → ⊥
unfolding find_rule
name_unused s a e xs h j l =
    other_name s a e (nth_rule xs j) (first_before (λ i. has_name s a e (nth_rule xs i)) 0 (length xs) (omega arith) j (omega arith) (omega arith))

-- ---- the names of more and more rules

pub distinct_none : (s : List ℕ) → DistinctNames s []
distinct_none s = record { differ = λ i j _ l. absurd (omega (arith, l)) }

module _ (s : List ℕ) (xs : List Rule) (x : Rule) where
  earlier : (j : ℕ) → j < length xs → nth_rule (xs ++ (x ∷ [])) j ≡ nth_rule xs j
  earlier j h = get_or-append xs (x ∷ []) (rule_of (λ _. 0)) j h

  newest : nth_rule (xs ++ (x ∷ [])) (length xs) ≡ x
  newest = get_or-append_seam xs x [] (rule_of (λ _. 0))

  pub distinct_more : DistinctNames s xs → Unused s xs x.named x.name_from x.name_length → DistinctNames s (xs ++ (x ∷ []))
  unfolding name_of
  distinct_more d u = record {
    differ = λ i j h l. ⊎_elim
        (λ q. rw (earlier i (omega arith), q, newest) (u.unused i (omega arith)))
        (λ g. rw (earlier i (omega arith), earlier j g) (d.differ i j h g))
        (eq-or-lt_of_le (last j l));
  }
    where
      last : (j : ℕ) → j < length (xs ++ (x ∷ [])) → j ≤ length xs
      last j l = omega (arith, l, length-append xs (x ∷ []))

-- ---- a search in any order

-- a rule that has the name is the one that the definition finds, which is the first
pub found_only : (s : List ℕ) (a e : ℕ) (xs : List Rule) → DistinctNames s xs → (j : ℕ) → j < length xs → has_name s a e (nth_rule xs j) ≡ true
    → find_rule s a e xs ≡ j
unfolding find_rule
found_only s a e xs d j l t = first_only (λ i. has_name s a e (nth_rule xs i)) 0 j (length xs) (omega arith) l t (λ m _ g. other m g (has_name s a e (nth_rule xs m)) refl)
  where
    here : ((nth_rule xs j).named ≡ 1) × (part s a e ≡ name_of s (nth_rule xs j))
    here = named_same s a e (nth_rule xs j) t

    other : (m : ℕ) → m < j → (b : Bool) → has_name s a e (nth_rule xs m) ≡ b → has_name s a e (nth_rule xs m) ≡ false
    other m g true q =
        let there = named_same s a e (nth_rule xs m) q in
        absurd (d.differ m j g l there.0 here.0 (sym there.1 ∙ here.1))
    other m g false q = q

-- so the last that has it is that rule too
module _ (s : List ℕ) (a e : ℕ) (xs : List Rule) (d : DistinctNames s xs) where
  abbrev test : ℕ → Bool
  test k = has_name s a e (nth_rule xs k)

  pub found_last : (o : Option ℕ) → o ≡ last test 0 (length xs) → Below (length xs) (find_rule s a e xs) o
  found_last o is = by (last_is test 0 (length xs) (omega arith))
    where
      by : LastAt test 0 (length xs) (last test 0 (length xs)) ⊎ LastNone test 0 (length xs) (last test 0 (length xs)) → Below (length xs) (find_rule s a e xs) o
      by (inl l) = rw (is, l.is) (l.to, sym (found_only s a e xs d l.place l.to l.passes))
      by (inr l) = rw (is, l.is) (none_found s a e xs (λ j h. l.fails j (omega arith) h))
