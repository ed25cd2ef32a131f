-- Marks of names. Where the mark of a name is not set no rule has the name, for the same bytes have the same mark; so a search that is spared would
-- have found nothing.
use mathlib.Core.Path.{◌≡◌, refl, sym, ap, subst, ◌∙◌}
use mathlib.Core.Bool.{Bool, true, false, false≢true}
use mathlib.Core.List.{List}
use mathlib.Core.Logic.{⊎_elim}
use Prim.Native.Nat.{ℕ, ◌+◌, ◌*◌, ◌%◌, ◌≤◌, ◌<◌}
use native.Mathlib.Omega.{arith}
use borrow.Author.Rules.{rules}
use borrow.Author.Tests.{eqb-true, eqb-false}
use lib.Dec.{eqb}
use lib.ListN.{length, get_or, take, set, length-take, length-set}
use lib.Seq.{take_all, get_or-take, get_or-set_same, get_or-set_other}
use Rattle.text.specs.Range.{part}
use Rattle.characters.proofs.Tests.{le_or_lt}
use Rattle.area.specs.declared.Rule.{Rule}
use Rattle.area.specs.Records.{nth_rule}
use Rattle.area.specs.Contents.{rule_format}
use Rattle.names.specs.Names.{name_of, has_name, find_rule}
use Rattle.names.specs.Marks.{mark_count, from_end, mark_of, Mark, Marked}
use Rattle.names.proofs.Finds.{named_same, none_found}

-- ---- the place of a mark

module _ (name : List ℕ) where
  pub mark_made : (r : ℕ) → r ≡ (from_end name 1 + 10 * from_end name 2 + 100 * from_end name 3 + 1000 * from_end name 4 + length name) % mark_count → Mark name r
  unfolding mark_of
  mark_made r q = record { is = q; small = omega arith }

pub ruleset marking = (rules, mark_made)

-- ---- a name whose mark is not set

module _ (s : List ℕ) (xs : List Rule) (marks : List Bool) (M : Marked s xs marks) (a e r : ℕ) (name : List ℕ) (cut : name ≡ part s a e) (q : Mark name r) (z : get_or marks r false ≡ false) where
  abbrev test : ℕ → Bool
  test j = has_name s a e (nth_rule xs j)

  none_named : (j : ℕ) → j < length xs → test j ≡ false
  none_named j g = by (test j) refl
    where
      by : (t : Bool) → test j ≡ t → t ≡ false
      by true t =
          let (named, same) = named_same s a e (nth_rule xs j) t in
          absurd (false≢true (sym z ∙ ap (λ (k : ℕ). get_or marks k false) (q.is ∙ ap mark_of (cut ∙ same)) ∙ M.each j g named))
      by false t = refl

  pub unmarked_missing : length xs ≡ find_rule s a e xs
  unmarked_missing = none_found s a e xs none_named

-- ---- marks of the first k rules

module _ (s : List ℕ) (xs : List Rule) (marks : List Bool) (k : ℕ) (M : Marked s (take k xs) marks) where
  pub marked_all : length xs ≤ k → Marked s xs marks
  marked_all g = subst (λ (ys : List Rule). Marked s ys marks) (take_all k xs (omega arith)) M

  module _ (g : k < length xs) (x : Rule) (is : x ≡ nth_rule xs k) where
    -- the mark of a rule's name is set in other marks
    abbrev MarkedIn : List Bool → Rule → Type 0
    MarkedIn others y = y.named ≡ 1 → get_or others (mark_of (name_of s y)) false ≡ true

    among : (n j : ℕ) → j < n → nth_rule (take n xs) j ≡ nth_rule xs j
    among n j u = get_or-take n xs j rule_format.blank u

    -- marks that keep those before and have the mark of rule k
    marked_next : (others : List Bool) → length others ≡ mark_count → ((i : ℕ) → get_or marks i false ≡ true → get_or others i false ≡ true) → MarkedIn others x
        → Marked s (take (k + 1) xs) others
    marked_next others long keeps new = record {
      long = long;
      each = λ j u. ⊎_elim
          (λ v.
          let z : k ≡ j = omega (arith, u, v, length-take (k + 1) xs) in
          subst (MarkedIn others) (is ∙ ap (nth_rule xs) z ∙ sym (among (k + 1) j (omega (arith, z)))) new)
          (λ v.
          let earlier = M.each j (omega (arith, v, g, length-take k xs)) in
          subst (MarkedIn others) (among k j v ∙ sym (among (k + 1) j (omega (arith, v)))) (λ t. keeps (mark_of (name_of s (nth_rule (take k xs) j))) (earlier t)))
          (le_or_lt k j);
    }

    pub marked_passed : (t : Bool) → t ≡ eqb x.named 1 → t ≡ false → Marked s (take (k + 1) xs) marks
    marked_passed t is f = marked_next marks M.long (λ i u. u) (λ named. absurd (eqb-false x.named 1 (sym is ∙ f) named))

    module _ (r z : ℕ) (end : z ≡ x.name_from + x.name_length) (q : Mark (part s x.name_from z) r) where
      at_mark : get_or (set marks r true) r false ≡ true
      at_mark = get_or-set_same marks r true false (omega (arith, q.small, M.long))

      keeps_marks : (i : ℕ) → get_or marks i false ≡ true → get_or (set marks r true) i false ≡ true
      keeps_marks i u = by (eqb i r) refl
        where
          by : (t : Bool) → eqb i r ≡ t → get_or (set marks r true) i false ≡ true
          by true t = ap (λ (j : ℕ). get_or (set marks r true) j false) (eqb-true i r t) ∙ at_mark
          by false t = get_or-set_other marks r i true false (eqb-false i r t) ∙ u

      pub marked-set : Marked s (take (k + 1) xs) (set marks r true)
      unfolding name_of
      marked-set =
          marked_next (set marks r true) (length-set marks r true ∙ M.long) keeps_marks
          (λ t. ap (λ (j : ℕ). get_or (set marks r true) j false) (sym (q.is ∙ ap (λ (e : ℕ). mark_of (part s x.name_from e)) end)) ∙ at_mark)

pub ruleset marking_rules = (rules, marked_all, marked_passed, marked-set)
