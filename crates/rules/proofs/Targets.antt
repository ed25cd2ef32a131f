-- The target of a rule: a law over all of its outcomes, by which a target ends behind the blank and not past the line.
use mathlib.Core.Path.{◌≡◌, subst, sym, ◌∙◌}
use mathlib.Core.Bool.{cond, not}
use mathlib.Core.List.{List}
use Prim.Native.Nat.{ℕ, ◌+◌, ◌≤◌, ◌<◌}
use native.Mathlib.Omega.{arith}
use borrow.Author.Tests.{leb-false}
use lib.Dec.{eqb, leb}
use lib.ListN.{length}
use Rattle.std.proofs.lemmas.Bool.{cond_both}
use Rattle.std.specs.Prelude.{Some, None, Result, Ok, Err}
use Rattle.characters.specs.Whitespace.{byte}
use Rattle.characters.proofs.Walks.{first_from}
use Rattle.area.specs.declared.State.{State}
use Rattle.fault.specs.declared.kinds.LexErrorKind.TheVariants.{UnknownStartState, InvalidStartState}
use Rattle.fault.specs.declared.kinds.LexError.{LexError}
use Rattle.rules.specs.declared.Target.{Target}
use Rattle.rules.specs.Heading.{faulty, has_target, target_end, target_operation, target_name, target_id, target, target_of}

-- a marker that opens what a target goes by
unfoldable pub targets : Unit {0}
unfolding target_of has_target target_end target_id target_name target_operation
targets = tt

module _ (s : List ℕ) (r t : ℕ) (xs : List State) where
  -- what holds of each outcome holds of the target
  pub target_cases : (P : Result Target LexError → Type 0) → P (Ok (target None (r + 1))) → P (faulty InvalidStartState r)
      → P (faulty UnknownStartState (r + 1))
      → (target_end s r t < t → target_id s r t xs < length xs
      → P (Ok (target (Some (record { id = target_id s r t xs; operation = target_operation s r })) (target_end s r t + 1))))
      → P (target_of s r t xs)
  unfolding target_of
  target_cases P none unclosed unknown known =
      let found : Result Target LexError = Ok (target (Some (record { id = target_id s r t xs; operation = target_operation s r })) (target_end s r t + 1)) in
      let closed : Result Target LexError = cond (leb (length xs) (target_id s r t xs)) (faulty UnknownStartState (r + 1)) found in
      cond_both (not (has_target s r)) (Ok (target None (r + 1))) (cond (leb t (target_end s r t)) (faulty InvalidStartState r) closed) P (λ _. none)
      (λ _. cond_both (leb t (target_end s r t)) (faulty InvalidStartState r) closed P (λ _. unclosed)
      (λ c. cond_both (leb (length xs) (target_id s r t xs)) (faulty UnknownStartState (r + 1)) found P (λ _. unknown)
      (λ d. known (leb-false t (target_end s r t) c) (leb-false (length xs) (target_id s r t xs) d))))

-- the place behind a target is behind r, and at most t
abbrev Placed : ℕ → ℕ → Result Target LexError → Type 0
Placed r t (Ok x) = (r < x.end) × (x.end ≤ t)
Placed r t (Err error) = Unit {0}

module _ (s : List ℕ) (r t : ℕ) (xs : List State) (h : r < t) where
  placed : Placed r t (target_of s r t xs)
  unfolding target_end
  placed =
      let b = first_from (λ k. eqb (byte s k) 0x3e) (r + 1) t in
      target_cases s r t xs (Placed r t) (omega arith, omega arith) tt tt (λ c _. (omega (arith, b), omega (arith, c)))

  module _ (k : Result Target LexError) (is : k ≡ target_of s r t xs) (x : Target) (q : k ≡ Ok x) where
    pub target_from : r < x.end
    target_from = (subst (Placed r t) (sym is ∙ q) placed).0

    pub target_to : x.end ≤ t
    target_to = (subst (Placed r t) (sym is ∙ q) placed).1
