-- The scan's winner is the machine's: the greatest weight is the winner's length, and the first rule that has it is the winner's.
use mathlib.Core.Path.{◌≡◌, refl, sym, ap, ◌∙◌}
use mathlib.Core.Bool.{Bool, true, false, cond}
use mathlib.Core.List.{List, [], map}
use mathlib.Core.Logic.{⊎_elim}
use mathlib.Core.Option.{some}
use Prim.Native.Nat.{ℕ, ◌*◌, ◌≤◌, ◌<◌}
use native.Mathlib.Omega.{arith}
use lib.ListN.{length, get_or, get_elem?, length-map}
use Rattle.area.specs.declared.Rule.{Rule}
use Rattle.characters.proofs.Tests.{le_or_lt}
use Rattle.area.specs.Records.{nth_rule}
use Rattle.parse.specs.Parse.{Contents}
use Rattle.winner.specs.Winner.{live, length_in, weight, greatest, earliest}
use Rattle.winner.proofs.Winning.{below_greatest, greatest_low, earliest_has, earliest_first}
use Rattle.run.specs.Run.{lexer_of}
use Rattle.run_laws.proofs.Stacks.{entry_bytes_lem}
use Rattle.machine.specs.File.{FileRule, file_state, file_rule}
use Rattle.machine.specs.Machine.{Machine, current_state, lengths, is_live, Winner}
use Rattle.machine.proofs.Options.{some_is, place_inside}
use Rattle.machine.proofs.Meanings.{lengths-at, Found}
use Rattle.machine.proofs.Reading.{Sound, live_same, map_at}

module _ (name : Rule → List ℕ) (c : Contents) (sound : Sound c) (m : Machine) (row : List ℕ) (size : length row ≡ length c.rules * 2) where
  abbrev pub f : ℕ → ℕ
  f = weight (lexer_of c) (current_state m.stack) row

  abbrev pub rules : List FileRule
  rules = map (file_rule name c) c.rules

  abbrev pub alive : FileRule → Bool
  alive = is_live (map file_state c.states) (current_state m.stack)

  rule-at : (k : ℕ) → k < length c.rules → get_elem? rules k ≡ some (file_rule name c (nth_rule c.rules k))
  rule-at k h = map_at (file_rule name c) c.rules k (nth_rule [] 0) h

  live_at : (k : ℕ) → k < length c.rules
      → alive (file_rule name c (nth_rule c.rules k)) ≡ live c.states c.lists (current_state m.stack) (nth_rule c.rules k)
  live_at k h = live_same c sound name (current_state m.stack) (nth_rule c.rules k) (sound.lists k h)

  length_at : (k : ℕ) → k < length c.rules → get_or (lengths row) k 0 ≡ length_in row k
  length_at k h = lengths-at row k (omega (arith, size, h)) ∙ sym (entry_bytes_lem row k)

  -- a bound of the live rules' lengths is one of the weights
  pub weights_under : (q : ℕ) → ((k : ℕ) (x : FileRule) → get_elem? rules k ≡ some x → alive x ≡ true → get_or (lengths row) k 0 ≤ q)
      → (k : ℕ) → k < length c.rules → f k ≤ q
  unfolding weight
  weights_under q low k h = go (live c.states c.lists (current_state m.stack) (nth_rule c.rules k)) refl
    where
      go : (t : Bool) → live c.states c.lists (current_state m.stack) (nth_rule c.rules k) ≡ t → cond t (length_in row k) 0 ≤ q
      go true e = omega (arith, length_at k h, low k (file_rule name c (nth_rule c.rules k)) (rule-at k h) (live_at k h ∙ e))
      go false e = omega arith

  module _ (w : Winner) (p : Found alive rules (lengths row) w) where
    inside : p.place < length c.rules
    inside = omega (arith, place_inside rules p.place w.rule p.rule, length-map c.rules (file_rule name c))

    pub is_rule : w.rule ≡ file_rule name c (nth_rule c.rules p.place)
    is_rule = some_is w.rule (file_rule name c (nth_rule c.rules p.place)) (sym p.rule ∙ rule-at p.place inside)

    is_live_lem : live c.states c.lists (current_state m.stack) (nth_rule c.rules p.place) ≡ true
    is_live_lem = sym (live_at p.place inside) ∙ ap alive (sym is_rule) ∙ p.is_live

    weighs : f p.place ≡ w.bytes
    unfolding weight
    weighs = rw is_live_lem (sym (length_at p.place inside) ∙ p.has)

    pub top : greatest f (length c.rules) ≡ w.bytes
    top =
        let n : ℕ = length c.rules in
        omega (arith, weighs, below_greatest f n p.place inside, greatest_low f w.bytes n (weights_under w.bytes p.greatest))

    -- an earlier rule weighs less
    lighter : 0 < w.bytes → (k : ℕ) → k < p.place → f k < w.bytes
    unfolding weight
    lighter h k l = go (live c.states c.lists (current_state m.stack) (nth_rule c.rules k)) refl
      where
        go : (t : Bool) → live c.states c.lists (current_state m.stack) (nth_rule c.rules k) ≡ t → cond t (length_in row k) 0 < w.bytes
        go true e =
            let i : k < length c.rules = omega (arith, inside, l) in
            omega (arith, length_at k i, p.earliest k (file_rule name c (nth_rule c.rules k)) l (rule-at k i) (live_at k i ∙ e))
        go false e = h

    pub place_same : 0 < w.bytes → earliest f (length c.rules) ≡ p.place
    place_same h =
        let n : ℕ = length c.rules in
        let e : ℕ = earliest f n in
        let not_earlier : (p.place < e → ⊥) = λ q. omega (arith, earliest_first f n p.place q inside, weighs, top) in
        let not-later : (e < p.place → ⊥) = λ q. omega (arith, lighter h e q, earliest_has f n (omega (arith, inside)), top) in
        ⊎_elim (λ l. ⊎_elim (λ q. omega arith) (λ q. absurd (not_earlier q)) (le_or_lt e p.place)) (λ l. absurd (not-later l)) (le_or_lt p.place e)
