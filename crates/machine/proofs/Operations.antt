-- A rule's operation on the bytes of a stack is the machine's on the list, and a winner's move on the run is its move of the machine. Linking
-- changes a rule's mark and id alone, so everything but the answer is as without it.
use mathlib.Core.Path.{◌≡◌, refl, sym, ap, ap₂, ◌∙◌}
use mathlib.Core.Bool.{Bool, true, false, cond}
use mathlib.Core.List.{List, [], ◌∷◌}
use mathlib.Core.Option.{Option, none, some}
use Prim.Native.Nat.{ℕ, suc, ◌+◌, ◌*◌, ◌-◌, ◌≤◌}
use native.Mathlib.Omega.{arith}
use borrow.Author.Tests.{ne_eqb}
use lib.Dec.{eqb}
use lib.ListN.{length, take, length-append}
use lib.Seq.{length-take-le}
use Rattle.area.specs.declared.State.{State}
use Rattle.area.specs.declared.Rule.{Rule}
use Rattle.area.specs.Records.{entry_width, nth_rule}
use Rattle.area.specs.Contents.{entry_format, relaid}
use Rattle.parse.specs.Parse.{Contents}
use Rattle.name_map.specs.Map.{Entry, id_of}
use Rattle.link.specs.Link.{is_named, with_id, with_found, link_rule, link_rules}
use Rattle.link.proofs.LinkLaws.{link_changes_ids}
use Rattle.link.proofs.Outcomes.{link_at}
use Rattle.winner.specs.Winner.{Lexer, in_list, live, length_in, weight}
use Rattle.std.specs.Prelude.{Ok}
use Rattle.run.specs.declared.Step.TheVariants.{Unlinked, Skip, Token}
use Rattle.run.specs.declared.Run.{Run}
use Rattle.run.specs.Run.{StepAnswer, Running, running, leaving, run_left, put_state, with_depth, advanced, popped, operated, move_by, won_by, lexer_of}
use Rattle.machine.specs.File.{keep, replace, push, pop, operation_by, name_from, file_rule}
use Rattle.machine.specs.Machine.{Given, Machine, or_initial, operate, Winner, winner, move, answered, token, wins}
use Rattle.machine.proofs.Laid.{left_as}
use Rattle.machine.specs.Demand.{run_as}
use Rattle.machine.proofs.Reading.{id_same}
use Rattle.machine.proofs.Stacks.{Begins, laid_again, laid_shorter, laid_push, laid_bottom}

-- ---- operations

-- the run r
module _ (r : Run) where
  -- with so many entries of a stack in use
  abbrev stacked : ℕ → List ℕ → Running
  stacked d s = running (with_depth r d) s

  -- what the bytes b become with the stack z
  abbrev stacked_as : List ℕ → List ℕ → Running
  stacked_as b z = stacked (length z) (relaid entry_format b z)

  kept : (st b : List ℕ) → Begins st b → stacked (length st) b ≡ stacked_as b st
  kept st b h = ap (stacked (length st)) (laid_again st b h)

  pop_as : (st b : List ℕ) → Begins st b → 1 ≤ length st → entry_width ≤ length b
      → popped (stacked (length st) b) ≡ stacked_as b (or_initial (take (length st - 1) st))
  unfolding popped
  pop_as [] b h l w = absurd (omega arith)
  pop_as (x ∷ []) b h l w = ap (stacked 1) (laid_bottom b 0 w)
  pop_as (x ∷ y ∷ ys) b h l w =
      let st : List ℕ = x ∷ y ∷ ys in
      let k : length st - 1 ≡ suc (length ys) = omega arith in
      rw (ne_eqb (length st) 1 (omega arith), k)
      (ap (λ (d : ℕ). stacked d b) (sym (length-take-le (suc (length ys)) st (omega arith)))
      ∙ kept (take (suc (length ys)) st) b (laid_shorter st b h (suc (length ys)) (omega arith)))

  operated_as : (x : Rule) (st b : List ℕ) → Begins st b → 1 ≤ length st → length st * entry_width + entry_width ≤ length b
      → operated (stacked (length st) b) x ≡ stacked_as b (operate (operation_by x.operation x.target) st)
  unfolding operated operate operation_by
  operated_as x st b h l w = go (eqb x.operation 1) (eqb x.operation 2) (eqb x.operation 3)
    where
      t : ℕ
      t = x.target

      go : (p q o : Bool)
          → cond p (stacked 1 (put_state b 0 t))
          (cond q (stacked (length st + 1) (put_state b (length st) t)) (cond o (popped (stacked (length st) b)) (stacked (length st) b)))
          ≡ stacked_as b (operate (cond p (replace t) (cond q (push t) (cond o pop keep))) st)
      go true q o = ap (stacked 1) (laid_bottom b t (omega arith))
      go false true o = ap₂ stacked (sym (length-append st (t ∷ []))) (laid_push st b h t w)
      go false false true = pop_as st b h l (omega arith)
      go false false false = kept st b h

-- ---- a rule that is linked

module _ (name : Rule → List ℕ) (es : List Entry) where
  linked_live : (states : List State) (lists : List ℕ) (state : ℕ) (x : Rule) → live states lists state (link_rule name es x) ≡ live states lists state x
  unfolding live in_list with_id
  linked_live states lists state x = ap (live states lists state) (link_changes_ids name es x)

  -- what a run reads of contents with linked rules
  abbrev pub linked_lexer : Contents → Lexer
  linked_lexer c = record { states = c.states; rules = link_rules name es c.rules; lists = c.lists }

  pub linked_weight : (c : Contents) (state : ℕ) (row : List ℕ) → weight (linked_lexer c) state row ≡ weight (lexer_of c) state row
  unfolding weight
  linked_weight c state row =
      let alive : Rule → Bool = live c.states c.lists state in
      let same : (k : ℕ) → alive (nth_rule (link_rules name es c.rules) k) ≡ alive (nth_rule c.rules k) =
      λ k. ap alive (link_at name es c.rules k) ∙ linked_live c.states c.lists state (nth_rule c.rules k) in
      λ i k. cond (same k i) (length_in row k) 0

-- ---- a call that does not move, and a winner

pub still_as : (g : Given) (m : Machine) (b : List ℕ) → Begins m.stack b → (a : StepAnswer) → run_left a (run_as g m) b ≡ left_as g b (answered a m)
still_as g m b h a = ap (run_left a (run_as g m)) (laid_again m.stack b h)

-- the bytes b begin with the stack, with room for one id more; c is what stands in the areas
module _ (g : Given) (m : Machine) (b : List ℕ) (begins : Begins m.stack b) (some_id : 1 ≤ length m.stack)
    (room : length m.stack * entry_width + entry_width ≤ length b) (name : Rule → List ℕ) (c : Contents) where
  move_as : (a : StepAnswer) (x : Rule) (bytes : ℕ) → leaving a (move_by (running (run_as g m) b) x bytes)
      ≡ left_as g b (answered a (move (winner (file_rule name c x) bytes) m))
  unfolding move_by move
  move_as a x bytes =
      ap (λ (z : Running). run_left a (advanced z.run bytes) z.stack) (operated_as (run_as g m) x m.stack b begins some_id room)

  -- the id of a named winner is the map's
  named_as : (x : Rule) (w : Winner) → cond (is_named x) (token (id_of g.map (name x)) w m) (answered (Ok Skip) (move w m))
      ≡ wins g (name_from name x) w m
  unfolding wins name_from
  named_as x w = go (is_named x)
    where
      go : (t : Bool) → cond t (token (id_of g.map (name x)) w m) (answered (Ok Skip) (move w m))
          ≡ wins g (cond t (some (name x)) none) w m
      go true = ap (λ (o : Option ℕ). token o w m) (id_same g.map (name x))
      go false = refl

  pub won_as : (x : Rule) (bytes : ℕ) → won_by (running (run_as g m) b) (link_rule name g.map x) bytes
      ≡ left_as g b (wins g (name_from name x) (winner (file_rule name c x) bytes) m)
  unfolding won_by link_rule with_found with_id token move_by operated
  won_as x bytes = go (is_named x) refl (id_of g.map (name x)) ∙ ap (left_as g b) (named_as x (winner (file_rule name c x) bytes))
    where
      go : (t : Bool) → is_named x ≡ t → (o : Option ℕ)
          → won_by (running (run_as g m) b) (cond t (with_found o x) x) bytes
          ≡ left_as g b (cond t (token o (winner (file_rule name c x) bytes) m) (answered (Ok Skip) (move (winner (file_rule name c x) bytes) m)))
      go true e (some i) = rw e (move_as (Ok (Token i m.position bytes)) x bytes)
      go true e none = rw e (still_as g m b begins (Ok Unlinked))
      go false e o = rw e (move_as (Ok Skip) x bytes)
