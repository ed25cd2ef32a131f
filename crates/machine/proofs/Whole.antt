-- A whole list of calls, by induction on its inputs: each call is one step of the machine, whose answer means what it should, and which comes from an
-- edge of the text to an edge.
use mathlib.Core.Path.{◌≡◌, refl, ap, subst, subst⁻¹, ◌∙◌}
use mathlib.Core.Bool.{true}
use mathlib.Core.List.{List, [], ◌∷◌}
use Prim.Native.Nat.{ℕ, ◌<◌}
use lib.ListN.{length}
use Rattle.area.specs.declared.Rule.{Rule}
use Rattle.parse.specs.Parse.{Contents}
use Rattle.sheet_check.specs.SheetCheck.{SheetBytes, decoded, sheet_check}
use Rattle.name_map.specs.Map.{Entry}
use Rattle.winner.specs.Winner.{Lexer}
use Rattle.std.specs.Prelude.{Ok, Err}
use Rattle.input_check.specs.InputCheck.{good_text, EdgeOf, JudgesEdges}
use Rattle.run.specs.declared.StepError.TheVariants.{TextMismatch}
use Rattle.run.specs.declared.Step.TheVariants.{Unlinked}
use Rattle.run.specs.Run.{StepAnswer, Running, running, Input, RunLeft, step_run, lexer_of, step_call}
use Rattle.run_laws.specs.Calls.{calls, EachCall}
use Rattle.run_laws.specs.Always.{SoundCall}
use Rattle.machine.specs.File.{file_in}
use Rattle.machine.specs.Machine.{Given, Machine, step}
use Rattle.machine.specs.Means.{Means}
use Rattle.machine.specs.Demand.{AsMachine, MapHolds, Follows, AllOver, run_as}
use Rattle.machine.proofs.Laid.{stack_as, left_as}
use Rattle.machine.proofs.Keeping.{Runs, current_as, next_runs}
use Rattle.machine.proofs.Operations.{linked_lexer}
use Rattle.machine.proofs.Stepping.{step_as}
use Rattle.machine.proofs.Places.{Places, place_next}
use Rattle.machine.proofs.Meanings.{means, edge_next}
use Rattle.machine.proofs.Only.{Distinct, only}
use Rattle.machine.proofs.Reading.{Sound}

-- ---- one call

-- a sheet that passes the check, with the file's states, linked rules and lists
pub record Sheet (name : Rule → List ℕ) (c : Contents) (es : List Entry) (b : SheetBytes) : Type 0 where
  pub checks : sheet_check b ≡ true
  pub reads : lexer_of (decoded b) ≡ linked_lexer name es c

-- calls given the machine's text that are the machine's steps wherever its run is as it has it
pub record Calls (g : Given) (b : SheetBytes) : Type 0 where
  pub called : (size : ℕ) (m : Machine) (l : List ℕ) (i : Input) → Runs g size m l → i.text ≡ g.text
      → step_call b (running (run_as g m) l) i ≡ left_as g l (step g m i)

pub sheet_calls : (name : Rule → List ℕ) (c : Contents) (es : List Entry) (kind limit n : ℕ) (text : List ℕ) → good_text n text ≡ true → Sound c
    → (b : SheetBytes) → Sheet name c es b
    → Calls (record { file = file_in name c; map = es; kind = kind; limit = limit; n = n; text = text }) b
unfolding step_call
sheet_calls name c es kind limit n text formed sound b sheet =
    let g : Given = record { file = file_in name c; map = es; kind = kind; limit = limit; n = n; text = text } in
    record {
      called = λ size m l i h same.
          rw sheet.checks
          (ap (λ (x : Lexer). step_run x (running (run_as g m) l) i) sheet.reads ∙ step_as name c es kind limit n text formed sound size m l h i same);
    }

-- the run and the bytes are as the machine has them
pub as_machine : (g : Given) (m : Machine) (held : List (List ℕ)) (s l : List ℕ) → Runs g (length s) m l → Places (m.stack ∷ held) s l
    → EdgeOf g.text m.position → AsMachine g m held s (running (run_as g m) l)
as_machine g m held s l h places edge = record {
  run = refl;
  places = places;
  size = h.sound.same_bytes;
  declared = subst (λ (k : ℕ). k < length g.file.states) (current_as g (length s) m l h) h.sound.declared;
  edge = edge;
}

-- no answer of the machine is 12
text_answer : (g : Given) (m : Machine) (i : Input) (a : StepAnswer) (next : Machine) → Means g m i a next → a ≡ Err TextMismatch → ⊥
text_answer g m i a next h e = subst (λ (z : StepAnswer). Means g m i z next) e h

-- where the map holds the name of each named rule, a named winner is a token
linked_answer : (g : Given) (m : Machine) (i : Input) (a : StepAnswer) (next : Machine) → Means g m i a next
    → MapHolds g.file g.map → a ≡ Ok Unlinked → ⊥
linked_answer g m i a next h held e = go (subst (λ (z : StepAnswer). Means g m i z next) e h)
  where
    go : Means g m i (Ok Unlinked) next → ⊥
    go (w, won, name, named, none, q) =
        let r = held.holds won.place w.rule name won.rule named in
        none r.0 r.1

-- ---- all calls

-- each of them is sound
abbrev pub AllSound : Given → ℕ → Running → List (RunLeft StepAnswer) → Type 0
AllSound g size x os = EachCall (SoundCall (length g.file.states) g.kind g.n size) x os

-- over a stack whose bytes were s before the start call
module _ (g : Given) (judged : JudgesEdges g.text) (differ : Distinct g.map) (b : SheetBytes) (by-machine : Calls g b) (s : List ℕ) where
  -- from the machine m on, which held these stacks before
  pub follows : (is : List Input) → AllOver g.text is → (m : Machine) (held : List (List ℕ)) (l : List ℕ)
      → Runs g (length s) m l → Places (m.stack ∷ held) s l → EdgeOf g.text m.position
      → (let x : Running = running (run_as g m) l in AllSound g (length s) x (calls b x is) → Follows g s m held is (calls b x is))
  unfolding calls EachCall Follows AllOver
  follows [] over m held l h places edge sound = tt
  follows (i ∷ is) over m held l h places edge sound =
      let next : Machine = (step g m i).machine in
      let a : StepAnswer = (step g m i).answer in
      let meant = means g m i judged in
      let left = by-machine.called (length s) m l i h over.0 in
      let edge-after = edge_next g m i a next meant edge in
      let each = subst (λ (o : RunLeft StepAnswer). AllSound g (length s) (running (run_as g m) l) (o ∷ calls b o.after is)) left sound in
      let runs = next_runs g (length s) m l h next each.0.after in
      let stand = place_next (m.stack ∷ held) next.stack s l places in
      subst⁻¹ (λ (o : RunLeft StepAnswer). Follows g s m held (i ∷ is) (o ∷ calls b o.after is)) left (
        record {
          answer = refl;
          means = meant;
          only = λ x y q. only g m i differ x y a next q meant;
          allowed = record {
            not_6 = each.0.not_6;
            not_9 = each.0.not_9;
            not_12 = text_answer g m i a next meant;
            not_unlinked = linked_answer g m i a next meant;
          };
          leaves = as_machine g next (m.stack ∷ held) s (stack_as l next) runs stand edge-after;
        },
        follows is over.1 next (m.stack ∷ held) (stack_as l next) runs stand edge-after each.1,
      )
