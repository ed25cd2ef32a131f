-- The tokens and skips of calls that follow the machine are of whole characters: each starts at the position before its call, and ends at the one
-- after it, which are edges.
use mathlib.Core.Path.{◌≡◌, sym, ap, subst}
use mathlib.Core.List.{List, [], ◌∷◌, ◌++◌}
use Prim.Native.Nat.{ℕ, ◌+◌, ◌-◌}
use native.Mathlib.Omega.{arith}
use Rattle.std.specs.Prelude.{Ok, Err}
use Rattle.input_check.specs.InputCheck.{EdgeOf}
use Rattle.run.specs.declared.Run.{Run}
use Rattle.run.specs.declared.StepError.TheVariants.{BrokenSheet, TextMismatch, BrokenRun, RowMismatch}
use Rattle.run.specs.declared.Step.TheVariants.{Done, Stopped, Unlinked, Skip, Token}
use Rattle.run.specs.Run.{StepAnswer, Input, RunLeft, view}
use Rattle.run_laws.specs.Pieces.{Piece, piece_of, piece_left, pieces}
use Rattle.machine.specs.Machine.{Given, Machine, Winner, move, step}
use Rattle.machine.specs.Means.{Means}
use Rattle.machine.specs.Demand.{Follows, OfCharacters}

characters_append : (text : List ℕ) (xs ys : List Piece) → OfCharacters text xs → OfCharacters text ys → OfCharacters text (xs ++ ys)
unfolding OfCharacters
characters_append text [] ys h k = k
characters_append text (x ∷ xs) ys h k = (h.0, characters_append text xs ys h.1 k)

-- a move goes so many bytes on
move_goes : (w : Winner) (m next : Machine) → next ≡ move w m → next.position ≡ m.position + w.bytes
unfolding move
move_goes w m next q = ap (λ (x : Machine). x.position) q

module _ (g : Given) (m : Machine) (i : Input) where
  -- the piece of an answer
  piece_whole : (a : StepAnswer) (next : Machine) → Means g m i a next → EdgeOf g.text m.position → EdgeOf g.text next.position
      → OfCharacters g.text (piece_of m.position next.position (view a))
  unfolding OfCharacters view
  piece_whole (Err BrokenSheet) next h e f = tt
  piece_whole (Err TextMismatch) next h e f = tt
  piece_whole (Err BrokenRun) next h e f = tt
  piece_whole (Err RowMismatch) next h e f = tt
  piece_whole (Ok Done) next h e f = tt
  piece_whole (Ok Stopped) next h e f = tt
  piece_whole (Ok Unlinked) next h e f = tt
  piece_whole (Ok Skip) next (w, won, none, q) e f =
      let end : next.position ≡ m.position + (next.position - m.position) = omega (arith, move_goes w m next q) in
      ((e, subst (EdgeOf g.text) end f), tt)
  piece_whole (Ok (Token id start bytes)) next (w, won, name, named, entry, from, long, q) e f =
      let end : next.position ≡ start + bytes = omega (arith, move_goes w m next q, from, long) in
      ((subst (EdgeOf g.text) (sym from) e, subst (EdgeOf g.text) end f), tt)

module _ (g : Given) (s : List ℕ) where
  -- those of all calls, the first at the machine's position
  pub whole_characters : (is : List Input) (os : List (RunLeft StepAnswer)) (m : Machine) (held : List (List ℕ)) → Follows g s m held is os
      → EdgeOf g.text m.position → OfCharacters g.text (pieces m.position os)
  unfolding Follows OfCharacters pieces
  whole_characters [] [] m held f e = tt
  whole_characters [] (o ∷ os) m held f e = absurd f
  whole_characters (i ∷ is) [] m held f e = absurd f
  whole_characters (i ∷ is) (o ∷ os) m held f e =
      let next : Machine = (step g m i).machine in
      let c = f.0 in
      let at : next.position ≡ o.after.run.position = sym (ap (λ (r : Run). r.position) c.leaves.run) in
      let here : OfCharacters g.text (piece_of m.position next.position (view o.answer)) =
      subst (λ (a : StepAnswer). OfCharacters g.text (piece_of m.position next.position (view a))) (sym c.answer)
      (piece_whole g m i (step g m i).answer next c.means e c.leaves.edge) in
      characters_append g.text (piece_left m.position o) (pieces o.after.run.position os)
      (subst (λ (k : ℕ). OfCharacters g.text (piece_of m.position k (view o.answer))) at here)
      (subst (λ (k : ℕ). OfCharacters g.text (pieces k os)) at (whole_characters is os next (m.stack ∷ held) f.1 c.leaves.edge))
