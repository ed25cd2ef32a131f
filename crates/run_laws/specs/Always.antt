-- What always holds of a run on a sheet that passes the check, linked or not (01, The run): one statement about an accepted start and any list of
-- step calls after it.
use Rattle.std.specs.Prelude.{ℕ, ◌≤◌, ◌<◌, ◌≡◌, true, cond, List, [], ◌∷◌, ltb, length, Err}
use Rattle.sheet_check.specs.SheetCheck.{SheetBytes, decoded, sheet_check}
use Rattle.run.specs.declared.StepError.TheVariants.{BrokenSheet, BrokenRun}
use Rattle.run.specs.Run.{kiosk, most_kiosk_bytes, Running, Input, start_accepted, StepAnswer, RunLeft, moves_of, current, good_run, start_call, stays, view}
use Rattle.run_laws.specs.Calls.{calls, EachCall, last_running, last_position}
use Rattle.run_laws.specs.Pieces.{Piece, piece_left, pieces, Adjoin, covered}

-- a run beside so many states, by a caller of that kind, for an entry of n bytes, over a stack of so many bytes
pub record SoundRun (states kind n bytes : ℕ) (x : Running) : Type 0 where
  -- its numbers fit, and every state id in use is declared; so the current state is
  pub good : good_run states x ≡ true
  pub declared : current x < states
  -- the kind, n and the number of the stack's bytes are those of the start
  pub same_kind : x.run.kind ≡ kind
  pub same_n : x.run.n ≡ n
  pub same_bytes : length x.stack ≡ bytes

-- a call from the run x that left o: its answer is neither 6 nor 9; if it stays it changes nothing, and otherwise its piece has at least one byte;
-- and the run is sound again
pub record SoundCall (states kind n bytes : ℕ) (x : Running) (o : RunLeft StepAnswer) : Type 0 where
  pub not_6 : o.answer ≡ Err BrokenSheet → ⊥
  pub not_9 : o.answer ≡ Err BrokenRun → ⊥
  pub unchanged : (number : ℕ) → view o.answer ≡ stays number → o.after ≡ x
  pub some_bytes : (y : Piece) → piece_left x.run.position o ≡ y ∷ [] → 0 < y.bytes
  pub after : SoundRun states kind n bytes o.after

-- of step calls on the sheet b that left os, after a start call by a caller of that kind for n bytes over the stack s that left x
pub record Always (b : SheetBytes) (kind n : ℕ) (s : List ℕ) (x : Running) (os : List (RunLeft StepAnswer)) : Type 0 where
  -- the run is sound at first, and after each call, whose answer is neither 6 nor 9
  pub first : SoundRun (length (decoded b).states) kind n (length s) x
  pub each : EachCall (SoundCall (length (decoded b).states) kind n (length s)) x os
  -- the tokens and skips cover the bytes up to the position, one behind the other
  pub cover : Adjoin 0 (pieces 0 os) (last_position x os)
  -- so each of these bytes is covered once, and no other
  pub once : (k : ℕ) → covered k (pieces 0 os) ≡ cond (ltb k (last_position x os)) 1 0
  -- the run has made as many moves as there are tokens and skips, and at most n (so it is after each call, for the list may end there)
  pub moves : moves_of (last_running x os).run ≡ length (pieces 0 os)
  pub few : length (pieces 0 os) ≤ n
  -- and of a kiosk's run at most 512 (02, 3/13)
  pub few_of_kiosk : kind ≡ kiosk → length (pieces 0 os) ≤ most_kiosk_bytes

-- of every sheet that passes the check, every accepted start and every list of inputs, whatever their texts
unfoldable pub AlwaysHolds : Type 0
AlwaysHolds = (b : SheetBytes) → sheet_check b ≡ true
    → (kind n : ℕ) (text : List ℕ) (x : Running) → (start_call kind n text x).answer ≡ start_accepted
    → (is : List Input) → Always b kind n x.stack (start_call kind n text x).after (calls b (start_call kind n text x).after is)
