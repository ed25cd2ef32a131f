-- What always holds of a run: what holds of one call adds up over a list of calls, by induction on its inputs.
use mathlib.Core.Path.{◌≡◌, refl, subst⁻¹, ◌∙◌}
use mathlib.Core.Bool.{true}
use mathlib.Core.List.{List, [], ◌∷◌}
use Prim.Native.Nat.{ℕ, ◌+◌}
use native.Mathlib.Omega.{arith}
use lib.ListN.{length, length-append}
use Rattle.sheet_check.specs.SheetCheck.{SheetBytes, decoded, sheet_check}
use Rattle.sheet_check.proofs.Checked.{states_count, checked_counts}
use Rattle.run.specs.Run.{StartAnswer, start_accepted, StepAnswer, Running, running, Input, RunLeft, moves_of, put_state, first_run, start_call, step_call}
use Rattle.run.proofs.Fitting.{run_is, current_declared}
use Rattle.run_laws.specs.Calls.{calls, last_running, last_position}
use Rattle.run_laws.specs.Pieces.{Piece, piece_left, pieces, Adjoin}
use Rattle.run_laws.specs.Always.{SoundRun, SoundCall, Always, AlwaysHolds}
use Rattle.run_laws.proofs.Calls.{calls_each, calls_last}
use Rattle.run_laws.proofs.Covering.{adjoin_append, covered_once}
use Rattle.run_laws.proofs.Stacks.{put_length}
use Rattle.run_laws.proofs.OneCall.{called}
use Rattle.run_laws.proofs.Started.{start_kiosk, start_left, first_good}

-- what the pieces of calls from the run x on, which left os, add up to
record Sums (x : Running) (os : List (RunLeft StepAnswer)) : Type 0 where
  cover : Adjoin x.run.position (pieces x.run.position os) (last_position x os)
  moves : moves_of (last_running x os).run ≡ moves_of x.run + length (pieces x.run.position os)

module _ (b : SheetBytes) (passed : sheet_check b ≡ true) where
  abbrev states : ℕ
  states = length (decoded b).states

  module _ (kind n bytes : ℕ) where
    abbrev sound : Running → Type 0
    sound = SoundRun states kind n bytes

    -- one call
    pub call_sound : (x : Running) (i : Input) → sound x → SoundCall states kind n bytes x (step_call b x i)
    call_sound x i h =
        let c = called b passed x h.good i in
        record {
          not_6 = c.not_6;
          not_9 = c.not_9;
          unchanged = c.unchanged;
          some_bytes = c.some_bytes;
          after = record {
            good = c.good;
            declared = current_declared states (step_call b x i).after.run (step_call b x i).after.stack c.good;
            same_kind = c.same_kind ∙ h.same_kind;
            same_n = c.same_n ∙ h.same_n;
            same_bytes = c.same_bytes ∙ h.same_bytes;
          };
        }

    pub run_kept : (x : Running) (i : Input) → sound x → sound (step_call b x i).after
    run_kept x i h = (call_sound x i h).after

    sums : (is : List Input) (x : Running) → sound x → Sums x (calls b x is)
    unfolding calls last_running pieces Adjoin
    sums [] x h = record { cover = refl; moves = omega arith }
    sums (i ∷ is) x h =
        let c = called b passed x h.good i in
        let next : Running = (step_call b x i).after in
        let here : List Piece = piece_left x.run.position (step_call b x i) in
        let behind : List Piece = pieces next.run.position (calls b next is) in
        let s = sums is next (run_kept x i h) in
        record {
          cover = adjoin_append here behind x.run.position next.run.position _ c.adjoins s.cover;
          moves = omega (arith, c.moves, s.moves, length-append here behind);
        }

  first_sound : (kind n : ℕ) (text : List ℕ) (x : Running) → (start_call kind n text x).answer ≡ start_accepted
      → SoundRun states kind n (length x.stack) (running (first_run kind n) (put_state x.stack 0 0))
  first_sound kind n text x ok =
      let good = first_good kind n text x ok states (omega (arith, states_count b, (checked_counts b passed).0)) in
      record {
        good = good;
        declared = current_declared states (first_run kind n) (put_state x.stack 0 0) good;
        same_kind = refl;
        same_n = refl;
        same_bytes = put_length x.stack 0 0;
      }

pub always : AlwaysHolds
unfolding AlwaysHolds
always b passed kind n text x ok is =
    let first : Running = running (first_run kind n) (put_state x.stack 0 0) in
    let os : List (RunLeft StepAnswer) = calls b first is in
    let states : ℕ = length (decoded b).states in
    let bytes : ℕ = length x.stack in
    let sound : Running → Type 0 = SoundRun states kind n bytes in
    let h = first_sound b passed kind n text x ok in
    let s = sums b passed kind n bytes is first h in
    let keeps = run_kept b passed kind n bytes in
    let end : sound (last_running first os) = calls_last b sound keeps is first h in
    let g = run_is states (last_running first os).run (last_running first os).stack end.good in
    subst⁻¹ (λ (f : RunLeft StartAnswer). Always b kind n x.stack f.after (calls b f.after is)) (start_left kind n text x ok)
    (record {
      first = h;
      each = calls_each b sound keeps (SoundCall states kind n bytes) (call_sound b passed kind n bytes) is first h;
      cover = s.cover;
      once = covered_once (pieces 0 os) (last_position first os) s.cover;
      moves = omega (arith, s.moves);
      few = omega (arith, s.moves, g.few_moves, g.inside, end.same_n);
      few_of_kiosk = λ is. omega (arith, s.moves, g.few_moves, g.inside, end.same_n, start_kiosk kind n text x ok is);
    })
