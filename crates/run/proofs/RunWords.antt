-- The words of the start call and of the step call tell their answers apart.
use mathlib.Core.Path.{◌≡◌, refl}
use mathlib.Core.Bool.{cond}
use lib.Dec.{eqb}
use Rattle.std.specs.Prelude.{Ok, Err}
use Rattle.answers.specs.Numbers.{accepted_number, unknown_caller_number, start_refused_number, text_mismatch_number}
use Rattle.answers.specs.Numbers.{broken_sheet_number, broken_run_number, row_mismatch_number}
use Rattle.answers.specs.Numbers.{done_number, stopped_number, unlinked_number, skip_number}
use Rattle.answers.specs.Words.{Fields, TellsApart}
use Rattle.answers.proofs.Words.{tells_by}
use Rattle.run.specs.declared.StartError.TheVariants as Start
use Rattle.run.specs.declared.StepError.TheVariants.{BrokenSheet, TextMismatch, BrokenRun, RowMismatch}
use Rattle.run.specs.declared.Step.TheVariants.{Done, Stopped, Unlinked, Skip, Token}
use Rattle.run.specs.Run.{StartAnswer, start_accepted, start_unknown_caller, start_refused, start_text_mismatch, start_fields}
use Rattle.run.specs.Run.{StepAnswer, view, view_fields, step_fields}

start_back : Fields → StartAnswer
start_back f =
    let n = f.number in
    cond (eqb n accepted_number) start_accepted
    (cond (eqb n unknown_caller_number) start_unknown_caller
    (cond (eqb n start_refused_number) start_refused start_text_mismatch))

start_again : (x : StartAnswer) → start_back (start_fields x) ≡ x
unfolding start_back start_fields
start_again (Ok _) = refl
start_again (Err Start.UnknownCaller) = refl
start_again (Err Start.StartRefused) = refl
start_again (Err Start.TextMismatch) = refl

pub start_tells : TellsApart start_fields
start_tells = tells_by start_fields start_back start_again

step_back : Fields → StepAnswer
step_back f =
    let n = f.number in
    cond (eqb n broken_sheet_number) (Err BrokenSheet)
    (cond (eqb n text_mismatch_number) (Err TextMismatch)
    (cond (eqb n broken_run_number) (Err BrokenRun)
    (cond (eqb n row_mismatch_number) (Err RowMismatch)
    (cond (eqb n done_number) (Ok Done)
    (cond (eqb n stopped_number) (Ok Stopped)
    (cond (eqb n unlinked_number) (Ok Unlinked)
    (cond (eqb n skip_number) (Ok Skip) (Ok (Token f.a f.b f.c)))))))))

step_again : (x : StepAnswer) → step_back (step_fields x) ≡ x
unfolding step_back view view_fields
step_again (Err BrokenSheet) = refl
step_again (Err TextMismatch) = refl
step_again (Err BrokenRun) = refl
step_again (Err RowMismatch) = refl
step_again (Ok Done) = refl
step_again (Ok Stopped) = refl
step_again (Ok Unlinked) = refl
step_again (Ok Skip) = refl
step_again (Ok (Token id start bytes)) = refl

pub step_tells : TellsApart step_fields
step_tells = tells_by step_fields step_back step_again
