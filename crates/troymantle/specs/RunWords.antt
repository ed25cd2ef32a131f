-- What the start call and the step call leave, with the answer as a word (01, Numbers given at the counter, and The run).
use Rattle.std.specs.Prelude.{ℕ}
use Rattle.run.specs.Run.{StartAnswer, StepAnswer, RunLeft, leaving, start_word, step_word}

abbrev pub start_in_words : RunLeft StartAnswer → RunLeft ℕ
start_in_words x = leaving (start_word x.answer) x.after

abbrev pub step_in_words : RunLeft StepAnswer → RunLeft ℕ
step_in_words x = leaving (step_word x.answer) x.after
