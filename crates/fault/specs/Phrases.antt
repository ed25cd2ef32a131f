-- Short words for contracts: a step over what one area holds.
use Rattle.std.specs.Prelude.{ℕ, List, Result, length}
use Rattle.area.specs.Contents.{Format, contents, Held}
use Rattle.area.specs.Phrases.{Lent, Bytes, before, after}
use Rattle.fault.specs.declared.Stop.{Stop}
use Rattle.fault.specs.Step.{Out, Does, outcome}

-- the step f, over an area of so many bytes, does to its records, of which there are `count`, what r and the count afterwards tell
abbrev pub DoesRecords : {A : Type 0} → Format A → (ℕ → List A → Out (List A)) → Bytes → Lent ℕ → Result ℕ Stop → Type 0
DoesRecords F f area count r =
    Does (Held F (after area)) (f (length (before area))) (contents F (before area) (before count)) (contents F (after area)) (outcome r (after count))
