-- What a parse is asked (01, Numbers given at the counter, and Declarations).
use Rattle.std.specs.Prelude.{ℕ, Bool, false, List, ltb}
use Rattle.section.specs.declared.LexFile.{LexFile}
use Rattle.section.specs.declared.options.Options.{Options}
use Rattle.section.specs.Options.{options}

-- the bytes of the file, what the caller chooses, whether there is a flag that is not known, and the engine's verdicts on the rules (01, Characters)
pub record Request : Type 0 where
  pub source : List ℕ
  pub options : Options
  pub unknown_flags : Bool
  pub verdicts : List ℕ

-- what is asked with known flags that choose this
abbrev pub known_request : List ℕ → Options → List ℕ → Request
known_request s o verdicts = record { source = s; options = o; unknown_flags = false; verdicts = verdicts }

-- what these parameters ask: the flags are known up to 3
abbrev pub asked : List ℕ → ℕ → List ℕ → Request
asked source flags verdicts = record { source = source; options = options flags; unknown_flags = ltb 3 flags; verdicts = verdicts }

-- what is asked of a file that is lent
abbrev pub asked_by : LexFile → Request
asked_by x = known_request x.source.now x.options x.verdicts.now
