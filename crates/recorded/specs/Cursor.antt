-- What a cursor over the recorded answers reads, and where it then stands.
use Rattle.std.specs.Prelude.{ℕ, ◌≤◌, ◌≡◌, List}
use Rattle.recorded.specs.Records.{skip_to}
use Rattle.recorded.specs.declared.reader.Cursor.{Cursor}

-- the place n bytes on, of a place
abbrev pub behind : ℕ → List ℕ → ℕ → ℕ
behind n l at = skip_to l at n

-- a cursor goes on to the place that is found from where it stands
pub record GoesTo (place : List ℕ → ℕ → ℕ) (old new : Cursor) : Type 0 where
  pub at_is : new.at ≡ place old.answers.now old.at
  pub same : new.answers.now ≡ old.answers.now
  pub on : old.at ≤ new.at

-- what is read is what stands there, and the cursor goes on
pub record Reads {A : Type 0} (value : List ℕ → ℕ → A) (place : List ℕ → ℕ → ℕ) (old new : Cursor) (r : A) : Type 0 where
  pub is : r ≡ value old.answers.now old.at
  pub goes : GoesTo place old new
