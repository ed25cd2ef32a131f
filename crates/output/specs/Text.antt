-- Text at the front of a buffer that is lent, and what it is to append to it.
use Rattle.std.specs.Prelude.{◌≡◌, ℕ, List, length, take}
use Rattle.std.specs.Borrow.{MutBor}
use Rattle.area.specs.Phrases.{SameArea}
use Rattle.output.specs.declared.Text.{Text}
use Rattle.output.specs.Output.{appended}

-- the text
abbrev pub text_in : Text → List ℕ
text_in a = take a.count a.bytes.now

-- how many bytes it has room for
abbrev pub room_in : Text → ℕ
room_in a = length a.bytes.now

-- a is the text t in the buffer that was lent
pub record Holds (lent : MutBor (List ℕ)) (a : Text) (t : List ℕ) : Type 0 where
  pub area : SameArea lent a.bytes
  pub is : text_in a ≡ t

-- b is the text a with v behind it, as much of v as there is room for, in the same buffer
pub record Appends (a b : Text) (v : List ℕ) : Type 0 where
  pub area : SameArea a.bytes b.bytes
  pub is : text_in b ≡ appended (room_in a) (text_in a) v
