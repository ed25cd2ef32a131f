-- What the tokens and skips of a list of calls cover of the entry (01, The run).
use Rattle.std.specs.Prelude.{ℕ, ◌+◌, ◌-◌, ◌≡◌, cond, ◌&&◌, List, [], ◌∷◌, ◌++◌, leb, ltb}
use Rattle.run.specs.Run.{StepAnswer, RunLeft, View, stays, skip, token, view}

-- so many bytes from a place on
pub record Piece : Type 0 where
  pub start : ℕ
  pub bytes : ℕ

abbrev pub piece : ℕ → ℕ → Piece
piece start bytes = record { start = start; bytes = bytes }

-- the piece of a token, or of a skip from the position p to the position q; an answer that stays has none
abbrev pub piece_of : ℕ → ℕ → View → List Piece
piece_of p q (stays number) = []
piece_of p q skip = piece p (q - p) ∷ []
piece_of p q (token id start bytes) = piece start bytes ∷ []

-- the piece of a call from the position p on that left o
abbrev pub piece_left : ℕ → RunLeft StepAnswer → List Piece
piece_left p o = piece_of p o.after.run.position (view o.answer)

-- the pieces of the tokens and skips that calls answered, in order, the first call at the position p
unfoldable pub pieces : ℕ → List (RunLeft StepAnswer) → List Piece
pieces p [] = []
pieces p (o ∷ os) = piece_left p o ++ pieces o.after.run.position os

-- each piece starts where the one before it ended, the first at p, and the last ends at e
unfoldable pub Adjoin : ℕ → List Piece → ℕ → Type 0
Adjoin p [] e = p ≡ e
Adjoin p (x ∷ xs) e = (x.start ≡ p) × Adjoin (p + x.bytes) xs e

-- 1 if x is one of so many bytes from start on, else 0
unfoldable pub among : ℕ → ℕ → ℕ → ℕ
among x start bytes = cond (leb start x && ltb x (start + bytes)) 1 0

-- how many of the pieces have the byte x
unfoldable pub covered : ℕ → List Piece → ℕ
covered x [] = 0
covered x (y ∷ ys) = among x y.start y.bytes + covered x ys
