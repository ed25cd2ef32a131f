-- The values of a call's parameters are a tuple. Here they are taken, replaced and left out by a parameter's place, which is computed, so that no
-- proof counts components by hand.
use Prim.Native.Nat.{ℕ, zero, suc}
use mathlib.Core.List.{List, [], ◌∷◌}
use mir.Syntax.{Ty}
use mir.Val.{Val}
use denote.RattleType.{RattleType, Denots, Valss}
use denote.Laws.{Typed}

-- ---- lists of numbers

-- i and so many numbers from it on
abbrev pub numbers_from : ℕ → ℕ → List ℕ
numbers_from zero i = []
numbers_from (suc n) i = i ∷ numbers_from n (suc i)

-- a list with another number at place k
abbrev pub replaced-at : ℕ → ℕ → List ℕ → List ℕ
replaced-at k x [] = []
replaced-at zero x (i ∷ js) = x ∷ js
replaced-at (suc k) x (i ∷ js) = i ∷ replaced-at k x js

-- ---- the parameters' values

-- the one at place k
abbrev pub ArgAt : List RattleType → ℕ → Type 0
ArgAt [] k = Unit {0}
ArgAt (R ∷ Rs) zero = R.Denot
ArgAt (R ∷ Rs) (suc k) = ArgAt Rs k

abbrev pub arg_at : (Rs : List RattleType) (k : ℕ) → Denots Rs → ArgAt Rs k
arg_at [] k a = tt
arg_at (R ∷ Rs) zero a = a.0
arg_at (R ∷ Rs) (suc k) a = arg_at Rs k a.1

-- all, and their machine values, with one of another type at place k
abbrev pub types_with : ℕ → RattleType → List RattleType → List RattleType
types_with k S [] = []
types_with zero S (R ∷ Rs) = S ∷ Rs
types_with (suc k) S (R ∷ Rs) = R ∷ types_with k S Rs

abbrev pub args_with : (k : ℕ) (S : RattleType) (Rs : List RattleType) → S.Denot → Denots Rs → Denots (types_with k S Rs)
args_with k S [] x a = tt
args_with zero S (R ∷ Rs) x a = (x, a.1)
args_with (suc k) S (R ∷ Rs) x a = (a.0, args_with k S Rs x a.1)

abbrev pub vals_with : (k : ℕ) (S : RattleType) (Rs : List RattleType) → List Val → Valss Rs → Valss (types_with k S Rs)
vals_with k S [] vs vss = tt
vals_with zero S (R ∷ Rs) vs vss = (vs, vss.1)
vals_with (suc k) S (R ∷ Rs) vs vss = (vss.0, vals_with k S Rs vs vss.1)

-- ---- what is said of the parameters' last values

-- nothing of the first n, and then x
abbrev pub Behind : ℕ → Type 0 → Type 0
Behind zero X = X
Behind (suc n) X = Unit {0} × Behind n X

abbrev pub behind : (n : ℕ) {X : Type 0} → X → Behind n X
behind zero x = x
behind (suc n) x = (tt, behind n x)

abbrev pub from_behind : (n : ℕ) {X : Type 0} → Behind n X → X
from_behind zero x = x
from_behind (suc n) x = from_behind n x.1

-- ---- the types of machine values

-- a list from place k on
abbrev pub from_place : {A : Type 0} → ℕ → List A → List A
from_place zero xs = xs
from_place (suc k) [] = []
from_place (suc k) (x ∷ xs) = from_place k xs

-- values of their types are so from place k on
pub typed_from : (k : ℕ) (τs : List Ty) (vs : List Val) → Typed τs vs → Typed (from_place k τs) (from_place k vs)
typed_from zero τs vs t = t
typed_from (suc k) [] [] t = t
typed_from (suc k) [] (v ∷ vs) t = absurd t
typed_from (suc k) (τ ∷ τs) [] t = absurd t
typed_from (suc k) (τ ∷ τs) (v ∷ vs) t = typed_from k τs vs t.1
