-- What a test that is made of tests says, and what a callee's answer says of its definition. Each law goes by cases on the tests.
use mathlib.Core.Path.{◌≡◌, refl, sym, ap, ◌∙◌}
use mathlib.Core.Bool.{Bool, true, false, ◌||◌, not, and-false}
use mathlib.Core.Logic.{◌⊎◌, inl, inr, ⊎_elim}
use Prim.Native.Nat.{ℕ, ◌≤◌, ◌<◌}
use borrow.Author.Tests.{le-leb, lt-leb, leb-true}
use lib.Dec.{leb}
use Rattle.std.proofs.lemmas.Bool.{cases_lt, and_parts}
use Rattle.characters.specs.Class.{within}

pub or_cases : {A : Type 0} (p q : Bool) → p || q ≡ true → (p ≡ true → A) → (q ≡ true → A) → A
or_cases true q e f g = f refl
or_cases false q e f g = g e

-- either of two numbers is the smaller: the library's law has the cases the other way round
pub le_or_lt : (a b : ℕ) → (a ≤ b) ⊎ (b < a)
le_or_lt a b = ⊎_elim inr inl (cases_lt b a)

-- the test of a range, and what it says
pub in_range : (lo hi b : ℕ) → lo ≤ b → b ≤ hi → within lo hi b ≡ true
in_range lo hi b l h = simp (le-leb lo b l, le-leb b hi h)

pub above_range : (lo hi b : ℕ) → hi < b → within lo hi b ≡ false
above_range lo hi b h = simp (lt-leb b hi h) (and-false (leb lo b))

pub range_of : (lo hi b : ℕ) → within lo hi b ≡ true → (lo ≤ b) × (b ≤ hi)
range_of lo hi b e =
    (leb-true lo b (and_parts (leb lo b) (leb b hi) e).0, leb-true b hi (and_parts (leb lo b) (leb b hi) e).1)

-- what a callee answered is what its definition says
pub answer : (r b x : Bool) → r ≡ b → r ≡ x → b ≡ x
answer r b x e f = sym e ∙ f

-- the same of a test that the definition negates, where the code does too and where it does not
pub answer_not : (r b x : Bool) → r ≡ b → not r ≡ x → not b ≡ x
answer_not r b x e f = ap not (sym e) ∙ f

pub answer_yes : (r b : Bool) → r ≡ b → r ≡ true → not b ≡ false
answer_yes r b e f = ap not (sym e ∙ f)

pub answer_no : (r b : Bool) → r ≡ b → r ≡ false → not b ≡ true
answer_no r b e f = ap not (sym e ∙ f)
