-- Pieces that adjoin, and others behind them, adjoin; and they cover each byte between their two ends once, and no other.
use mathlib.Core.Path.{◌≡◌, refl, sym, ap, ap₂, subst⁻¹, ◌∙◌}
use mathlib.Core.Bool.{cond, and-false}
use mathlib.Core.List.{List, [], ◌∷◌, ◌++◌}
use mathlib.Core.Logic.{⊎_elim}
use Prim.Native.Nat.{ℕ, ◌+◌, ◌-◌, ◌≤◌}
use native.Mathlib.Omega.{arith}
use borrow.Author.Tests.{le-leb, lt-leb, lt-ltb, le-ltb}
use lib.Dec.{leb, ltb}
use Rattle.characters.proofs.Tests.{le_or_lt}
use Rattle.run_laws.specs.Pieces.{Piece, Adjoin, among, covered}

pub adjoin_append : (xs ys : List Piece) (p q e : ℕ) → Adjoin p xs q → Adjoin q ys e → Adjoin p (xs ++ ys) e
unfolding Adjoin
adjoin_append [] ys p q e h k = subst⁻¹ (λ (j : ℕ). Adjoin j ys e) h k
adjoin_append (x ∷ xs) ys p q e h k = (h.0, adjoin_append xs ys (p + x.bytes) q e h.1 k)

among_none : (x p : ℕ) → among x p 0 ≡ 0
unfolding among
among_none x p = ⊎_elim (λ h. rw (le-ltb x (p + 0) (omega arith), and-false (leb p x)) refl) (λ h. rw (lt-leb p x h) refl) (le_or_lt p x)

among_join : (x p k l : ℕ) → among x p k + among x (p + k) l ≡ among x p (k + l)
unfolding among
among_join x p k l =
    ⊎_elim (λ a. ⊎_elim
    (λ c. ⊎_elim
    (λ d. rw (le-leb p x a, le-ltb x (p + k) c, le-leb (p + k) x c, le-ltb x (p + k + l) d, le-ltb x (p + (k + l)) (omega arith)) refl)
    (λ d. rw (le-leb p x a, le-ltb x (p + k) c, le-leb (p + k) x c, lt-ltb x (p + k + l) d, lt-ltb x (p + (k + l)) (omega arith)) refl)
    (le_or_lt (p + k + l) x))
    (λ c. rw (le-leb p x a, lt-ltb x (p + k) c, lt-leb (p + k) x c, lt-ltb x (p + (k + l)) (omega arith)) refl)
    (le_or_lt (p + k) x))
    (λ a. rw (lt-leb p x a, lt-leb (p + k) x (omega arith)) refl)
    (le_or_lt p x)

adjoin_on : (xs : List Piece) (p e : ℕ) → Adjoin p xs e → p ≤ e
unfolding Adjoin
adjoin_on [] p e h = omega (arith, h)
adjoin_on (y ∷ ys) p e h = omega (arith, adjoin_on ys (p + y.bytes) e h.1)

adjoin_among : (x : ℕ) (xs : List Piece) (p e : ℕ) → Adjoin p xs e → covered x xs ≡ among x p (e - p)
unfolding Adjoin covered
adjoin_among x [] p e h =
    let none : 0 ≡ e - p = omega (arith, h) in
    sym (among_none x p) ∙ ap (among x p) none
adjoin_among x (y ∷ ys) p e h =
    let on = adjoin_on ys (p + y.bytes) e h.1 in
    let sum : y.bytes + (e - (p + y.bytes)) ≡ e - p = omega (arith, on) in
    ap₂ (λ (u v : ℕ). u + v) (ap (λ (q : ℕ). among x q y.bytes) h.0) (adjoin_among x ys (p + y.bytes) e h.1)
    ∙ among_join x p y.bytes (e - (p + y.bytes))
    ∙ ap (among x p) sum

among_below : (x e : ℕ) → among x 0 (e - 0) ≡ cond (ltb x e) 1 0
unfolding among
among_below x e =
    let z : 0 + (e - 0) ≡ e = omega arith in
    rw (le-leb 0 x (omega arith), z) refl

-- the pieces from 0 on cover each byte before e once, and no other
pub covered_once : (xs : List Piece) (e : ℕ) → Adjoin 0 xs e → (x : ℕ) → covered x xs ≡ cond (ltb x e) 1 0
covered_once xs e h x = adjoin_among x xs 0 e h ∙ among_below x e
