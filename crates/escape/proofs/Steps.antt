-- The list of a pattern's escapes, one step at a time: from p on it is empty, or it begins with the next escape and goes on from that one's end.
-- Each escape ends nearer to the pattern's end, so that there are no more of them than bytes.
use mathlib.Core.Path.{◌≡◌, refl, sym, ap, ◌∙◌}
use mathlib.Core.Bool.{Bool, true, false, cond}
use mathlib.Core.List.{List, [], ◌∷◌}
use Prim.Native.Nat.{ℕ, zero, suc, ◌+◌, ◌-◌, ◌≤◌, ◌<◌}
use native.Mathlib.Nat.{le_refl}
use native.Mathlib.Omega.{arith}
use borrow.Author.Tests.{le-ltb, ltb-true}
use Rattle.characters.proofs.Walks.{first_from, first_to}
use Rattle.characters.specs.Utf8.{at_edge}
use Rattle.escape.specs.Escape.{Escape, next_backslash, char_end, next_escape, is_whole, escapes_from, escapes}
use Rattle.escape.proofs.Backslashes.{is_backslash, backslash_again}

pub char_from : (s : List ℕ) (c q : ℕ) → q + 1 ≤ char_end s c q
char_from s c q = first_from (at_edge s) (q + 1) c

module _ (s : List ℕ) (c p : ℕ) where
  -- the next escape stands behind p
  pub next_from : p ≤ (next_escape s c p).backslash
  unfolding next_escape
  next_from = first_from (is_backslash s) p c

  pub next_start : (next_escape s c p).start ≡ (next_escape s c p).backslash + 1
  unfolding next_escape
  next_start = refl

  pub next_end : (next_escape s c p).start + 1 ≤ (next_escape s c p).end
  unfolding next_escape
  next_end = char_from s c (next_backslash s c p + 1)

  pub whole_inside : is_whole c (next_escape s c p) ≡ true → (next_escape s c p).start < c
  whole_inside e = ltb-true (next_escape s c p).start c e

  pub whole_to : is_whole c (next_escape s c p) ≡ true → (next_escape s c p).end ≤ c
  unfolding next_escape
  whole_to e = first_to (at_edge s) (next_backslash s c p + 1 + 1) c (omega (arith, whole_inside e))

  none_past_end : c ≤ p → is_whole c (next_escape s c p) ≡ false
  none_past_end h = le-ltb (next_escape s c p).start c (omega (arith, next_from, next_start))

-- any number of turns that is enough gives the same list
module _ (s : List ℕ) (c : ℕ) where
  from_end : (n p : ℕ) → c ≤ p → escapes_from n s c p ≡ []
  unfolding escapes_from
  from_end zero p h = refl
  from_end (suc n) p h = rw (none_past_end s c p h)

  enough : (n m p : ℕ) → c - p ≤ n → c - p ≤ m → escapes_from n s c p ≡ escapes_from m s c p
  unfolding escapes_from
  enough zero m p h g = sym (from_end m p (omega arith))
  enough (suc n) zero p h g = from_end (suc n) p (omega arith)
  enough (suc n) (suc m) p h g = go (is_whole c (next_escape s c p)) refl (enough n m (next_escape s c p).end)
    where
      go :
          (t : Bool)
          → is_whole c (next_escape s c p) ≡ t
          → (c - (next_escape s c p).end ≤ n → c - (next_escape s c p).end ≤ m → escapes_from n s c (next_escape s c p).end ≡ escapes_from m s c (next_escape s c p).end)
          → cond t (next_escape s c p ∷ escapes_from n s c (next_escape s c p).end) [] ≡ cond t (next_escape s c p ∷ escapes_from m s c (next_escape s c p).end) []
      go true w same =
          let inside = whole_inside s c p w in
          let near : c - (next_escape s c p).end < c - p = omega (arith, inside, next_from s c p, next_start s c p, next_end s c p) in
          ap (λ (es : List Escape). next_escape s c p ∷ es) (same (omega arith) (omega arith))
      go false w same = refl

module _ (s : List ℕ) (c p : ℕ) where
  pub escapes_none : is_whole c (next_escape s c p) ≡ false → escapes s p c ≡ []
  unfolding escapes escapes_from
  escapes_none w = enough s c (c - p) (suc (c - p)) p (le_refl (c - p)) (omega arith) ∙ rw w

  pub escapes_next : is_whole c (next_escape s c p) ≡ true → escapes s p c ≡ next_escape s c p ∷ escapes s (next_escape s c p).end c
  unfolding escapes escapes_from
  escapes_next w =
      let inside = whole_inside s c p w in
      let near : c - (next_escape s c p).end ≤ c - p = omega (arith, inside, next_from s c p, next_start s c p, next_end s c p) in
      enough s c (c - p) (suc (c - p)) p (le_refl (c - p)) (omega arith)
      ∙ rw w
      (ap (λ (es : List Escape). next_escape s c p ∷ es) (enough s c (c - p) (c - (next_escape s c p).end) (next_escape s c p).end near (le_refl _)))

  module _ (w : is_whole c (next_escape s c p) ≡ true) where
    pub backslash_inside : next_backslash s c p + 1 < c
    unfolding next_escape
    backslash_inside = whole_inside s c p w

    -- from its backslash on the next escape is the same, and so are all that follow
    pub next_again : next_escape s c (next_backslash s c p) ≡ next_escape s c p
    unfolding next_escape
    next_again = rw (backslash_again s c p (omega (arith, backslash_inside)))

pub escapes_again : (s : List ℕ) (c p : ℕ) → is_whole c (next_escape s c p) ≡ true → escapes s (next_backslash s c p) c ≡ escapes s p c
escapes_again s c p w =
    let same = next_again s c p w in
    escapes_next s c (next_backslash s c p) (ap (is_whole c) same ∙ w)
    ∙ ap (λ (e : Escape). e ∷ escapes s e.end c) same
    ∙ sym (escapes_next s c p w)
