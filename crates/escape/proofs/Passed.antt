-- The next escape, and the whole escapes from a position on: the first of them is the next one, and the others are those from its end on.
use mathlib.Core.Path.{◌≡◌, refl, sym, ap, subst, ◌∙◌}
use mathlib.Core.Bool.{Bool, true, false, cond, not, ◌||◌}
use mathlib.Core.List.{List, [], ◌∷◌}
use mathlib.Core.Logic.{◌⊎◌, inl, inr}
use Prim.Native.Nat.{ℕ, zero, suc, ◌+◌, ◌-◌, ◌≤◌, ◌<◌}
use native.Mathlib.Omega.{arith}
use borrow.Author.Rules.{rules}
use borrow.Author.Tests.{eq-eqb, lt-ltb, le-ltb, ltb-false}
use lib.ListN.{length, get_or}
use Rattle.std.specs.Prelude.{Option, Some, None}
use Rattle.std.specs.List.{list_any}
use Rattle.characters.specs.Walk.{Between}
use Rattle.characters.specs.Whitespace.{byte}
use Rattle.characters.proofs.Firsts.{first_low}
use Rattle.characters.proofs.Tests.{le_or_lt}
use Rattle.characters.proofs.Walks.{first_from}
use Rattle.escape.specs.Escape.{Escape, next_backslash, char_end, next_escape, is_whole, escapes_from, escapes, is_kept, any_escape, is_rewritten, drop_lone}
use Rattle.escape.specs.Phrases.{next_whole}
use Rattle.escape.proofs.Backslashes.{is_backslash, next_is}
use Rattle.escape.proofs.Steps.{next_from, next_start, next_end, whole_inside, whole_to, escapes_none, escapes_next, escapes_again}

-- ---- the next escape: q is the next backslash from p on

module _ (s : List ℕ) (c p q : ℕ) (f : Between p c (next_backslash s c p) q) where
  pub none_whole : c ≤ q + 1 → None ≡ next_whole s c p
  unfolding next_whole next_escape
  none_whole h = rw (← f.is, le-ltb (q + 1) c h) refl

  pub next_is_whole : (e : ℕ) → q + 1 < c → Between (q + 1 + 1) c (char_end s c (q + 1)) e
      → ◌≡◌ {A = Option Escape} (Some (record { backslash = q; start = q + 1; end = e })) (next_whole s c p)
  unfolding next_whole next_escape
  next_is_whole e h d = rw (← f.is, lt-ltb (q + 1) c h, d.is) refl

pub ruleset finding_next = (rules, none_whole, next_is_whole)

-- ---- the escapes that are left from p on, by what the next one is

-- x is the next escape from p on, and it is whole
pub record Next (s : List ℕ) (c p : ℕ) (x : Escape) : Type 0 where
  pub left : escapes s p c ≡ x ∷ escapes s x.end c
  pub from : p ≤ x.backslash
  pub start : x.start ≡ x.backslash + 1
  pub inside : x.start < x.end
  pub to : x.end ≤ c

module _ (s : List ℕ) (c p : ℕ) where
  whole_next : is_whole c (next_escape s c p) ≡ true → Next s c p (next_escape s c p)
  whole_next w = record {
    left = escapes_next s c p w;
    from = next_from s c p;
    start = next_start s c p;
    inside = omega (arith, next_end s c p);
    to = whole_to s c p w;
  }

  module _ {o : Option Escape} (is : o ≡ next_whole s c p) where
    pub left_none : o ≡ None → escapes s p c ≡ []
    unfolding next_whole
    left_none q = go (is_whole c (next_escape s c p)) refl (sym is ∙ q)
      where
        go : (t : Bool) → is_whole c (next_escape s c p) ≡ t → ◌≡◌ {A = Option Escape} (cond t (Some (next_escape s c p)) None) None → escapes s p c ≡ []
        go true w e = cc
        go false w e = escapes_none s c p w

    pub next_found : {x : Escape} → o ≡ Some x → Next s c p x
    unfolding next_whole
    next_found {x} q = go (is_whole c (next_escape s c p)) refl (sym is ∙ q)
      where
        go : (t : Bool) → is_whole c (next_escape s c p) ≡ t → ◌≡◌ {A = Option Escape} (cond t (Some (next_escape s c p)) None) (Some x) → Next s c p x
        go true w e =
            let same : next_escape s c p ≡ x = cc in
            subst (Next s c p) same (whole_next w)
        go false w e = cc

  -- the first of the escapes that are left is the next one
  pub first_left : (x : Escape) (xs : List Escape) → escapes s p c ≡ x ∷ xs → Next s c p x
  first_left x xs q = go (is_whole c (next_escape s c p)) refl
    where
      go : (t : Bool) → is_whole c (next_escape s c p) ≡ t → Next s c p x
      go true w =
          let n = escapes_next s c p w in
          let same : next_escape s c p ≡ x = cc in
          subst (Next s c p) same (whole_next w)
      go false w =
          let n = escapes_none s c p w in
          cc

-- and the others are those from its end on
pub rest_left : {s : List ℕ} {c p : ℕ} {x : Escape} {xs : List Escape} → escapes s p c ≡ x ∷ xs → Next s c p x → xs ≡ escapes s x.end c
rest_left q n =
    let left = n.left in
    cc

-- a text whose last whole escape ends at w ends there if one more backslash follows
pub drop_lone_lem : (s : List ℕ) (c w : ℕ) → next_backslash s c w < c → drop_lone s c w ≡ w
unfolding drop_lone
drop_lone_lem s c w h = rw (lt-ltb (next_backslash s c w) c h)

-- where none is left, a backslash that follows is the last byte, and alone
module _ (s : List ℕ) (c p : ℕ) (none : escapes s p c ≡ []) where
  lone_is_last : next_backslash s c p < c → next_backslash s c p ≡ c - 1
  unfolding next_escape
  lone_is_last h = omega (arith, ltb-false (next_backslash s c p + 1) c (go (is_whole c (next_escape s c p)) refl))
    where
      go : (t : Bool) → is_whole c (next_escape s c p) ≡ t → is_whole c (next_escape s c p) ≡ false
      go true w =
          let n = escapes_next s c p w in
          cc
      go false w = w

  pub lone_dropped : p < c → byte s (c - 1) ≡ 0x5c → Between p c (drop_lone s c p) p
  lone_dropped l b =
      let low : next_backslash s c p ≤ c - 1 = first_low (is_backslash s) p c (omega arith) (c - 1) (omega arith) (eq-eqb (byte s (c - 1)) 0x5c b) in
      record { is = sym (drop_lone_lem s c p (omega arith)); from = omega arith; to = omega arith }

  pub none_dropped : p ≤ c → (p < c → byte s (c - 1) ≡ 0x5c → ⊥) → Between p c (drop_lone s c p) c
  unfolding drop_lone
  none_dropped l d = record { is = rw (le-ltb (next_backslash s c p) c (go (le_or_lt c (next_backslash s c p)))) refl; from = l; to = omega arith }
    where
      go : (c ≤ next_backslash s c p) ⊎ (next_backslash s c p < c) → c ≤ next_backslash s c p
      go (inl h) = h
      go (inr h) = absurd (d (omega (arith, h, first_from (is_backslash s) p c)) (ap (byte s) (sym (lone_is_last h)) ∙ next_is s c p h))

-- each of them starts its character before c
module _ (s : List ℕ) (c : ℕ) where
  starts : (n p k : ℕ) (x : Escape) → k < length (escapes_from n s c p) → x ≡ get_or (escapes_from n s c p) k x → x.start < c
  unfolding escapes_from
  starts zero p k x h q = absurd (omega (arith, h))
  starts (suc n) p k x h q = go (is_whole c (next_escape s c p)) refl k h q (λ j. starts n (next_escape s c p).end j x)
    where
      rest : List Escape
      rest = escapes_from n s c (next_escape s c p).end

      go :
          (t : Bool) → is_whole c (next_escape s c p) ≡ t
          → (k : ℕ) → k < length (cond t (next_escape s c p ∷ rest) []) → x ≡ get_or (cond t (next_escape s c p ∷ rest) []) k x
          → ((j : ℕ) → j < length rest → x ≡ get_or rest j x → x.start < c) → x.start < c
      go true w zero h q others = rw q (whole_inside s c p w)
      go true w (suc k) h q others = others k (omega (arith, h)) q
      go false w k h q others = absurd (omega (arith, h))

  pub start_inside : (p k : ℕ) (x : Escape) → k < length (escapes s p c) → x ≡ get_or (escapes s p c) k x → x.start < c
  unfolding escapes
  start_inside p k x h q = starts (c - p) p k x h q

-- ---- whether one of them does not stay

any_listed : (test : Escape → Bool) (es : List Escape) → list_any test es ≡ any_escape test es
unfolding any_escape
any_listed test [] = refl
any_listed test (e ∷ es) = ap (λ (t : Bool). test e || t) (any_listed test es)

pub any_rewritten : (s : List ℕ) (i c : ℕ) (r : Bool) → r ≡ list_any (λ e. not (is_kept s c e.start)) (escapes s i c) → r ≡ is_rewritten s i c
unfolding is_rewritten
any_rewritten s i c r e = e ∙ any_listed (λ e. not (is_kept s c e.start)) (escapes s i c)

module _ (s : List ℕ) (c p q : ℕ) (f : Between p c (next_backslash s c p) q) where
  pub none_rewritten : c ≤ q + 1 → false ≡ is_rewritten s p c
  unfolding is_rewritten any_escape next_escape
  none_rewritten h = rw (escapes_none s c p (rw (← f.is) (le-ltb (q + 1) c h))) refl

  -- from the first backslash on the same escapes follow
  pub rewritten_from : (r : Bool) → q + 1 < c → r ≡ is_rewritten s q c → r ≡ is_rewritten s p c
  unfolding is_rewritten next_escape
  rewritten_from r h e =
      e ∙ rw f.is (ap (any_escape (λ e. not (is_kept s c e.start))) (escapes_again s c p (rw (← f.is) (lt-ltb (q + 1) c h))))

pub ruleset asking = (rules, none_rewritten, rewritten_from)
