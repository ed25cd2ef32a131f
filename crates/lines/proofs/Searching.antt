-- The search for the offset of a place: it comes to the last offset whose place is not past it. That offset stands there if any does.
use mathlib.Core.Path.{◌≡◌, refl, sym, ap, ◌∙◌}
use mathlib.Core.Bool.{Bool, true, false, true≢false}
use mathlib.Core.List.{List}
use mathlib.Core.Logic.{◌⊎◌, inl, inr, ⊎_elim}
use Prim.Native.Nat.{ℕ, ◌+◌, ◌≤◌, ◌<◌}
use native.Mathlib.Nat.{eq-or-lt_of_le}
use native.Mathlib.Omega.{arith}
use borrow.Author.Tests.{le-leb, lt-leb}
use lib.ListN.{length}
use Rattle.std.specs.Prelude.{Ok, Err}
use Rattle.std.proofs.lemmas.Bool.{false_from_ne_true}
use Rattle.characters.specs.Utf8.{at_edge}
use Rattle.characters.proofs.Tests.{le_or_lt}
use Rattle.characters.proofs.Walks.{first_none, first_over}
use Rattle.characters.proofs.Firsts.{first_only}
use Rattle.characters.proofs.Edges.{end_edge}
use Rattle.lines.specs.declared.Place.{Place}
use Rattle.lines.specs.declared.search.Reached.{Reached}
use Rattle.lines.specs.declared.PlaceError.TheVariants.{NoSuchPlace}
use Rattle.lines.specs.Lines.{place, is_allowed, stands, offset_of, offset_in}
use Rattle.lines.specs.Places.{place_at, is_past, Reaches, Passes}
use Rattle.lines.proofs.Placing.{place_begins}
use Rattle.lines.proofs.Ordering.{neither_past, inside_stays, stands_at, stands_where, none_behind, none_before}

abbrev reached_at : ℕ → Place → Reached
reached_at k p = record { byte = record { 0 = k }; place = p }

module _ (s : List ℕ) (q : Place) where
  -- no offset stands there
  none_stands : ((m : ℕ) → m ≤ length s → stands s q m ≡ false) → Err NoSuchPlace ≡ offset_in s q
  unfolding offset_in
  none_stands f =
      let past : offset_of s q ≡ length s + 1 =
      first_over (stands s q) 0 (length s + 1) (length s + 1) (omega arith) (omega arith) (λ m h l. f m (omega arith))
      ∙ sym (first_none (stands s q) (length s + 1) (length s + 1) (omega arith)) in
      rw (lt-leb (offset_of s q) (length s) (omega (arith, past)))

  -- the text begins past what is sought
  pub search_begins_past : (t : Bool) (p : Place) → p ≡ place 1 1 → t ≡ is_past p q → t ≡ true → Err NoSuchPlace ≡ offset_in s q
  search_begins_past t p b a e =
      none_stands (λ m h. none_behind s q m 0 (ap (λ (x : Place). is_past x q) (sym (place_begins s p b)) ∙ sym a ∙ e) (omega arith))

  pub search_begins : (t : Bool) (p : Place) → p ≡ place 1 1 → t ≡ is_past p q → t ≡ false → Reaches s q (reached_at 0 p)
  search_begins t p b a e = record { inside = omega arith; is = place_begins s p b; near = sym a ∙ e }

  -- it came to r, going by single bytes
  module _ (r : Reached) (passes : Passes s q 1 r) where
    here : r.place ≡ place_at s r.byte.0
    here = passes.reaches.is

    near : is_past (place_at s r.byte.0) q ≡ false
    near = ap (λ (x : Place). is_past x q) (sym here) ∙ passes.reaches.near

    module _ (t : Bool) (is : t ≡ is_past q r.place) where
      -- its place is before what is sought: no offset stands there
      pub search_passes : t ≡ true → Err NoSuchPlace ≡ offset_in s q
      search_passes e = none_stands (λ m h. by m h (le_or_lt (r.byte.0 + 1) m))
        where
          at_most : (m : ℕ) → m < r.byte.0 + 1 → m ≤ r.byte.0
          at_most m l = omega arith

          not_here : (m : ℕ) → m ≡ r.byte.0 → stands s q m ≡ true → ⊥
          not_here m g f =
              let same : r.place ≡ q = here ∙ ap (place_at s) (sym g) ∙ stands_at s q m f in
              true≢false
              (sym (sym is ∙ e) ∙ ap (λ (x : Place). is_past q x) same ∙ ap (λ (x : Place). is_past x q) (sym same) ∙ passes.reaches.near)

          by : (m : ℕ) → m ≤ length s → (r.byte.0 + 1 ≤ m) ⊎ (m < r.byte.0 + 1) → stands s q m ≡ false
          by m h (inl l) = none_behind s q m (r.byte.0 + 1) (passes.next (omega arith)) l
          by m h (inr l) =
              ⊎_elim (λ g. false_from_ne_true (stands s q m) (not_here m g)) (λ g. none_before s q m r.byte.0 near g) (eq-or-lt_of_le (at_most m l))

      -- its place is what is sought: it stands there, and no other does
      pub search_finds : t ≡ false → Ok r.byte ≡ offset_in s q
      unfolding offset_in
      search_finds e =
          let same : place_at s r.byte.0 ≡ q = sym here ∙ neither_past r.place q passes.reaches.near (sym is ∙ e) in
          let at = stands_where s q r.byte.0 (allowed same) same in
          let found =
          first_only (stands s q) 0 r.byte.0 (length s + 1) (omega arith) (omega (arith, passes.reaches.inside)) at
          (λ m h l. none_before s q m r.byte.0 near l) in
          rw (le-leb (offset_of s q) (length s) (omega (arith, found, passes.reaches.inside))) (ap (λ (x : ℕ). Ok (record { 0 = x })) (sym found))
        where
          edge : place_at s r.byte.0 ≡ q → (u : Bool) → at_edge s r.byte.0 ≡ u → (r.byte.0 ≡ length s) ⊎ (r.byte.0 < length s) → u ≡ true
          edge same true f g = refl
          edge same false f (inl g) = absurd (true≢false (sym (ap (at_edge s) g ∙ end_edge s) ∙ f))
          edge same false f (inr g) =
              absurd (true≢false (sym (passes.next (omega arith)) ∙ ap (λ (x : Place). is_past x q) (inside_stays s r.byte.0 f) ∙ near))

          allowed : place_at s r.byte.0 ≡ q → is_allowed s r.byte.0 ≡ true
          allowed same =
              rw (le-leb r.byte.0 (length s) passes.reaches.inside, edge same (at_edge s r.byte.0) refl (eq-or-lt_of_le passes.reaches.inside))

pub passed_reaches : (s : List ℕ) (q : Place) (w : ℕ) (r : Reached) → Passes s q w r → Reaches s q r
passed_reaches s q w r h = h.reaches

pub ruleset searching = (search_begins_past, search_begins, passed_reaches, search_passes, search_finds)
