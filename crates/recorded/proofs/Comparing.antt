-- A comparison that ends with true has seen every byte.
use mathlib.Core.Path.{◌≡◌, refl, sym, ap, ap₂, subst, ◌∙◌}
use mathlib.Core.Bool.{Bool, true, false, ◌&&◌, false≢true}
use mathlib.Core.List.{List, [], ◌∷◌, ◌++◌, map}
use Prim.Native.Nat.{ℕ, min, ◌+◌, ◌*◌, ◌-◌, ◌≤◌}
use native.Mathlib.Omega.{arith}
use lib.ListN.{length, length-append, get_or, get_or-map, take, drop, length-drop, take-append-drop}
use lib.Seq.{length-take-le}
use lib.Dec.{eqb}
use denote.Ref.{Bor}
use borrow.Author.Tests.{eqb-true}
use Rattle.std.proofs.Common.{Option, Some, None, inl, inr}
use Rattle.std.proofs.lemmas.Slice.Eq.{bytes_eq-Decides}
use Rattle.std.specs.Iterator.{YieldsThen}
use Rattle.std.proofs.lemmas.Iterator.{YieldsList, items_from_drains}
use Rattle.std.specs.Option.{MatchOption}
use Rattle.std.specs.Cmp.Lexicographic.{pointwise}
use Rattle.std.proofs.Math.Seq.{get_or-append_seam}
use Rattle.std.proofs.lemmas.List.{get_or_append_left, map-append}
use Rattle.std.proofs.lemmas.Bool.{cases_lt, and_parts}
use Rattle.std.specs.List.{list_all}
use Rattle.area.specs.Bytes.{pad, zeros, field_at}
use Rattle.recorded.specs.Records.{number_at, skip_to, bytes_at, lent_at, word_at, counts_from, areas_at, area_start}
use Rattle.recorded.specs.declared.reader.Cursor.{Cursor}
use Rattle.recorded.specs.Cursor.{Reads, behind}
use Rattle.recorded.proofs.Reading.{skip_none, skip_step}
use Rattle.recorded.specs.Comparison.{WhenTrue, IsZero, AreaHolds, CountsAre, AreaIs, AreasAre, LeftIs, lent_lists}

-- ---- zeros

all_zero : (xs : List ℕ) → list_all (λ x. eqb x 0) xs ≡ true → xs ≡ zeros (length xs)
all_zero [] e = refl
all_zero (x ∷ xs) e =
    ap₂ (λ (y : ℕ) (ys : List ℕ). y ∷ ys) (eqb-true x 0 (and_parts (eqb x 0) _ e).0) (all_zero xs (and_parts (eqb x 0) _ e).1)

pub zero_compared : (xs : List ℕ) (r : Bool) → r ≡ list_all (λ x. eqb x 0) xs → WhenTrue (IsZero xs) r
zero_compared xs r e = record { holds = λ t. record { is = all_zero xs (sym e ∙ t) } }

-- ---- an area

module _ (area bytes : List ℕ) where
  area_whole : (rest : List ℕ) → pointwise eqb (take (length bytes) area) bytes ≡ true → rest ≡ drop (length bytes) area → IsZero rest
      → AreaHolds area bytes
  unfolding pad
  area_whole rest same behind zero =
      let n = length bytes in
      let front : take n area ≡ bytes = (bytes_eq-Decides (take n area) bytes).0 same in
      let long : length rest ≡ length area - n = ap length behind ∙ length-drop n area in
      record {
        is =
            sym (take-append-drop n area)
            ∙ ap₂ (λ (a b : List ℕ). a ++ b) front (sym behind ∙ zero.is ∙ ap zeros long);
      }

  pub holds_compared : (o : Option (Bor (List ℕ))) (r : Bool)
      → MatchOption o (pointwise eqb (take (length bytes) area) bytes ≡ false)
      (λ x. (pointwise eqb (take (length bytes) area) bytes ≡ true) × (x.now ≡ drop (length bytes) area)
      × (length x.now + length bytes ≡ length area))
      → MatchOption o (r ≡ false) (λ x. WhenTrue (IsZero x.now) r)
      → WhenTrue (AreaHolds area bytes) r
  holds_compared None r stripped says = record { holds = λ t. absurd (false≢true (sym says ∙ t)) }
  holds_compared (Some x) r stripped says = record { holds = λ t. area_whole x.now stripped.0 stripped.1 (says.holds t) }

-- ---- the counts

-- the numbers that are lent
abbrev numbers : List (Bor ℕ) → List ℕ
numbers counts = map (λ count. count.now) counts

module _ (l : List ℕ) (at : ℕ) where
  -- these counts are those recorded, and the cursor stands behind them
  pub record Compared (counts : List (Bor ℕ)) (recorded : Cursor) : Type 0 where
    pub same : recorded.answers.now ≡ l
    pub at_is : recorded.at ≡ skip_to l at (2 * length (numbers counts))
    pub are : CountsAre (numbers counts) l at (length (numbers counts))

  counts_next : (ys : List ℕ) (y : ℕ) → y ≡ field_at l (skip_to l at (2 * length ys)) → CountsAre ys l at (length ys)
      → CountsAre (ys ++ (y ∷ [])) l at (length (ys ++ (y ∷ [])))
  counts_next ys y here so_far = record {
    are = λ k h. elim (cases_lt k (length ys)) [
      | inl g ↦ get_or_append_left ys (y ∷ []) 0 k g ∙ so_far.are k g
      | inr g ↦
          let last : length ys ≡ k = omega (arith, length-append {A = ℕ}) in
          subst (λ (j : ℕ). get_or (ys ++ (y ∷ [])) j 0 ≡ field_at l (skip_to l at (2 * j))) last (get_or-append_seam ys y [] 0 ∙ here)
    ];
  }

  pub compared_none : (recorded : Cursor) → recorded.answers.now ≡ l → recorded.at ≡ at → at ≤ length l → Compared [] recorded
  compared_none recorded same is h = record {
    same = same;
    at_is = is ∙ skip_none l at h;
    are = record { are = λ k h. absurd (omega arith) };
  }

  -- one more that is equal to the number that is read
  pub compared_next : (xs : List (Bor ℕ)) (x : Bor ℕ) (old new left : Cursor) (r : ℕ) (same : Bool) → Compared xs old
      → Reads field_at (behind 2) old new r → same ≡ eqb x.now r → true ≡ same → left ≡ new → Compared (xs ++ (x ∷ [])) left
  compared_next xs x old new left r same so_far read asked told goes =
      let longer : numbers (xs ++ (x ∷ [])) ≡ numbers xs ++ (x.now ∷ []) = map-append (λ (count : Bor ℕ). count.now) xs (x ∷ []) in
      record {
        same = ap (λ (recorded : Cursor). recorded.answers.now) goes ∙ read.goes.same ∙ so_far.same;
        at_is =
            ap (λ (recorded : Cursor). recorded.at) goes
            ∙ skip_step l _ at _ _ _ _ so_far.same so_far.at_is read.goes.at_is _ (omega (arith, ap length longer, length-append {A = ℕ}));
        are =
            subst (λ (ys : List ℕ). CountsAre ys l at (length ys)) (sym longer)
            (counts_next (numbers xs) x.now
            (eqb-true x.now r (sym asked ∙ sym told) ∙ read.is ∙ (λ i. field_at (so_far.same i) (so_far.at_is i))) so_far.are);
      }

  -- where `all` answers true, it has seen all counts
  pub all_compared : {S : Type 0} {steps : S → Option (Bor ℕ) → S → Type 0} (s u : S) (counts : List ℕ) (xs : List (Bor ℕ)) (o : Option (Bor ℕ))
      (recorded : Cursor) (r : Bool) (Stops : Bor ℕ → Type 0) → YieldsThen steps s xs o u → YieldsList steps (λ count. count.now) s counts
      → MatchOption o (r ≡ true) (λ x. (r ≡ false) × Stops x) → Compared xs recorded → WhenTrue (CountsAre counts l at (length counts)) r
  all_compared s u counts xs None recorded r Stops ran gives ended so_far = record {
    holds = λ t.
        subst (λ (ys : List ℕ). CountsAre ys l at (length ys)) (items_from_drains xs (ran.0, ran.1, λ w. (u, ran.2)) gives) so_far.are;
  }
  all_compared s u counts xs (Some x) recorded r Stops ran gives ended so_far = record { holds = λ t. absurd (false≢true (sym ended.0 ∙ t)) }

-- ---- the areas

lent_list : (areas : List (Bor (List ℕ))) (k : ℕ) (d : Bor (List ℕ)) → d.now ≡ [] → get_or (lent_lists areas) k [] ≡ (get_or areas k d).now
lent_list areas k d e = ap (λ (u : List ℕ). get_or (lent_lists areas) k u) (sym e) ∙ get_or-map (λ (a : Bor (List ℕ)). a.now) areas k d

area_compared : (area l : List ℕ) (lengths k at n : ℕ) (r : Bool) → n ≡ lent_at l lengths k (length area)
    → WhenTrue (AreaHolds (take n area) (bytes_at l at)) r → WhenTrue (AreaIs area l lengths k at) r
area_compared area l lengths k at n r q h = record {
  holds = λ t.
      let w : length (take n area) ≡ n = length-take-le n area (omega (arith, q)) in
      let e : take n area ≡ pad n (bytes_at l at) = (h.holds t).is ∙ ap (λ (j : ℕ). pad j (bytes_at l at)) w in
      record { is = subst (λ (j : ℕ). take j area ≡ pad j (bytes_at l at)) q e };
}

module _ (areas : List (Bor (List ℕ))) (l : List ℕ) (lengths start : ℕ) where
  pub areas_none : WhenTrue (AreasAre (lent_lists areas) l lengths start 0) true
  areas_none = record { holds = λ t. record { are = λ k h. absurd (omega arith) } }

  -- one more area, where cursors over m and o stand at its length and at its bytes
  pub areas_next : (i : ℕ) (d : Bor (List ℕ)) (m o bytes : List ℕ) (p at n : ℕ) (same r : Bool) → d.now ≡ []
      → m ≡ l → o ≡ l → p ≡ skip_to l lengths (4 * i) → at ≡ area_start l start i
      → n ≡ min (number_at m p) (length (get_or areas i d).now) → bytes ≡ bytes_at o at
      → WhenTrue (AreaHolds (take n (get_or areas i d).now) bytes) r
      → WhenTrue (AreasAre (lent_lists areas) l lengths start i) same
      → WhenTrue (AreasAre (lent_lists areas) l lengths start (i + 1)) (same && r)
  areas_next i d m o bytes p at n same r empty em eo ep ea en eb holds so_far = record {
    holds = λ t. record {
      are = λ k h. elim (cases_lt k i) [
        | inl g ↦ (so_far.holds (and_parts same r t).0).are k g
        | inr g ↦
            let z : i ≡ k = omega arith in
            subst (λ (j : ℕ). AreaIs (get_or (lent_lists areas) j []) l lengths j (area_start l start j)) z
            (subst (λ (a : List ℕ). AreaIs a l lengths i (area_start l start i)) (sym (lent_list areas i d empty))
            ((area_compared (get_or areas i d).now l lengths i (area_start l start i) n r
            (en ∙ (λ j. min (number_at (em j) (ep j)) (length (get_or areas i d).now)))
            (subst (λ (u : List ℕ). WhenTrue (AreaHolds (take n (get_or areas i d).now) u) r) (eb ∙ (λ j. bytes_at (eo j) (ea j))) holds)).holds
            (and_parts same r t).1))
      ];
    };
  }

-- ---- all that the call left

module _ (l : List ℕ) (lengths word n : ℕ) (counts : List ℕ) (areas : List (List ℕ)) (same q : Bool) where
  pub left_compared : n ≡ number_at l (word_at l lengths) → WhenTrue (CountsAre counts l (counts_from l lengths) (length counts)) q
      → WhenTrue (AreasAre areas l lengths (areas_at l lengths) 6) same
      → WhenTrue (LeftIs l lengths word counts areas) (same && eqb word n && q)
  left_compared en counted compared = record {
    holds = λ t.
        let first : (same && eqb word n) ≡ true = (and_parts (same && eqb word n) q t).0 in
        record {
          numbers = record {
            word_is = eqb-true word n (and_parts same (eqb word n) first).1 ∙ en;
            counts_are = counted.holds (and_parts (same && eqb word n) q t).1;
          };
          areas_are = compared.holds (and_parts same (eqb word n) first).0;
        };
  }
