-- The call leaves six counts, whatever becomes of the file; and what it left in a part of a buffer stands at the buffer's front.
use Prim.Native.Nat.{ℕ, ◌+◌, ◌*◌, min}
use mathlib.Core.Path.{◌≡◌, refl, sym, ap, ◌∙◌}
use mathlib.Core.List.{List, ◌++◌}
use native.Mathlib.Omega.{arith}
use lib.ListN.{length, take, drop, length-append, length-drop, length-take}
use lib.Seq.{length-take-le, take_at}
use Rattle.section.specs.Request.{Request}
use Rattle.parse.specs.Parse.{Outcome, Caps, caps, long_file, unknown_flag, invalid_utf8, area_full, faulty, accepted, outcome, leaves, parse_call}
use Rattle.troymantle.specs.Words.{LeftInWords, left_in_words, in_words}
use Rattle.recorded.specs.declared.reader.Cursor.{Cursor}
use Rattle.recorded.specs.Records.{number_at, skip_to, lent_at}
use Rattle.recorded.specs.Cursor.{behind, GoesTo}
use Rattle.recorded.proofs.Reading.{skip_none, skip_step}
use Rattle.replay.specs.Records.{front, Called}

-- ---- six counts

leaves_six : (k : Caps) (o : Outcome) → length (leaves k o).counts ≡ 6
unfolding leaves
leaves_six k long_file = refl
leaves_six k unknown_flag = refl
leaves_six k invalid_utf8 = refl
leaves_six k (area_full name) = refl
leaves_six k (faulty fs) = refl
leaves_six k (accepted b) = refl

call_six : (asked : Request) (k : Caps) (y : LeftInWords) → y ≡ in_words (parse_call asked k) → length y.counts ≡ 6
unfolding parse_call
call_six asked k y e = ap (λ (z : LeftInWords). length z.counts) e ∙ leaves_six k (outcome asked k)

-- ---- the lengths of the areas

-- the cursor stands at the length of area k, of those at a place
pub record Stands (l : List ℕ) (at k : ℕ) (p : Cursor) : Type 0 where
  pub same : p.answers.now ≡ l
  pub here : p.at ≡ skip_to l at (4 * k)

-- the first c bytes of the buffer b were lent as area k, and came back as x
pub record Returned (l : List ℕ) (at k : ℕ) (b x : List ℕ) (c : ℕ) : Type 0 where
  pub lent_is : c ≡ lent_at l at k (length b)
  pub kept : length x ≡ length (take c b)

pub stands_first : (p : Cursor) → Stands p.answers.now p.at 0 p
stands_first p = record { same = refl; here = skip_none p.answers.now p.at p.within }

module _ {l : List ℕ} {at k : ℕ} {p : Cursor} (h : Stands l at k p) where
  pub stands_next : {q : Cursor} → GoesTo (behind 4) p q → Stands l at (k + 1) q
  stands_next g = record { same = g.same ∙ h.same; here = skip_step _ _ _ _ _ _ _ h.same h.here g.at_is _ (omega arith) }

  pub returned : (b x : List ℕ) (c most : ℕ) → c ≡ min (number_at p.answers.now p.at) most → length b ≡ most → length x ≡ length (take c b)
      → Returned l at k b x c
  returned b x c most e long kept = record {
    lent_is = e ∙ (λ i. min (number_at (h.same i) (h.here i)) (sym long i));
    kept = kept;
  }

-- ---- a part of a buffer that was lent, and came back

module _ {l : List ℕ} {at k : ℕ} {b x : List ℕ} {c : ℕ} (h : Returned l at k b x c) where
  part_length : length (take c b) ≡ lent_at l at k (length (x ++ drop c b))
  part_length =
      let whole : length (x ++ drop c b) ≡ length b = omega (arith, length-append x (drop c b), length-drop c b, length-take c b, h.kept, h.lent_is) in
      length-take-le c b (omega (arith, h.lent_is)) ∙ h.lent_is ∙ ap (lent_at l at k) (sym whole)

  -- the front of the buffer is what came back
  front_back : front l at k (x ++ drop c b) ≡ x
  front_back = take_at x (drop c b) _ (h.kept ∙ part_length)

module _ (asked : Request) (l : List ℕ) (at word : ℕ) (n : List ℕ)
    (b1 b2 b3 b4 b5 b6 x1 x2 x3 x4 x5 x6 : List ℕ) (c1 c2 c3 c4 c5 c6 : ℕ) where
  pub called : left_in_words word n x1 x2 x3 x4 x5 x6
      ≡ in_words (parse_call asked (caps (length (take c1 b1)) (length (take c2 b2)) (length (take c3 b3))
      (length (take c4 b4)) (length (take c5 b5)) (length (take c6 b6))))
      → Returned l at 0 b1 x1 c1 → Returned l at 1 b2 x2 c2 → Returned l at 2 b3 x3 c3
      → Returned l at 3 b4 x4 c4 → Returned l at 4 b5 x5 c5 → Returned l at 5 b6 x6 c6
      → Called asked l at word n (x1 ++ drop c1 b1) (x2 ++ drop c2 b2) (x3 ++ drop c3 b3) (x4 ++ drop c4 b4) (x5 ++ drop c5 b5) (x6 ++ drop c6 b6)
  called e h1 h2 h3 h4 h5 h6 = record {
    six = call_six asked _ _ e;
    left_is = (λ i. left_in_words word n (front_back h1 i) (front_back h2 i) (front_back h3 i) (front_back h4 i) (front_back h5 i) (front_back h6 i))
        ∙ e
        ∙ (λ i. in_words (parse_call asked
        (caps (part_length h1 i) (part_length h2 i) (part_length h3 i) (part_length h4 i) (part_length h5 i) (part_length h6 i))));
  }
