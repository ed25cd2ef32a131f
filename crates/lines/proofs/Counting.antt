-- The bytes of a block: what is counted of them, and how many stand up to the last line end, by a loop and by the bits of a whole block.
use mathlib.Core.Path.{◌≡◌, refl, sym, ap, subst, ◌∙◌}
use mathlib.Core.Bool.{Bool, true, false, cond}
use mathlib.Core.List.{List, map}
use Prim.Native.Nat.{ℕ, zero, suc, ◌+◌, ◌-◌, ◌*◌, ◌/◌, ◌%◌, ◌^◌, ◌≤◌, ◌<◌, max}
use mir.Val.{bool_byte}
use native.Mathlib.Nat.{div-eq_of_lt, div-eq_of_lt-le, two-pow-succ}
use native.Mathlib.Omega.{arith}
use borrow.Author.Tests.{eq-eqb, ne_eqb}
use lib.Dec.{eqb}
use lib.Lanes.{chunk}
use lib.ListN.{length, take, drop, get_or}
use lib.Pow.{pow_mono}
use Rattle.std.specs.Int.RustNames.{count_ones}
use Rattle.std.specs.List.{count_by}
use Rattle.std.proofs.lemmas.List.{get_or-take, get_or-drop, get_or-map, length-take, length-drop, take_all}
use Rattle.std.proofs.lemmas.List.Sums.{count_by_more_no, count_by_more_yes}
use Rattle.std.proofs.lemmas.Simd.{length-chunk, get_or-chunk, bit_mask_l, ones-mask_l}
use Rattle.characters.specs.Walk.{one_if, last, count}
use Rattle.characters.specs.Whitespace.{byte}
use Rattle.characters.proofs.Walks.{last_here, last_next, last_none, last_over}
use Rattle.characters.proofs.Counts.{count_none, count_next, counted_next, counted_ended}
use Rattle.lines.specs.Lines.{line_feed, ends_line, behind_end}
use Rattle.lines.specs.Places.{LastEnd, end_bits}

one_is : (t : Bool) → bool_byte t ≡ one_if t
one_is true = refl
one_is false = refl

pub one_most : (t : Bool) → bool_byte t ≤ 1
one_most true = omega arith
one_most false = omega arith

-- ---- the block from i to e

module _ (s : List ℕ) (i e : ℕ) where
  abbrev block : List ℕ
  block = take (e - i) (drop i s)

  block_long : i ≤ e → e ≤ length s → length block ≡ e - i
  block_long h l = omega (arith, length-take (e - i) (drop i s), length-drop i s, h, l)

  block_byte : (j : ℕ) → j < length block → byte block j ≡ byte s (i + j)
  block_byte j h =
      let inside : j < e - i = omega (arith, length-take (e - i) (drop i s), h) in
      get_or-take (e - i) (drop i s) j 0 inside ∙ get_or-drop i s j 0

-- ---- the loop has counted n of the first j bytes

module _ (s : List ℕ) (passes : ℕ → Bool) (i : ℕ) where
  abbrev at : ℕ → Bool
  at k = passes (byte s k)

  pub count_begins : 0 ≡ count at i (i + 0)
  count_begins = sym (count_none at i (i + 0) (omega arith))

  module _ (e j n : ℕ) (before : n ≡ count at i (i + j)) where
    pub counted_byte :
        (t : Bool) (r : ℕ) → r ≡ bool_byte t → j < length (block s i e) → t ≡ passes (byte (block s i e) j)
        → n + r ≡ count at i (i + (j + 1))
    counted_byte t r one h is =
        let next : i + j + 1 ≡ i + (j + 1) = omega arith in
        counted_next at i (i + j) n r before (one ∙ one_is t ∙ ap one_if (is ∙ ap passes (block_byte s i e j h))) (omega arith) ∙ ap (count at i) next

    pub counted_all : i ≤ e → e ≤ length s → length (block s i e) ≤ j → j ≤ length (block s i e) → n ≡ count at i e
    counted_all h l g k =
        counted_ended at i (i + j) n 0 before e (omega (arith, block_long s i e h l, g, h)) (omega (arith, block_long s i e h l, k, h))

-- ---- of the first k bytes, n stand up to the last line end

module _ (s : List ℕ) (i : ℕ) where
  pub no_end : LastEnd s i 0 0
  unfolding behind_end
  no_end = record { few = omega arith; is = sym (ap behind_end (last_none (ends_line s) i (i + 0) (omega arith))) }

  module _ {k n : ℕ} (L : LastEnd s i k n) (e : ℕ) where
    pub next_end : (r m : ℕ) → r ≡ cond (eqb (byte (block s i e) k) line_feed) (k + 1) 0 → m ≡ max r n → k < length (block s i e)
        → LastEnd s i (k + 1) m
    unfolding behind_end
    next_end r m is larger h = by (ends_line s (i + k)) refl
      where
        ends : eqb (byte (block s i e) k) line_feed ≡ ends_line s (i + k)
        ends = ap (λ (x : ℕ). eqb x line_feed) (block_byte s i e k h)

        back : i + (k + 1) - 1 ≡ i + k
        back = omega arith

        by : (t : Bool) → ends_line s (i + k) ≡ t → LastEnd s i (k + 1) m
        by true q =
            let one : r ≡ k + 1 = is ∙ ap (λ (t : Bool). cond t (k + 1) 0) (ends ∙ q) in
            let behind : m ≡ k + 1 = omega (arith, one, larger, L.few) in
            record {
              few = omega (arith, behind);
              is = sym (ap behind_end (last_here (ends_line s) i (i + (k + 1)) (omega arith) (ap (ends_line s) back ∙ q)))
                  ∙ rw (ne_eqb m 0 (λ z. omega (arith, z, behind))) (omega (arith, behind));
            }
        by false q =
            let none : r ≡ 0 = is ∙ ap (λ (t : Bool). cond t (k + 1) 0) (ends ∙ q) in
            let same : m ≡ n = omega (arith, none, larger) in
            record {
              few = omega (arith, same, L.few);
              is = ap behind_end (last_next (ends_line s) i (i + (k + 1)) (omega arith) (ap (ends_line s) back ∙ q) ∙ ap (last (ends_line s) i) back)
                  ∙ L.is ∙ ap (λ (x : ℕ). cond (eqb x 0) 0 (i + x)) (sym same);
            }

    pub last_end : i ≤ e → e ≤ length s → length (block s i e) ≤ k → k ≤ length (block s i e) → LastEnd s i (e - i) n
    last_end h l g j =
        let whole : k ≡ e - i = omega (arith, block_long s i e h l, g, j) in
        subst (λ (x : ℕ). LastEnd s i x n) whole L

-- ---- a whole block, from i on: m has a bit for each byte

from_one : (t : Bool) → one_if t ≡ 1 → t ≡ true
from_one true e = refl
from_one false e = absurd (omega (arith, e))

from_zero : (t : Bool) → one_if t ≡ 0 → t ≡ false
from_zero true e = absurd (omega (arith, e))
from_zero false e = refl

module _ (s : List ℕ) (i : ℕ) where
  abbrev lanes : List ℕ
  lanes = chunk i 64 s

  abbrev fed : ℕ → Bool
  fed b = eqb b line_feed

  pub loaded : chunk 0 64 (take (length s - i) (drop i s)) ≡ lanes
  loaded = ap (take 64) (take_all (length s - i) (drop i s) (omega (arith, length-drop i s)))

  lane : (j : ℕ) → j < 64 → fed (get_or lanes j 0) ≡ ends_line s (i + j)
  lane j h = ap fed (get_or-chunk i 64 s j 0 h)

  module _ (m : ℕ) (room : i + 64 ≤ length s) (is : m ≡ end_bits s i) where
    long : length lanes ≡ 64
    long = length-chunk i 64 s room

    bit : (j : ℕ) → j < 64 → m / 2 ^ j % 2 ≡ one_if (ends_line s (i + j))
    bit j h =
        ap (λ (x : ℕ). x / 2 ^ j % 2) is ∙ bit_mask_l (map fed lanes) j
        ∙ ap one_if (get_or-map fed lanes j 0 false (omega (arith, long, h)) ∙ lane j h)

    -- where the number is that small, no bit from r on is set
    none_from : (r : ℕ) → m < 2 ^ r → (k : ℕ) → i + r ≤ k → k < i + 64 → ends_line s k ≡ false
    none_from r small k g h =
        let back : i + (k - i) ≡ k = omega arith in
        let high : m < 2 ^ (k - i) = omega (arith, small, pow_mono {i = r} {j = k - i} (omega arith)) in
        ap (ends_line s) (sym back) ∙ from_zero _ (sym (bit (k - i) (omega arith)) ∙ ap (λ (x : ℕ). x % 2) (div-eq_of_lt high))

    pub no_bit : (e : ℕ) → e ≡ i + 64 → m ≡ 0 → LastEnd s i (e - i) 0
    unfolding behind_end
    no_bit e q z =
        let size : 64 ≡ e - i = omega (arith, q) in
        let none = last_over (ends_line s) i i (i + 64) (omega arith) (omega arith) (λ k g h. none_from 0 (omega (arith, z)) k (omega (arith, g)) h) in
        subst (λ (x : ℕ). LastEnd s i x 0) size (record {
          few = omega arith;
          is = ap behind_end (none ∙ sym (last_none (ends_line s) i i (omega arith)));
        })

    pub highest_bit : (e r : ℕ) → e ≡ i + 64 → 2 ^ r ≤ m → m < 2 * 2 ^ r → r < 64 → LastEnd s i (e - i) (r + 1)
    unfolding behind_end
    highest_bit e r q low above h =
        let size : 64 ≡ e - i = omega (arith, q) in
        let back : i + (r + 1) - 1 ≡ i + r = omega arith in
        let one : m / 2 ^ r ≡ 1 = div-eq_of_lt-le {k = 1} (2 ^ r) {m = m} (omega (arith, low)) (omega (arith, above)) in
        let ended : ends_line s (i + r) ≡ true = from_one _ (sym (bit r h) ∙ ap (λ (x : ℕ). x % 2) one) in
        let next : r + 1 ≡ suc r = omega arith in
        let small : m < 2 ^ (r + 1) = omega (arith, above, ap (λ (x : ℕ). 2 ^ x) next, two-pow-succ r) in
        let over = last_over (ends_line s) i (i + (r + 1)) (i + 64) (omega arith) (omega (arith, h)) (none_from (r + 1) small) in
        let here = last_here (ends_line s) i (i + (r + 1)) (omega arith) (ap (ends_line s) back ∙ ended) in
        subst (λ (x : ℕ). LastEnd s i x (r + 1)) size (record {
          few = omega (arith, h);
          is = ap behind_end (over ∙ sym here) ∙ rw (ne_eqb (r + 1) 0 (λ z. omega (arith, z))) (omega arith);
        })

    -- the first j bytes are counted, and then one more
    module _ (j : ℕ) (h : j < 64) (before : count_by fed (take j lanes) ≡ count (ends_line s) i (i + j)) where
      longer : (t : Bool) → ends_line s (i + j) ≡ t → count (ends_line s) i (i + (j + 1)) ≡ count (ends_line s) i (i + j) + one_if t
      longer t q =
          let up : i + (j + 1) ≡ i + j + 1 = omega arith in
          ap (count (ends_line s) i) up ∙ count_next (ends_line s) i (i + j) (omega arith) ∙ ap (λ (t : Bool). count (ends_line s) i (i + j) + one_if t) q

      one_more : (t : Bool) → ends_line s (i + j) ≡ t → count_by fed (take (j + 1) lanes) ≡ count (ends_line s) i (i + (j + 1))
      one_more true q = omega (arith, count_by_more_yes fed lanes j 0 (omega (arith, long, h)) (lane j h ∙ q), before, longer true q)
      one_more false q = omega (arith, count_by_more_no fed lanes j 0 (omega (arith, long, h)) (lane j h ∙ q), before, longer false q)

    counted : (j : ℕ) → j ≤ 64 → count_by fed (take j lanes) ≡ count (ends_line s) i (i + j)
    counted zero h = sym (count_none (ends_line s) i (i + 0) (omega arith))
    counted (suc j) h =
        let next : j + 1 ≡ suc j = omega arith in
        subst (λ (x : ℕ). count_by fed (take x lanes) ≡ count (ends_line s) i (i + x)) next
        (one_more j (omega (arith, h)) (counted j (omega (arith, h))) (ends_line s (i + j)) refl)

    pub bits_counted : (e : ℕ) → e ≡ i + 64 → count_ones m ≡ count (ends_line s) i e
    bits_counted e q =
        ap count_ones is ∙ ones-mask_l fed lanes ∙ ap (count_by fed) (sym (take_all 64 lanes (omega (arith, long))))
        ∙ counted 64 (omega arith) ∙ ap (count (ends_line s) i) (sym q)

pub ruleset seeking_last_end = (no_end, next_end, last_end, no_bit, highest_bit)

-- ---- where the next line starts

module _ (s : List ℕ) (i e n : ℕ) (h : i ≤ e) (L : LastEnd s i (e - i) n) where
  whole : i + (e - i) ≡ e
  whole = omega (arith, h)

  pub line_start_none : n ≡ 0 → 0 ≡ behind_end (last (ends_line s) i e)
  line_start_none z = sym (ap (λ (x : ℕ). behind_end (last (ends_line s) i x)) (sym whole) ∙ L.is ∙ rw (eq-eqb n 0 z))

  pub line_start_found : (n ≡ 0 → ⊥) → i + n ≡ behind_end (last (ends_line s) i e)
  line_start_found d = sym (ap (λ (x : ℕ). behind_end (last (ends_line s) i x)) (sym whole) ∙ L.is ∙ rw (ne_eqb n 0 d))

pub ruleset seeking_line_start = (line_start_none, line_start_found)
