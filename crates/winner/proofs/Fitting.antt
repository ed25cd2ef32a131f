-- Whether a row fits, as plain facts: each length is at most the bytes left where the greatest is.
use mathlib.Core.Path.{◌≡◌, refl, sym, ap, ◌∙◌}
use mathlib.Core.Bool.{Bool, true, false}
use mathlib.Core.List.{List}
use Prim.Native.Nat.{ℕ, ◌*◌, ◌≤◌, ◌<◌}
use native.Mathlib.Omega.{arith}
use borrow.Author.Tests.{le-leb, leb-true, eq-eqb, ne_eqb, eqb-true}
use lib.Dec.{eqb, leb}
use lib.ListN.{length}
use Rattle.std.proofs.lemmas.Bool.{and_parts}
use Rattle.area.specs.Records.{entry_at, entry_width}
use Rattle.area.specs.Contents.{contents, entry_format}
use Rattle.area.specs.Lists.{all}
use Rattle.area.proofs.Contents.{contents_count, contents_read}
use Rattle.area.proofs.All.{all-at, all_from}
use Rattle.winner.specs.declared.Row.{Row}
use Rattle.winner.specs.Winner.{length_in, greatest}
use Rattle.winner.specs.Top.{good_row, RowFits}
use Rattle.winner.proofs.Winning.{below_greatest, greatest_low, of_row}

-- ---- the lengths of a row, and a test of each

module _ (test : ℕ → Bool) (rules : ℕ) (row : List ℕ) where
  abbrev pub lengths_pass : Bool
  lengths_pass = all test (contents entry_format row rules)

  pub length_passes : lengths_pass ≡ true → (k : ℕ) → k < rules → test (entry_at row k) ≡ true
  length_passes a k h =
      let m : k < length (contents entry_format row rules) = omega (arith, contents_count entry_format row rules, h) in
      ap test (sym (contents_read entry_format row rules k h)) ∙ all-at test (contents entry_format row rules) 0 k a m

  pub all_lengths : ((k : ℕ) → k < rules → test (entry_at row k) ≡ true) → lengths_pass ≡ true
  all_lengths f =
      all_from test (contents entry_format row rules) 0
      (λ k h. let g : k < rules = omega (arith, contents_count entry_format row rules, h) in ap test (contents_read entry_format row rules k g) ∙ f k g)

  pub row_broken : (length row ≡ rules * entry_width → ⊥) → good_row test rules row ≡ false
  unfolding good_row
  row_broken h = rw (ne_eqb (length row) (rules * entry_width) h)

  -- a row that fits
  pub row_long : good_row test rules row ≡ true → length row ≡ rules * entry_width
  unfolding good_row
  row_long e = eqb-true (length row) (rules * entry_width) (and_parts (eqb (length row) (rules * entry_width)) lengths_pass e).0

  pub row-length : good_row test rules row ≡ true → (k : ℕ) → k < rules → test (entry_at row k) ≡ true
  unfolding good_row
  row-length e = length_passes (and_parts (eqb (length row) (rules * entry_width)) lengths_pass e).1

  pub row_good : length row ≡ rules * entry_width → ((k : ℕ) → k < rules → test (entry_at row k) ≡ true) → good_row test rules row ≡ true
  unfolding good_row
  row_good e f = rw (eq-eqb (length row) (rules * entry_width) e) (all_lengths f)

-- a row fits under a test that passes more, and one that does not fit does not under a test that passes less
module _ (test wide : ℕ → Bool) (rules : ℕ) (row : List ℕ) (passes : (l : ℕ) → test l ≡ true → wide l ≡ true) where
  pub row_wider : good_row test rules row ≡ true → good_row wide rules row ≡ true
  row_wider e = row_good wide rules row (row_long test rules row e) (λ k h. passes (entry_at row k) (row-length test rules row e k h))

  pub row_narrower : good_row wide rules row ≡ false → good_row test rules row ≡ false
  row_narrower bad = by (good_row test rules row) refl
    where
      by : (b : Bool) → good_row test rules row ≡ b → b ≡ false
      by true e = sym (row_wider e) ∙ bad
      by false e = refl

-- every length fits where the greatest does
module _ (left rules : ℕ) (row : List ℕ) (top : ℕ) (is : top ≡ greatest (length_in row) rules) where
  lengths_low : good_row (λ l. leb l left) rules row ≡ true → top ≤ left
  lengths_low e =
      let low = greatest_low (length_in row) left rules (λ k g. leb-true (entry_at row k) left (row-length (λ l. leb l left) rules row e k g)) in
      omega (arith, low, is)

  pub row_above : left < top → good_row (λ l. leb l left) rules row ≡ false
  row_above h = by (good_row (λ l. leb l left) rules row) refl
    where
      by : (b : Bool) → good_row (λ l. leb l left) rules row ≡ b → b ≡ false
      by true e = absurd (omega (arith, lengths_low e, h))
      by false e = refl

  -- a row whose greatest length is at most what is left fits, and that length is its greatest
  pub row_within : length row ≡ rules * entry_width → top ≤ left
      → (good_row (λ l. leb l left) rules row ≡ true) × (top ≡ greatest (length_in row) rules)
  row_within long h = (
    row_good (λ l. leb l left) rules row long
        (λ k g. le-leb (entry_at row k) left (omega (arith, below_greatest (length_in row) rules k g, is, h))),
    is,
  )

pub top_low : (left rules : ℕ) (row : List ℕ) (x : Row) → RowFits (λ l. leb l left) rules row x → x.top ≤ left
top_low left rules row x h = lengths_low left rules row x.top h.greatest_is h.good

-- a row that was made
module _ (test : ℕ → Bool) (rules : ℕ) (row : List ℕ) (x : Row) (made : (x.bytes.now ≡ row) × (x.rules ≡ rules)) where
  pub row_fits : good_row test x.rules x.bytes.now ≡ true → RowFits test rules row x
  row_fits good = of_row rules row x made (λ n l. RowFits test n l x) (record { good = good; bytes_are = refl; rules_are = refl; greatest_is = x.greatest_is })

  pub row_misfits : good_row test x.rules x.bytes.now ≡ false → good_row test rules row ≡ false
  row_misfits bad = of_row rules row x made (λ n l. good_row test n l ≡ false) bad
