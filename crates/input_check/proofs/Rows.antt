-- Whether a row fits. The greatest length tells whether each is at most the bytes left; and where no character goes on over the places from the
-- position to where it ends, each of them is an edge.
use mathlib.Core.Path.{◌≡◌, refl, sym, ap, ap₂, ◌∙◌}
use mathlib.Core.Bool.{Bool, true, false, true≢false}
use mathlib.Core.List.{List}
use mathlib.Core.Logic.{⊎_elim}
use Prim.Native.Nat.{ℕ, ◌+◌, ◌≤◌, ◌<◌}
use native.Mathlib.Nat.{eq-or-lt_of_le}
use native.Mathlib.Omega.{arith}
use borrow.Author.Tests.{le-leb}
use lib.Dec.{leb}
use lib.ListN.{length}
use Rattle.std.proofs.lemmas.Bool.{and_parts}
use Rattle.characters.specs.Utf8.{is_continuation, is_edge}
use Rattle.characters.specs.Walk.{any}
use Rattle.characters.specs.Whitespace.{byte}
use Rattle.characters.proofs.Runs.{none_passes}
use Rattle.area.specs.Records.{entry_at}
use Rattle.area.specs.Contents.{contents, entry_format}
use Rattle.area.specs.Lists.{all}
use Rattle.winner.specs.declared.Row.{Row}
use Rattle.winner.specs.Winner.{length_in, greatest}
use Rattle.winner.specs.Top.{good_row, RowFits}
use Rattle.winner.proofs.Winning.{below_greatest}
use Rattle.winner.proofs.Fitting.{length_passes, all_lengths, row_long, row-length, row_good, row_wider, row_narrower, top_low}
use Rattle.input_check.specs.InputCheck.{length_fits}

-- ---- one length

module _ (text : List ℕ) (left position l : ℕ) where
  pub fits_low : length_fits text left position l ≡ true → leb l left ≡ true
  unfolding length_fits
  fits_low e = (and_parts (leb l left) _ e).0

  pub fits_edge : length_fits text left position l ≡ true → is_edge text (position + l) ≡ true
  unfolding length_fits
  fits_edge e = (and_parts (leb l left) (is_edge text (position + l)) e).1

-- ---- by the greatest length

module _ (text : List ℕ) (position rules : ℕ) (row : List ℕ) (top : ℕ) (is : top ≡ greatest (length_in row) rules) where
  abbrev at_edge : ℕ → Bool
  at_edge l = is_edge text (position + l)

  abbrev all_at_edge : Bool
  all_at_edge = all at_edge (contents entry_format row rules)

  length_low : (k : ℕ) → k < rules → entry_at row k ≤ top
  length_low k h = omega (arith, below_greatest (length_in row) rules k h, is)

  -- no character goes on from the position to before the end of the greatest length, which is an edge
  pub edges_clear : position + top ≤ length text → is_edge text (position + top) ≡ true → any (λ j. is_continuation (byte text (position + j))) top ≡ false
      → true ≡ all_at_edge
  edges_clear inside end none = sym (all_lengths at_edge rules row by)
    where
      before_end : (l : ℕ) → l < top → is_edge text (position + l) ≡ true
      before_end l h =
          rw (le-leb (position + l) (length text) (omega arith), none_passes (λ j. is_continuation (byte text (position + j))) top l none h) refl

      by : (k : ℕ) → k < rules → is_edge text (position + entry_at row k) ≡ true
      by k h = ⊎_elim (λ q. ap at_edge q ∙ end) (before_end (entry_at row k)) (eq-or-lt_of_le (length_low k h))

-- ---- a row none of whose lengths is above what is left

module _ (text : List ℕ) (left position rules : ℕ) (row : List ℕ) where
  abbrev test : ℕ → Bool
  test = length_fits text left position

  abbrev at_edges : ℕ → List ℕ → Bool
  at_edges n l = all (λ m. is_edge text (position + m)) (contents entry_format l n)

  pub row_above : good_row (λ l. leb l left) rules row ≡ false → good_row test rules row ≡ false
  row_above = row_narrower test (λ l. leb l left) rules row (λ l. fits_low text left position l)

  pub top_inside : (x : Row) → RowFits (λ l. leb l left) rules row x → position + left ≤ length text → position + x.top ≤ length text
  top_inside x fits h = omega (arith, h, top_low left rules row x fits)

  -- a row that fits has no length above what is left
  pub row_low : (x : Row) → RowFits test rules row x → RowFits (λ l. leb l left) rules row x
  row_low x fits = record {
    good = row_wider test (λ l. leb l left) rules row (λ l. fits_low text left position l) fits.good;
    bytes_are = fits.bytes_are;
    rules_are = fits.rules_are;
    greatest_is = fits.greatest_is;
  }

  module _ (x : Row) (fits : RowFits (λ l. leb l left) rules row x) (t : Bool) (is : t ≡ at_edges x.rules x.bytes.now) where
    edges_are : t ≡ at_edges rules row
    edges_are = is ∙ ap₂ at_edges fits.rules_are fits.bytes_are

    pub row_off_edge : t ≡ false → good_row test rules row ≡ false
    row_off_edge f = by (good_row test rules row) refl
      where
        by : (b : Bool) → good_row test rules row ≡ b → b ≡ false
        by true e =
            let edges : at_edges rules row ≡ true = all_lengths (λ m. is_edge text (position + m)) rules row
            (λ k g. fits_edge text left position (entry_at row k) (row-length test rules row e k g)) in
            absurd (true≢false (sym edges ∙ sym edges_are ∙ f))
        by false e = refl

    pub row_at_edges : t ≡ true → RowFits test rules row x
    unfolding length_fits
    row_at_edges f =
        let low : (k : ℕ) → k < rules → leb (entry_at row k) left ≡ true = row-length (λ l. leb l left) rules row fits.good in
        record {
          good = row_good test rules row (row_long (λ l. leb l left) rules row fits.good)
              (λ k g. rw (low k g) (length_passes (λ m. is_edge text (position + m)) rules row (sym edges_are ∙ f) k g));
          bytes_are = fits.bytes_are;
          rules_are = fits.rules_are;
          greatest_is = fits.greatest_is;
        }
