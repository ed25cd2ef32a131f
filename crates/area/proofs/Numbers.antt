-- Laws of `numbers`: a loop has found those below where it stands, to count them or to write them. There are never more of them than in the end,
-- so what fits in the end fits on the way. What is asked of the records of an area is asked of the list that it holds.
use mathlib.Core.Path.{◌≡◌, refl, sym, ap, ap₂, ◌∙◌}
use mathlib.Core.Bool.{Bool, true, false, cond}
use mathlib.Core.List.{List, [], ◌∷◌, ◌++◌, append-nil}
use Prim.Native.Nat.{ℕ, zero, suc, ◌+◌, ◌*◌, ◌-◌, ◌≤◌, ◌<◌}
use native.Mathlib.Nat.{sub-zero}
use native.Mathlib.Numerals.{add-one}
use native.Mathlib.Omega.{arith}
use lib.ListN.{length, get_or, length-append}
use lib.Seq.{sets}
use Rattle.area.specs.Bytes.{bytes, pad, zeros}
use Rattle.area.specs.Records.{entry_width, entry_bytes}
use Rattle.area.specs.Contents.{Format, contents, entry_format, laid}
use Rattle.area.specs.Lists.{numbers}
use Rattle.area.proofs.Lists.{sets_pad}
use Rattle.area.proofs.Fields.{bytes-append, bytes_single, bytes-length}
use Rattle.area.proofs.Records.{entry_wide}
use Rattle.area.proofs.Contents.{contents_read}

-- ---- counted

module _ (test : ℕ → Bool) where
  pub numbers_yes : (k : ℕ) → test k ≡ true → numbers test (k + 1) ≡ numbers test k ++ (k ∷ [])
  unfolding numbers
  numbers_yes k t = ap (numbers test) (add-one k) ∙ ap (λ (b : Bool). numbers test k ++ cond b (k ∷ []) []) t

  pub numbers_no : (k : ℕ) → test k ≡ false → numbers test (k + 1) ≡ numbers test k
  unfolding numbers
  numbers_no k t = ap (numbers test) (add-one k) ∙ ap (λ (b : Bool). numbers test k ++ cond b (k ∷ []) []) t ∙ append-nil (numbers test k)

  pub count_none : 0 ≡ length (numbers test 0)
  unfolding numbers
  count_none = refl

  pub count_yes : (k n : ℕ) → n ≡ length (numbers test k) → test k ≡ true → n + 1 ≡ length (numbers test (k + 1))
  count_yes k n e t = omega (arith, ap length (numbers_yes k t), length-append (numbers test k) (k ∷ []))

  pub count_no : (k n : ℕ) → n ≡ length (numbers test k) → test k ≡ false → n ≡ length (numbers test (k + 1))
  count_no k n e t = e ∙ ap length (sym (numbers_no k t))

  -- there are not fewer later on
  later : (k m : ℕ) → length (numbers test k) ≤ length (numbers test (m + k))
  unfolding numbers
  later k zero =
      let q : 0 + k ≡ k = omega arith in
      omega (arith, ap (λ (j : ℕ). length (numbers test j)) q)
  later k (suc m) =
      let q : suc m + k ≡ suc (m + k) = omega arith in
      omega (arith, later k m, ap (λ (j : ℕ). length (numbers test j)) q, length-append (numbers test (m + k)) (cond (test (m + k)) ((m + k) ∷ []) []))

  pub numbers_grow : (k n : ℕ) → k ≤ n → length (numbers test k) ≤ length (numbers test n)
  numbers_grow k n h =
      let q : n ≡ n - k + k = omega arith in
      omega (arith, later k (n - k), ap (λ (j : ℕ). length (numbers test j)) q)

  -- there are not more than were asked
  pub numbers_few : (n : ℕ) → length (numbers test n) ≤ n
  unfolding numbers
  numbers_few zero = omega arith
  numbers_few (suc n) = omega (arith, length-append (numbers test n) (cond (test n) (n ∷ []) []), one (test n), numbers_few n)
    where
      one : (t : Bool) → length (cond t (n ∷ []) []) ≤ 1
      one true = omega arith
      one false = omega arith

-- tests that agree pass the same numbers
pub numbers_same : (f g : ℕ → Bool) (n : ℕ) → ((k : ℕ) → k < n → f k ≡ g k) → numbers f n ≡ numbers g n
unfolding numbers
numbers_same f g zero e = refl
numbers_same f g (suc n) e =
    ap₂ (λ (ns : List ℕ) (b : Bool). ns ++ cond b (n ∷ []) []) (numbers_same f g n (λ k h. e k (omega arith))) (e n (omega arith))

-- the count of all of them
pub counted : (test : ℕ → Bool) (n k m : ℕ) (ns : List ℕ) → numbers test m ≡ ns → m ≤ k → k ≤ m → n ≡ length (numbers test k) → n ≡ length ns
counted test n k m ns is h g e =
    let q : k ≡ m = omega arith in
    e ∙ ap (λ (j : ℕ). length (numbers test j)) q ∙ ap length is

-- ---- written to an area, those below k so far

pub record Written (test : ℕ → Bool) (cap : ℕ) (l : List ℕ) (n k : ℕ) : Type 0 where
  pub count : n ≡ length (numbers test k)
  pub is : l ≡ laid entry_format cap (numbers test k)

module _ (test : ℕ → Bool) (cap : ℕ) where
  pub written_none : (l : List ℕ) → l ≡ zeros cap → Written test cap l 0 0
  unfolding numbers bytes pad
  written_none l e = record { count = refl; is = e ∙ ap zeros (sym (sub-zero cap)) }

  module _ {l : List ℕ} {n k : ℕ} (w : Written test cap l n k) where
    pub written_no : test k ≡ false → Written test cap l n (k + 1)
    written_no t = record { count = count_no test k n w.count t; is = w.is ∙ ap (laid entry_format cap) (sym (numbers_no test k t)) }

    module _ (m : ℕ) (h : k < m) (room : length (numbers test m) * entry_width ≤ cap) (t : test k ≡ true) where
      pub written_fits : n * entry_width + entry_width ≤ cap
      written_fits = omega (arith, numbers_grow test (k + 1) m (omega arith), count_yes test k n w.count t)

      pub written_yes : (e : List ℕ) → e ≡ sets l (n * entry_width) (entry_bytes k) → Written test cap e (n + 1) (k + 1)
      written_yes e q = record {
        count = count_yes test k n w.count t;
        is = q
            ∙ ap₂ (λ (u : List ℕ) (j : ℕ). sets u j (entry_bytes k)) w.is (ap (λ (j : ℕ). j * entry_width) w.count ∙ sym size)
            ∙ sets_pad cap (bytes entry_bytes (numbers test k)) (entry_bytes k) (omega (arith, size, entry_wide k, written_fits, w.count))
            ∙ ap (pad cap) (ap (λ (u : List ℕ). bytes entry_bytes (numbers test k) ++ u) (sym (bytes_single entry_bytes k))
            ∙ sym (bytes-append entry_bytes (numbers test k) (k ∷ [])))
            ∙ ap (laid entry_format cap) (sym (numbers_yes test k t));
      }
        where
          size : length (bytes entry_bytes (numbers test k)) ≡ length (numbers test k) * entry_width
          size = bytes-length entry_bytes entry_width entry_wide (numbers test k)

    pub written_all : (m : ℕ) → m ≤ k → k ≤ m → l ≡ laid entry_format cap (numbers test m)
    written_all m h g = w.is ∙ ap (λ (j : ℕ). laid entry_format cap (numbers test j)) (omega arith)

-- ---- the records of an area, by a test: docs/PORT.md names these laws

module _ {A : Type 0} (F : Format A) (test : A → Bool) (l : List ℕ) (count : ℕ) where
  -- record k passes
  abbrev pub passes_at : ℕ → Bool
  passes_at k = test (get_or (contents F l count) k F.blank)

  module _ (k : ℕ) (h : k < count) (x : A) (is : x ≡ F.read l k) (r : Bool) (says : r ≡ test x) where
    record_asked : passes_at k ≡ r
    record_asked = ap test (contents_read F l count k h ∙ sym is) ∙ sym says

    pub record_fails : r ≡ false → passes_at k ≡ false
    record_fails e = record_asked ∙ e

    pub record_passes : r ≡ true → passes_at k ≡ true
    record_passes e = record_asked ∙ e
