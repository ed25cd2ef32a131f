-- The numbers that an iterator gives are written one behind the other: a loop has written those that it has taken. A filter over a range gives the
-- numbers that pass its test.
use Rattle.std.specs.Prelude.{Option, Some, None}
use Rattle.std.specs.Fn.{CalledAt}
use Rattle.std.specs.List.{filter, range_with_len, enumerate_from}
use Rattle.std.specs.Iterator.{Yields, AlwaysYields}
use Rattle.std.specs.Iterator.Adapters.{enumerate_steps, filter_source, filter_callee, filter_steps}
use Rattle.std.specs.declared.iter.Enumerate.{Enumerate}
use Rattle.std.specs.declared.iter.Filter.{Filter}
use Rattle.std.specs.declared.ops.Range.{Range}
use Rattle.std.proofs.Common.{◌≡◌, ℕ, zero, suc, ◌+◌, ◌*◌, ◌≤◌, ◌<◌, Bool, cond, List, [], ◌∷◌, ◌++◌, map, length, get_or, refl, sym, ap, ap₂, subst, ◌∙◌, add-one, arith}
use Rattle.std.proofs.iter.Yields.{nat_range_steps}
use Rattle.std.proofs.lemmas.Iterator.{YieldsList, YieldsList-from_range}
use Rattle.std.proofs.lemmas.Iterator.Consumers.{YieldsList-at, YieldsList-from_filter, YieldsList-turn, YieldsList-end}
use Rattle.std.proofs.lemmas.List.{map-append}
use Rattle.std.proofs.lemmas.List.FromFn.{filter_of_map_range_with_len_more, length-enumerate_from, get_or-enumerate_from}
use denote.Param.Members.{Mut}
use denote.Ref.{Bor}
use native.Mathlib.Nat.{sub-zero}
use lib.ListN.{length-map}
use lib.Seq.{sets}
use Rattle.area.specs.Bytes.{bytes, pad, zeros}
use Rattle.area.specs.Records.{entry_width, entry_bytes}
use Rattle.area.specs.Contents.{entry_format, laid}
use Rattle.area.specs.Lists.{numbers}
use Rattle.area.proofs.Lists.{sets_pad}
use Rattle.area.proofs.Fields.{bytes-append, bytes_single, bytes-length}
use Rattle.area.proofs.Records.{entry_wide}

-- ---- written one behind the other

pub laid_none : (cap : ℕ) (l : List ℕ) → l ≡ zeros cap → l ≡ laid entry_format cap []
unfolding bytes pad
laid_none cap l e = e ∙ ap zeros (sym (sub-zero cap))

-- one number more, behind those that an area of cap bytes has
laid_push : (cap : ℕ) (xs : List ℕ) (k : ℕ) → (length xs + 1) * entry_width ≤ cap
    → sets (laid entry_format cap xs) (length xs * entry_width) (entry_bytes k) ≡ laid entry_format cap (xs ++ (k ∷ []))
laid_push cap xs k room =
    ap (λ (j : ℕ). sets (laid entry_format cap xs) j (entry_bytes k)) (sym size)
    ∙ sets_pad cap (bytes entry_bytes xs) (entry_bytes k) (omega (arith, size, entry_wide k, room))
    ∙ ap (pad cap) (ap (λ (u : List ℕ). bytes entry_bytes xs ++ u) (sym (bytes_single entry_bytes k)) ∙ sym (bytes-append entry_bytes xs (k ∷ [])))
  where
    size : length (bytes entry_bytes xs) ≡ length xs * entry_width
    size = bytes-length entry_bytes entry_width entry_wide xs

-- the numbers that came with their places
abbrev pub numbers_of_pairs : List (ℕ × ℕ) → List ℕ
numbers_of_pairs ps = map (λ (p : ℕ × ℕ). p.1) ps

module _ (cap : ℕ) (ps : List (ℕ × ℕ)) (i k : ℕ) (at : i ≡ length ps) (room : (length ps + 1) * entry_width ≤ cap) where
  long : length (numbers_of_pairs ps) ≡ length ps
  long = length-map ps (λ (p : ℕ × ℕ). p.1)

  pub number_written : (l e : List ℕ) → l ≡ laid entry_format cap (numbers_of_pairs ps) → e ≡ sets l (i * entry_width) (entry_bytes k)
      → e ≡ laid entry_format cap (numbers_of_pairs (ps ++ ((i, k) ∷ [])))
  number_written l e is q =
      q ∙ ap₂ (λ (u : List ℕ) (j : ℕ). sets u (j * entry_width) (entry_bytes k)) is (at ∙ sym long)
      ∙ laid_push cap (numbers_of_pairs ps) k (omega (arith, long, room))
      ∙ ap (laid entry_format cap) (sym (map-append (λ (p : ℕ × ℕ). p.1) ps ((i, k) ∷ [])))

pairs_numbers : (n : ℕ) (ns : List ℕ) → numbers_of_pairs (enumerate_from n ns) ≡ ns
pairs_numbers n [] = refl
pairs_numbers n (x ∷ ns) = ap (λ (ys : List ℕ). x ∷ ys) (pairs_numbers (n + 1) ns)

map_same : {A : Type 0} (xs : List A) → map (λ (x : A). x) xs ≡ xs
map_same [] = refl
map_same (x ∷ xs) = ap (λ ys. x ∷ ys) (map_same xs)

-- a loop over an iterator that gives the numbers ns, each with its place: it has taken ps
module _ {S : Type 0} (steps : S → Option ℕ → S → Type 0) (s : Enumerate S) (ns : List ℕ)
    (all : YieldsList (enumerate_steps steps) (λ p. (p.0, p.1)) s (enumerate_from 0 ns)) (ps : List (ℕ × ℕ)) (t : Enumerate S)
    (so_far : Yields (enumerate_steps steps) s ps t) (r : Option (ℕ × ℕ)) (u : Enumerate S) (turn : enumerate_steps steps t r u) where
  pub next_taken : (n k : ℕ) → r ≡ Some (n, k) → (n ≡ length ps) × (length ps + 1 ≤ length ns)
  next_taken n k e =
      let h = YieldsList-turn all ps t so_far r u (n, k) e turn in
      let inside : length ps < length ns = omega (arith, h.0, length-enumerate_from 0 ns) in
      let same : (n, k) ≡ (0 + length ps, get_or ns (length ps) k) = h.1 ∙ get_or-enumerate_from 0 ns (length ps) (n, k) inside in
      (omega (arith, ap (λ (p : ℕ × ℕ). p.0) same), omega (arith, inside))

  pub all_taken : r ≡ None → numbers_of_pairs ps ≡ ns
  all_taken e =
      let h = YieldsList-end all ps t so_far r u e turn in
      ap numbers_of_pairs (sym (map_same ps) ∙ h.0) ∙ pairs_numbers 0 ns

-- ---- those that a test passes

-- what a filter over the numbers below n gives
filter_numbers : (test : ℕ → Bool) (n : ℕ) → filter test (range_with_len 0 n) ≡ numbers test n
unfolding numbers
filter_numbers test zero = refl
filter_numbers test (suc n) =
    ap (filter test) (sym (map_same (range_with_len 0 (suc n))) ∙ ap (λ (m : ℕ). map (λ (x : ℕ). x) (range_with_len 0 m)) (sym (add-one n)))
    ∙ filter_of_map_range_with_len_more test (λ x. x) 0 n n (omega arith)
    ∙ ap (λ (xs : List ℕ). xs ++ cond (test n) (n ∷ []) []) (ap (filter test) (map_same (range_with_len 0 n)) ∙ filter_numbers test n)

-- those that a filter gives, by a closure that answers as the test does
pub filter_gives : {F : Type 0} (g : Mut F (Bor ℕ × Unit {0}) Bool) (test : ℕ → Bool) (n : ℕ) {s : Filter (Range ℕ) F} {f : F}
    → filter_source s ≡ record { start = 0; end = n } → filter_callee s ≡ f
    → ((x : ℕ) (b : Bool) (q : F) → CalledAt g f x b q → (q ≡ f) × (b ≡ test x))
    → AlwaysYields (filter_steps nat_range_steps g) (λ x. x) s (numbers test n)
filter_gives g test n {s} at callee tells =
    subst (λ (ns : List ℕ). AlwaysYields (filter_steps nat_range_steps g) (λ x. x) s ns) (filter_numbers test n)
    (YieldsList-from_filter g test (YieldsList-at at (YieldsList-from_range 0 n n refl (omega arith))) callee tells).runs
