-- The sheet's records read as the machine's: a rule is live, a row fits and a name has an id by the sheet exactly where they do by the machine.
use mathlib.Core.Path.{◌≡◌, refl, sym, ap, ◌∙◌}
use mathlib.Core.Bool.{Bool, true, false, cond, not, ◌&&◌, ◌||◌}
use mathlib.Core.List.{List, [], ◌∷◌, map}
use mathlib.Core.Logic.{⊎_elim}
use mathlib.Core.Option.{some}
use Prim.Native.Nat.{ℕ, zero, suc, ◌+◌, ◌*◌, ◌-◌, ◌≤◌, ◌<◌}
use native.Mathlib.Omega.{arith}
use borrow.Author.Tests.{eqb-true, ne_eqb, lt-ltb, le-ltb}
use lib.Dec.{eqb, ltb}
use lib.ListN.{length, get_or, get_elem?, take, drop, get_or-map}
use lib.Seq.{drop-cons}
use Rattle.std.proofs.lemmas.Bool.{and_parts}
use Rattle.characters.specs.Walk.{first_of, first}
use Rattle.text.specs.Range.{part, same_bytes}
use Rattle.characters.proofs.Tests.{le_or_lt}
use Rattle.area.specs.declared.State.{State}
use Rattle.area.specs.declared.Rule.{Rule}
use Rattle.area.specs.Records.{entry_at, state_of, nth_state, nth_rule, nth_entry}
use Rattle.area.specs.Contents.{contents, entry_format}
use Rattle.area.proofs.Contents.{list_of_is}
use Rattle.area.specs.Lists.{all}
use Rattle.parse.specs.Parse.{Contents}
use Rattle.name_map.specs.Map.{Entry, nth, find_entry, id_at, id_of}
use Rattle.winner.specs.Winner.{find_in_list, in_list, live}
use Rattle.winner.specs.Top.{good_row}
use Rattle.run_laws.proofs.Stacks.{entry_bytes_lem}
use Rattle.machine.specs.File.{FileState, file_state, file_rule}
use Rattle.machine.specs.Machine.{lengths, fits, has, is_empty, is_exclusive, is_live, id_in}
use Rattle.machine.proofs.Meanings.{lengths-at, lengths_count}

-- ---- live rules

-- of the n entries from i on
first_has : (l : List ℕ) (id n i : ℕ) → i + n ≤ length l → ltb (first_of (λ j. eqb (nth_entry l j) id) i n) (i + n) ≡ has (take n (drop i l)) id
unfolding first_of has
first_has l id zero i h = le-ltb i (i + 0) (omega arith)
first_has l id (suc n) i h =
    let q : i + suc n ≡ suc i + n = omega arith in
    rw (drop-cons l i 0 (omega arith), q) (go (eqb (nth_entry l i) id) (first_has l id n (suc i) (omega arith)))
  where
    go : (t : Bool) → ltb (first_of (λ j. eqb (nth_entry l j) id) (suc i) n) (suc i + n) ≡ has (take n (drop (suc i) l)) id
        → ltb (cond t i (first_of (λ j. eqb (nth_entry l j) id) (suc i) n)) (suc i + n) ≡ t || has (take n (drop (suc i) l)) id
    go true e = lt-ltb i (suc i + n) (omega arith)
    go false e = e

none_empty : (l : List ℕ) (n i : ℕ) → i + n ≤ length l → is_empty (take n (drop i l)) ≡ eqb n 0
unfolding is_empty
none_empty l zero i h = refl
none_empty l (suc n) i h = rw (drop-cons l i 0 (omega arith)) (sym (ne_eqb (suc n) 0 (omega arith)))

marks : (e : ℕ) → e ≤ 1 → not (eqb e 1) ≡ eqb e 0
marks zero h = refl
marks (suc zero) h = refl
marks (suc (suc e)) h = absurd (omega arith)

-- what the contents of an accepted parse have
pub record Sound (c : Contents) : Type 0 where
  pub exclusive : (k : ℕ) → k < length c.states → (nth_state c.states k).exclusive ≤ 1
  pub lists : (k : ℕ) → k < length c.rules → (nth_rule c.rules k).list_from + (nth_rule c.rules k).list_count ≤ length c.lists

module _ (c : Contents) (sound : Sound c) where
  mark_low : (k : ℕ) → (nth_state c.states k).exclusive ≤ 1
  unfolding state_of
  mark_low k = ⊎_elim (λ h. past c.states k h) (λ h. sound.exclusive k h) (le_or_lt (length c.states) k)
    where
      past : (xs : List State) (j : ℕ) → length xs ≤ j → (nth_state xs j).exclusive ≤ 1
      past [] j h = omega arith
      past (x ∷ xs) zero h = absurd (omega arith)
      past (x ∷ xs) (suc j) h = past xs j (omega arith)

  state-at : (k : ℕ) → is_exclusive (map file_state c.states) k ≡ eqb (nth_state c.states k).exclusive 1
  unfolding state_of
  state-at k = ap (λ (x : FileState). x.exclusive) (get_or-map file_state c.states k (state_of (λ _. 0)))

  list_taken : (x : Rule) → part c.lists x.list_from (x.list_from + x.list_count) ≡ take x.list_count (drop x.list_from c.lists)
  unfolding part
  list_taken x =
      let q : x.list_from + x.list_count - x.list_from ≡ x.list_count = omega arith in
      ap (λ (n : ℕ). take n (drop x.list_from c.lists)) q

  pub live_same : (name : Rule → List ℕ) (state : ℕ) (x : Rule) → x.list_from + x.list_count ≤ length c.lists
      → is_live (map file_state c.states) state (file_rule name c x) ≡ live c.states c.lists state x
  unfolding is_live live in_list find_in_list first
  live_same name state x h =
      let q : x.list_from + x.list_count - x.list_from ≡ x.list_count = omega arith in
      let mark = marks (nth_state c.states state).exclusive (mark_low state) in
      let found = first_has c.lists state x.list_count x.list_from h in
      let empty = none_empty c.lists x.list_count x.list_from h in
      rw (list_taken x, state-at state, mark, q, found, empty) refl

-- ---- rows

row_lengths : (n : ℕ) (row : List ℕ) → length row ≡ n * 2 → contents entry_format row n ≡ lengths row
unfolding contents
row_lengths n row h =
    list_of_is (entry_at row) 0 (lengths row) n (sym (lengths_count n row h)) (λ k l. entry_bytes_lem row k ∙ sym (lengths-at row k (omega (arith, h, l))))

pub row_same : (test : ℕ → Bool) (n : ℕ) (row : List ℕ) → good_row test n row ≡ fits test n row
unfolding good_row fits
row_same test n row = go (eqb (length row) (n * 2)) refl
  where
    go : (t : Bool) → eqb (length row) (n * 2) ≡ t → t && all test (contents entry_format row n) ≡ t && all test (lengths row)
    go true e = ap (all test) (row_lengths n row (eqb-true (length row) (n * 2) e))
    go false e = refl

-- ---- ids

-- one entry more in front
first_shift : (test : ℕ → Bool) (n i : ℕ) → first_of test (suc i) n ≡ suc (first_of (λ j. test (suc j)) i n)
unfolding first_of
first_shift test zero i = refl
first_shift test (suc n) i = go (test (suc i)) (first_shift test n (suc i))
  where
    go : (t : Bool) → first_of test (suc (suc i)) n ≡ suc (first_of (λ j. test (suc j)) (suc i) n)
        → cond t (suc i) (first_of test (suc (suc i)) n) ≡ suc (cond t i (first_of (λ j. test (suc j)) (suc i) n))
    go true e = refl
    go false e = e

less_suc : (a b : ℕ) → ltb (suc a) (suc b) ≡ ltb a b
less_suc a b =
    ⊎_elim (λ h. le-ltb (suc a) (suc b) (omega arith) ∙ sym (le-ltb a b h))
    (λ h. lt-ltb (suc a) (suc b) (omega arith) ∙ sym (lt-ltb a b h))
    (le_or_lt b a)

found_same : (es : List Entry) (name : List ℕ) → id_at es (first_of (λ j. same_bytes (nth es j).name name) 0 (length es)) ≡ id_in es name
unfolding id_at id_in first_of
found_same [] name = refl
found_same (e ∷ es) name = go (same_bytes e.name name) (found_same es name)
  where
    go : (t : Bool) → id_at es (first_of (λ j. same_bytes (nth es j).name name) 0 (length es)) ≡ id_in es name
        → id_at (e ∷ es) (cond t 0 (first_of (λ j. same_bytes (nth (e ∷ es) j).name name) 1 (length es))) ≡ cond t (some e.id) (id_in es name)
    go true q = rw (lt-ltb 0 (suc (length es)) (omega arith)) refl
    go false q =
        let shifted = first_shift (λ j. same_bytes (nth (e ∷ es) j).name name) (length es) 0 in
        rw (shifted, less_suc (first_of (λ j. same_bytes (nth es j).name name) 0 (length es)) (length es)) q

pub id_same : (es : List Entry) (name : List ℕ) → id_of es name ≡ id_in es name
unfolding id_of find_entry first
id_same es name =
    let z : length es - 0 ≡ length es = omega arith in
    ap (λ (n : ℕ). id_at es (first_of (λ j. same_bytes (nth es j).name name) 0 n)) z ∙ found_same es name

pub fits_size : (test : ℕ → Bool) (n : ℕ) (row : List ℕ) → fits test n row ≡ true → length row ≡ n * 2
unfolding fits
fits_size test n row e = eqb-true (length row) (n * 2) (and_parts (eqb (length row) (n * 2)) _ e).0

pub map_at : {A B : Type 0} (f : A → B) (xs : List A) (k : ℕ) (d : A) → k < length xs → get_elem? (map f xs) k ≡ some (f (get_or xs k d))
map_at f [] k d h = absurd (omega arith)
map_at f (x ∷ xs) zero d h = refl
map_at f (x ∷ xs) (suc k) d h = map_at f xs k d (omega arith)
