-- A map as a list of names and ids: entry j is what record j of the entries says. Then the entry that a search finds, and the map check.
use Rattle.std.proofs.Common.{◌≡◌, ℕ, zero, suc, ◌+◌, ◌*◌, ◌%◌, ◌<◌, ◌≤◌, Bool, true, false, not, ◌&&◌, cond, eqb, leb, ltb, ◌⊎◌, List, [], ◌∷◌, ◌++◌, map, length, get_or, take, drop, MatchOption, Option, Some, None}
use Rattle.std.proofs.Common.{sym, refl, ap, ap₂, ◌∙◌, inl, inr, true≢false, eq-or-lt_of_le, arith, eq-eqb, ne_eqb, eqb-true, le-leb}
use Rattle.std.specs.Option.{option_eq}
use Rattle.std.specs.List.{AllWithin, HoldsAt}
use Rattle.std.specs.Simd.{first_chunks}
use Rattle.std.proofs.lemmas.List.{get_or_default, map-append}
use borrow.Author.Tests.{lt-leb, lt-ltb, le-ltb, ltb-true, ltb-false}
use lib.ListN.{length-map, get_or-map}
use Rattle.characters.specs.Walk.{first}
use Rattle.text.specs.Range.{part, same_bytes}
use Rattle.characters.proofs.Tests.{le_or_lt}
use Rattle.text.proofs.Ranges.{same_self}
use Rattle.characters.proofs.Firsts.{first_passes, first_low, first_only}
use Rattle.characters.proofs.Walks.{first_over, first_from}
use Rattle.area.specs.Bytes.{field_at, field_from}
use Rattle.area.specs.Contents.{contents}
use Rattle.area.specs.Lists.{all, all_below}
use Rattle.area.proofs.All.{all_one_more, below_at, below_same}
use Rattle.area.proofs.Contents.{list_of_is, contents_count}
use Rattle.name_map.specs.declared.MapEntry.{MapEntry}
use Rattle.name_map.proofs.Chunks.{chunk_at, chunk_byte}
use Rattle.name_map.specs.Map.{map_width, most_entries, map_entry_of, map_entry_at, map_format, read_each, entry_count, Entry, entry, entry_of, entries_of, nth, find_entry, found_entry, option_of, id_at, distinct, name_inside, map_check}

-- ---- an answer of the code

module _ (es : List Entry) (name : List ℕ) where
  pub found_some : (j : ℕ) → j < length es → j ≡ find_entry es name → Some j ≡ found_entry es name
  unfolding found_entry
  found_some j h e = rw (← e, lt-ltb j (length es) h)

  pub found_none : length es ≤ find_entry es name → None ≡ found_entry es name
  unfolding found_entry
  found_none h = rw (le-ltb (find_entry es name) (length es) h)

  -- where an entry was found, it is the first of the name, and otherwise no entry has it
  pub some_found : (j : ℕ) → Some j ≡ found_entry es name → (j < length es) × (j ≡ find_entry es name)
  unfolding found_entry
  some_found j e = by (ltb (find_entry es name) (length es)) refl e
    where
      by : (t : Bool) → ltb (find_entry es name) (length es) ≡ t → Some j ≡ cond t (Some (find_entry es name)) None
          → (j < length es) × (j ≡ find_entry es name)
      by true q e =
          let same : j ≡ find_entry es name = cc in
          (omega (arith, same, ltb-true (find_entry es name) (length es) q), same)
      by false q e = cc

  -- whether it is entry j
  pub found_is : (j : ℕ) → j < length es → option_eq eqb (found_entry es name) (Some j) ≡ eqb (find_entry es name) j
  unfolding found_entry
  found_is j h = by (ltb (find_entry es name) (length es)) refl
    where
      by : (t : Bool) → ltb (find_entry es name) (length es) ≡ t
          → option_eq eqb (cond t (Some (find_entry es name)) None) (Some j) ≡ eqb (find_entry es name) j
      by true q = refl
      by false q = sym (ne_eqb (find_entry es name) j (λ z. omega (arith, h, z, ltb-false (find_entry es name) (length es) q)))

  pub none_found : None ≡ found_entry es name → length es ≤ find_entry es name
  unfolding found_entry
  none_found e = by (ltb (find_entry es name) (length es)) refl e
    where
      by : (t : Bool) → ltb (find_entry es name) (length es) ≡ t → None ≡ cond t (Some (find_entry es name)) None → length es ≤ find_entry es name
      by true q e = absurd (cc)
      by false q e = ltb-false (find_entry es name) (length es) q

-- ---- the entries as chunks of six bytes

chunk_field : (l : List ℕ) (i j : ℕ) → j + 1 < map_width → field_at (take map_width (drop i l)) j ≡ field_at l (i + j)
unfolding field_at
chunk_field l i j h =
    let behind : i + (j + 1) ≡ i + j + 1 = omega arith in
    ap₂ (λ (a b : ℕ). a + b * 256) (chunk_byte map_width l i j (omega arith)) (chunk_byte map_width l i (j + 1) h ∙ ap (λ (k : ℕ). get_or l k 0) behind)

chunk_entry : (l : List ℕ) (k : ℕ) → map_entry_at (take map_width (drop (k * map_width) l)) 0 ≡ map_entry_at l k
unfolding map_entry_at map_entry_of field_from
chunk_entry l k =
    let field : (j : ℕ) → j + 1 < map_width → field_at (take map_width (drop (k * map_width) l)) j ≡ field_at l (k * map_width + j) =
    chunk_field l (k * map_width) in
    λ i. record { name_from = field 0 (omega arith) i; name_length = field 2 (omega arith) i; id = field 4 (omega arith) i }

module _ (chunks : List (List ℕ)) where
  pub read-count : length (read_each chunks) ≡ length chunks
  read-count = length-map chunks (λ bytes. map_entry_at bytes 0)

  blank_bytes : map_format.blank ≡ map_entry_at [] 0
  unfolding map_entry_at map_entry_of field_from field_at
  blank_bytes = refl

  read-at : (j : ℕ) → get_or (read_each chunks) j map_format.blank ≡ map_entry_at (get_or chunks j []) 0
  read-at j = rw (blank_bytes) (get_or-map (λ bytes. map_entry_at bytes 0) chunks j [])

  -- entry j is that of chunk j
  pub entry_read : (j : ℕ) → j < length chunks → (x : MapEntry) (bytes : List ℕ) → x ≡ map_entry_at bytes 0 → (d : List ℕ) → bytes ≡ get_or chunks j d
      → x ≡ get_or (read_each chunks) j map_format.blank
  entry_read j h x bytes e d is =
      e ∙ ap (λ (b : List ℕ). map_entry_at b 0) (is ∙ get_or_default chunks j d [] h) ∙ sym (read-at j)

-- the entries of a map's bytes are those of their chunks
pub chunks_read : (l : List ℕ) (n : ℕ) (chunks : List (List ℕ)) → chunks ≡ first_chunks map_width n l → length chunks ≡ n
    → read_each chunks ≡ contents map_format l n
unfolding contents
chunks_read l n chunks is long =
    sym (list_of_is (map_entry_at l) map_format.blank (read_each chunks) n (sym (read-count chunks ∙ long))
    (λ k h. sym (read-at chunks k ∙ ap (λ (cs : List (List ℕ)). map_entry_at (get_or cs k []) 0) is ∙ ap (λ (b : List ℕ). map_entry_at b 0) (chunk_at map_width n k l h)
    ∙ chunk_entry l k)))

-- whether the names lie inside: of no entries, and of one more
pub inside_none : (n : ℕ) → true ≡ all (name_inside n) (read_each [])
unfolding all
inside_none n = refl

pub inside_next : (n : ℕ) (chunks : List (List ℕ)) (bytes : List ℕ) (t u : Bool) → t ≡ all (name_inside n) (read_each chunks)
    → u ≡ t && name_inside n (map_entry_at bytes 0) → u ≡ all (name_inside n) (read_each (chunks ++ (bytes ∷ [])))
inside_next n chunks bytes t u before e =
    e ∙ ap (λ (b : Bool). b && name_inside n (map_entry_at bytes 0)) before
    ∙ sym (all_one_more (name_inside n) (read_each chunks) (map_entry_at bytes 0))
    ∙ ap (all (name_inside n)) (sym (map-append (λ bytes. map_entry_at bytes 0) chunks (bytes ∷ [])))

-- ---- the entries

pub entries_count : (names entries : List ℕ) → length (entries_of names entries) ≡ entry_count entries
unfolding entries_of
entries_count names entries =
    length-map (contents map_format entries (entry_count entries)) (entry_of names) ∙ contents_count map_format entries (entry_count entries)

module _ (names : List ℕ) (xs : List MapEntry) where
  abbrev es : List Entry
  es = map (entry_of names) xs

  named_count : length (map (entry_of names) xs) ≡ length xs
  named_count = length-map xs (entry_of names)

  blank_entry : entry [] 0 ≡ entry_of names map_format.blank
  unfolding entry_of map_entry_of part
  blank_entry = refl

  entry_at : (j : ℕ) → nth es j ≡ entry_of names (get_or xs j map_format.blank)
  entry_at j = rw (blank_entry) (get_or-map (entry_of names) xs j map_format.blank)

  module _ (j : ℕ) (x : MapEntry) (is : x ≡ get_or xs j map_format.blank) where
    entry_is : nth es j ≡ entry_of names x
    entry_is = entry_at j ∙ ap (entry_of names) (sym is)

    -- its id
    pub id_read : j < length xs → option_of (Some x.id) ≡ id_at (map (entry_of names) xs) j
    unfolding id_at entry_of
    id_read h =
        let id : x.id ≡ (nth es j).id = sym (ap (λ (y : Entry). y.id) entry_is) in
        rw (lt-ltb j (length es) (omega (arith, h, named_count)), id)

    -- its name
    pub name-at : (entry_of names x).name ≡ (nth (map (entry_of names) xs) j).name
    name-at = sym (ap (λ (y : Entry). y.name) entry_is)

    pub name_compared : (name : List ℕ) (r : Bool) → r ≡ same_bytes (entry_of names x).name name → r ≡ same_bytes (nth (map (entry_of names) xs) j).name name
    name_compared name r e = e ∙ ap (λ (l : List ℕ). same_bytes l name) name-at

    -- whether the first entry of its name is entry j
    pub first_compared : j < length xs → (name : List ℕ) → name ≡ (entry_of names x).name → (o : Option ℕ) → o ≡ found_entry (map (entry_of names) xs) name
        → option_eq eqb o (Some j) ≡ eqb (find_entry (map (entry_of names) xs) (nth (map (entry_of names) xs) j).name) j
    first_compared h name own o q =
        ap (λ (y : Option ℕ). option_eq eqb y (Some j)) (q ∙ ap (found_entry es) (own ∙ name-at))
        ∙ found_is es (nth es j).name j (omega (arith, h, named_count))

-- a map has as many entries as it has chunks
pub map_count : (names : List ℕ) (chunks : List (List ℕ)) → length (map (entry_of names) (read_each chunks)) ≡ length chunks
map_count names chunks = named_count names (read_each chunks) ∙ read-count chunks

-- ---- the first entry of a name

module _ (names : List ℕ) (chunks : List (List ℕ)) (name : List ℕ) where
  -- whether the entry of a chunk has the name
  abbrev pub chunk_has : List ℕ → Bool
  chunk_has bytes = same_bytes (entry_of names (map_entry_at bytes 0)).name name

  -- the map that is lent
  abbrev lent : List Entry
  lent = map (entry_of names) (read_each chunks)

  abbrev has : ℕ → Bool
  has j = same_bytes (nth lent j).name name

  has-at : (j : ℕ) → has j ≡ chunk_has (get_or chunks j [])
  has-at j = sym (name_compared names (read_each chunks) j (map_entry_at (get_or chunks j []) 0) (sym (read-at chunks j)) name _ refl)

  -- it is that of the first chunk that has it
  pub first_chunk : (r : Option ℕ)
      → MatchOption r (AllWithin (λ b. chunk_has b ≡ false) chunks 0 (length chunks))
      (λ j. (j < length chunks) × HoldsAt (λ b. chunk_has b ≡ true) chunks j × AllWithin (λ b. chunk_has b ≡ false) chunks 0 j)
      → r ≡ found_entry (map (entry_of names) (read_each chunks)) name
  unfolding find_entry
  first_chunk (Some j) q =
      let inside : j < length lent = omega (arith, q.0, map_count names chunks) in
      found_some lent name j inside (sym (first_only has 0 j (length lent) (omega arith) inside (has-at j ∙ q.1 []) (λ k a b. has-at k ∙ q.2 k [] a b)))
  first_chunk None q =
      let past = first_over has 0 (length lent) (length lent) (omega arith) (omega arith) (λ k a b. has-at k ∙ q k [] a (omega (arith, b, map_count names chunks))) in
      found_none lent name (omega (arith, past, first_from has (length lent) (length lent)))

-- ---- the map check

-- none of the first k positions passes exactly if the first that passes is not before k
below_first : (test : ℕ → Bool) (n k : ℕ) → k ≤ n → all_below (λ i. not (test i)) k ≡ leb k (first test 0 n)
unfolding all_below
below_first test n zero h = sym (le-leb 0 (first test 0 n) (omega arith))
below_first test n (suc k) h = rw (below_first test n k (omega arith)) (go (test k) refl (le_or_lt k (first test 0 n)))
  where
    go : (t : Bool) → test k ≡ t → (k ≤ first test 0 n) ⊎ (first test 0 n < k) → leb k (first test 0 n) && not t ≡ leb (suc k) (first test 0 n)
    go t e (inr l) = rw (lt-leb k (first test 0 n) l, lt-leb (suc k) (first test 0 n) (omega arith)) refl
    go true e (inl l) = rw (le-leb k (first test 0 n) l, lt-leb (suc k) (first test 0 n) (omega (arith, first_low test 0 n (omega arith) k (omega arith) e))) refl
    go false e (inl l) = rw (le-leb k (first test 0 n) l, le-leb (suc k) (first test 0 n) (past (le_or_lt n (first test 0 n)))) refl
      where
        past : (n ≤ first test 0 n) ⊎ (first test 0 n < n) → suc k ≤ first test 0 n
        past (inl g) = omega arith
        past (inr g) = not_here (eq-or-lt_of_le l)
          where
            not_here : (k ≡ first test 0 n) ⊎ (k < first test 0 n) → suc k ≤ first test 0 n
            not_here (inl q) = absurd (true≢false (sym (first_passes test 0 n (omega arith) g) ∙ sym (ap test q) ∙ e))
            not_here (inr q) = q

-- no earlier entry has the name of entry j exactly if it is the first of its name
first_of_name : (es : List Entry) (j : ℕ) → j < length es → all_below (λ i. not (same_bytes (nth es i).name (nth es j).name)) j ≡ eqb (find_entry es (nth es j).name) j
unfolding find_entry
first_of_name es j h =
    let test : ℕ → Bool = λ i. same_bytes (nth es i).name (nth es j).name in
    below_first test (length es) j (omega arith) ∙ at_most j (first test 0 (length es)) (first_low test 0 (length es) (omega arith) j (omega arith) (same_self (nth es j).name))
  where
    at_most : (a b : ℕ) → b ≤ a → leb a b ≡ eqb b a
    at_most a b l = by (eq-or-lt_of_le l)
      where
        by : (b ≡ a) ⊎ (b < a) → leb a b ≡ eqb b a
        by (inl q) = le-leb a b (omega (arith, q)) ∙ sym (eq-eqb b a q)
        by (inr q) = lt-leb a b q ∙ sym (ne_eqb b a (λ r. omega (arith, q, r)))

-- so the names are distinct exactly if each entry is the first of its name
pub distinct_firsts : (es : List Entry) → distinct es ≡ all_below (λ j. eqb (find_entry es (nth es j).name) j) (length es)
unfolding distinct
distinct_firsts es = below_same _ _ (length es) (first_of_name es)

pub distinct_read : (es : List Entry) (k : ℕ) (good : Bool) → length es ≤ k → k ≤ length es
    → good ≡ all_below (λ j. eqb (find_entry es (nth es j).name) j) k → good ≡ distinct es
distinct_read es k good h g e =
    let q : k ≡ length es = omega arith in
    e ∙ ap (all_below (λ j. eqb (find_entry es (nth es j).name) j)) q ∙ sym (distinct_firsts es)

module _ (names entries : List ℕ) where
  pub map_ragged : (length entries % map_width ≡ 0 → ⊥) → false ≡ map_check names entries
  unfolding map_check
  map_ragged h = rw (ne_eqb (length entries % map_width) 0 h)

  module _ (h : length entries % map_width ≡ 0) where
    pub map_large : most_entries < entry_count entries → false ≡ map_check names entries
    unfolding map_check
    map_large g = rw (eq-eqb (length entries % map_width) 0 h, lt-leb (entry_count entries) most_entries g)

    module _ (g : entry_count entries ≤ most_entries) (xs : List MapEntry) (read : xs ≡ contents map_format entries (entry_count entries)) (t : Bool)
        (is : t ≡ all (name_inside (length names)) xs) where
      inside : t ≡ all (name_inside (length names)) (contents map_format entries (entry_count entries))
      inside = is ∙ ap (all (name_inside (length names))) read

      pub map_outside : t ≡ false → false ≡ map_check names entries
      unfolding map_check
      map_outside q = rw (eq-eqb (length entries % map_width) 0 h, le-leb (entry_count entries) most_entries g, ← inside, q)

      pub map_is : map (entry_of names) xs ≡ entries_of names entries
      unfolding entries_of
      map_is = ap (map (entry_of names)) read

      pub map_inside : (r : Bool) → t ≡ true → r ≡ distinct (map (entry_of names) xs) → r ≡ map_check names entries
      unfolding map_check
      map_inside r q z =
          rw (eq-eqb (length entries % map_width) 0 h, le-leb (entry_count entries) most_entries g, ← inside, q) (z ∙ ap distinct map_is)

-- ---- names that are distinct

-- each entry is the first of its name
pub entry_first : (es : List Entry) → distinct es ≡ true → (j : ℕ) → j < length es → find_entry es (nth es j).name ≡ j
entry_first es different j h =
    eqb-true (find_entry es (nth es j).name) j
    (below_at (λ i. eqb (find_entry es (nth es i).name) i) (length es) j (sym (distinct_firsts es) ∙ different) h)
