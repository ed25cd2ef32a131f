-- The home of a name: a fold adds the numbers of a list one after the other, and each stands in the name at a known place. The home of a range of a
-- text is that of its bytes as a list, whatever stands around them.
use Rattle.std.proofs.Common.{◌≡◌, ℕ, zero, suc, ◌<◌, ◌≤◌, [], ◌∷◌, ◌++◌, take, drop, get_or, ◌+◌, ◌*◌, ◌/◌, ◌%◌, ◌^◌, ◌-◌, min, length-drop, length-take, List, length, sym, refl, ap, ◌∙◌, ap₂, add-one, arith}
use Rattle.std.specs.List.{fold}
use Rattle.std.specs.Int.{from_le_bytes, w32}
use Rattle.std.specs.Simd.{first_chunks}
use Rattle.std.proofs.lemmas.List.{get_or-take, get_or-drop}
use Rattle.std.proofs.lemmas.List.Sums.{fold-append, fold_more}
use lib.Seq.{take-length}
use Rattle.characters.specs.Whitespace.{byte}
use Rattle.text.specs.Range.{part}
use Rattle.area.specs.Bytes.{field_at}
use Rattle.name_map.specs.declared.home.Checksum.{Checksum}
use Rattle.name_map.proofs.Chunks.{chunk_at, chunk_byte}
use Rattle.name_map.specs.Home.{word_limit, add_number, add_numbers, word_at, add_words, add_bytes, checksum, mixed, home_by, home_of, Home}

-- ---- numbers, one after the other

pub number_added : (c : Checksum) (x s t : ℕ) → s ≡ (c.sum + x) % word_limit → t ≡ (c.sums + s) % word_limit
    → record { sum = s; sums = t } ≡ add_number c x
unfolding add_number
number_added c x s t e f = rw (f, e)

-- four bytes, each by what it is worth, are two fields
pub word_read : (l : List ℕ) (i r : ℕ) → r ≡ byte l i + byte l (i + 1) * 256 + byte l (i + 2) * 256 ^ 2 + byte l (i + 3) * 256 ^ 3 → r ≡ word_at l i
unfolding field_at
word_read l i r e =
    let last : byte l (i + 2 + 1) ≡ byte l (i + 3) = ap (byte l) (omega arith) in
    omega (arith, e, last)

-- one value more at the end of a fold
pub fold_push : {A B : Type 0} (step : B → A → B) (start : B) (ys : List A) (x : A) (a b : B) → a ≡ fold step start ys → b ≡ step a x
    → b ≡ fold step start (ys ++ (x ∷ []))
fold_push step start ys x a b before e = e ∙ ap (λ z. step z x) before ∙ sym (fold-append step start ys (x ∷ []))

-- numbers that are the same, added
numbers_alike : (f g : ℕ → ℕ) (c : Checksum) (n : ℕ) → ((k : ℕ) → k < n → f k ≡ g k) → add_numbers f n c ≡ add_numbers g n c
unfolding add_numbers
numbers_alike f g c zero e = refl
numbers_alike f g c (suc n) e = ap₂ add_number (numbers_alike f g c n (λ k h. e k (omega (arith, h)))) (e n (omega arith))

-- a fold over a list adds the number of each element
module _ {A : Type 0} (value : A → ℕ) (start : Checksum) (xs : List A) (d : A) where
  abbrev step : Checksum → A → Checksum
  step c x = add_number c (value x)

  fold_to : (i : ℕ) → i ≤ length xs → fold step start (take i xs) ≡ add_numbers (λ k. value (get_or xs k d)) i start
  unfolding add_numbers
  fold_to zero h = refl
  fold_to (suc i) h =
      ap (λ (n : ℕ). fold step start (take n xs)) (sym (add-one i)) ∙ fold_more step start xs i d (omega (arith, h))
      ∙ ap (λ (c : Checksum). add_number c (value (get_or xs i d))) (fold_to i (omega (arith, h)))

  fold_adds : fold step start xs ≡ add_numbers (λ k. value (get_or xs k d)) (length xs) start
  fold_adds = ap (fold step start) (sym (take-length xs)) ∙ fold_to (length xs) (omega arith)

-- ---- the words of a name, and the bytes behind them

abbrev pub word_value : List ℕ → ℕ
word_value w = from_le_bytes w32 w

word_of_chunk : (l : List ℕ) (i : ℕ) → word_value (take 4 (drop i l)) ≡ word_at l i
word_of_chunk l i =
    let w : List ℕ = take 4 (drop i l) in
    let read : word_value w ≡ get_or w 0 0 + get_or w 1 0 * 256 + get_or w 2 0 * 256 ^ 2 + get_or w 3 0 * 256 ^ 3 = refl in
    let first : byte l (i + 0) ≡ byte l i = ap (byte l) (omega arith) in
    read ∙ word_read l i _ (omega (arith, first, chunk_byte 4 l i 0 (omega arith), chunk_byte 4 l i 1 (omega arith), chunk_byte 4 l i 2 (omega arith), chunk_byte 4 l i 3 (omega arith)))

-- each is added as the number at its place
pub words_added : (l : List ℕ) (n : ℕ) (ws : List (List ℕ)) → ws ≡ first_chunks 4 n l → length ws ≡ n → (start : Checksum)
    → fold (λ c w. add_number c (word_value w)) start ws ≡ add_words l 0 n start
words_added l n ws is long start =
    fold_adds word_value start ws [] ∙ ap (λ (m : ℕ). add_numbers (λ k. word_value (get_or ws k [])) m start) long
    ∙ numbers_alike _ _ start n (λ k h. ap (λ (xs : List (List ℕ)). word_value (get_or xs k [])) is ∙ ap word_value (chunk_at 4 n k l h)
    ∙ word_of_chunk l (k * 4) ∙ ap (word_at l) (omega arith))

pub bytes_added : (l : List ℕ) (a n : ℕ) (bs : List ℕ) → bs ≡ drop a l → length bs ≡ n → (start : Checksum)
    → fold (λ c b. add_number c b) start bs ≡ add_bytes l a n start
bytes_added l a n bs is long start =
    fold_adds (λ b. b) start bs 0 ∙ ap (λ (m : ℕ). add_numbers (λ k. get_or bs k 0) m start) long
    ∙ numbers_alike _ _ start n (λ k h. ap (λ (xs : List ℕ). get_or xs k 0) is ∙ get_or-drop a l k 0)

-- ---- the home of a name

-- what is mixed from the checksum of a whole list is its home
pub whole_home_made : (l : List ℕ) (n : ℕ) → n ≡ length l → (w c : Checksum) (h r : ℕ) → w ≡ add_words l 0 (n / 4) (record { sum = n % word_limit; sums = 0 })
    → c ≡ add_bytes l (0 + 4 * (n / 4)) (n % 4) w → h ≡ mixed c.sum c.sums → r ≡ mixed h 0 → Home l (r / 1048576)
unfolding home_of home_by checksum
whole_home_made l n is w c h r ew ec eh er = record {
  is =
      let whole : c ≡ checksum l 0 n = ec ∙ ap (add_bytes l (0 + 4 * (n / 4)) (n % 4)) ew in
      ap (λ (x : ℕ). x / 1048576) (er ∙ ap (λ (x : ℕ). mixed x 0) eh) ∙ ap home_by (whole ∙ ap (checksum l 0) is);
  small = omega (arith, er);
}

-- ---- a range of a text, and the list of its bytes

module _ (s : List ℕ) (a e n : ℕ) (is : n ≡ min (e - a) (length s - a)) where
  size : n ≡ length (part s a e)
  unfolding part
  size = is ∙ sym (simp (length-take, length-drop))

  same_byte : (i j : ℕ) → i ≡ a + j → j < n → byte s i ≡ byte (part s a e) j
  unfolding part
  same_byte i j q h = ap (byte s) q ∙ sym (get_or-take (e - a) (drop a s) j 0 (omega (arith, h, is)) ∙ get_or-drop a s j 0)

  same_word : (i j : ℕ) → i ≡ a + j → j + 4 ≤ n → word_at s i ≡ word_at (part s a e) j
  unfolding field_at
  same_word i j q h =
      rw (
        same_byte i j q (omega (arith, h)),
        same_byte (i + 1) (j + 1) (omega (arith, q)) (omega (arith, h)),
        same_byte (i + 2) (j + 2) (omega (arith, q)) (omega (arith, h)),
        same_byte (i + 2 + 1) (j + 2 + 1) (omega (arith, q)) (omega (arith, h)),
      )

  same_words : (c : Checksum) → add_words s a (n / 4) c ≡ add_words (part s a e) 0 (n / 4) c
  same_words c = numbers_alike _ _ c (n / 4) (λ j h. same_word (a + 4 * j) (0 + 4 * j) (omega arith) (omega (arith, h)))

  same_bytes_behind : (c : Checksum) → add_bytes s (a + 4 * (n / 4)) (n % 4) c ≡ add_bytes (part s a e) (0 + 4 * (n / 4)) (n % 4) c
  same_bytes_behind c =
      numbers_alike _ _ c (n % 4) (λ j h. same_byte (a + 4 * (n / 4) + j) (0 + 4 * (n / 4) + j) (omega arith) (omega (arith, h)))

  -- what is mixed from the checksum of a range, wherever it stands, is the home of the list of its bytes
  pub home_made : (w c : Checksum) (h r : ℕ) → w ≡ add_words s a (n / 4) (record { sum = n % word_limit; sums = 0 })
      → c ≡ add_bytes s (a + 4 * (n / 4)) (n % 4) w → h ≡ mixed c.sum c.sums → r ≡ mixed h 0 → Home (part s a e) (r / 1048576)
  home_made w c h r ew ec eh er =
      whole_home_made (part s a e) n size w c h r (ew ∙ same_words (record { sum = n % word_limit; sums = 0 })) (ec ∙ same_bytes_behind w) eh er
