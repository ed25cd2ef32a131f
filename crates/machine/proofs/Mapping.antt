-- The machine's reading of a map is the link's, where its bytes are whole entries.
use mathlib.Core.Path.{◌≡◌, refl, sym, ap, ap₂, ◌∙◌}
use mathlib.Core.List.{List, [], ◌∷◌, map}
use Prim.Native.Nat.{ℕ, zero, suc, ◌+◌, ◌*◌, ◌<◌}
use native.Mathlib.Omega.{arith}
use lib.ListN.{length, get_or, drop}
use lib.Seq.{get_or-drop}
use Rattle.text.specs.Range.{part}
use Rattle.area.specs.Bytes.{field_at, field_from}
use Rattle.area.specs.Contents.{contents}
use Rattle.area.proofs.Contents.{list_of_is}
use Rattle.name_map.specs.declared.MapEntry.{MapEntry}
use Rattle.name_map.specs.Map.{Entry, entry, map_width, map_format, map_entry_of, map_entry_at, entry_of, entry_count, entries_of}
use Rattle.machine.specs.File.{number, map_of}

-- the first n entries
raw : ℕ → List ℕ → List MapEntry
raw zero l = []
raw (suc n) l =
    let field : ℕ → ℕ = λ k. number (get_or l k 0) (get_or l (k + 1) 0) in
    record { name_from = field 0; name_length = field 2; id = field 4 } ∷ raw n (drop 6 l)

raw_count : (n : ℕ) (l : List ℕ) → length (raw n l) ≡ n
unfolding raw
raw_count zero l = refl
raw_count (suc n) l = ap suc (raw_count n (drop 6 l))

field_behind : (l : List ℕ) (k j : ℕ) → field_from l (suc k * map_width) j ≡ field_from (drop 6 l) (k * map_width) j
unfolding field_from field_at
field_behind l k j =
    let p : suc k * map_width + 2 * j ≡ 6 + (k * map_width + 2 * j) = omega arith in
    let q : suc k * map_width + 2 * j + 1 ≡ 6 + (k * map_width + 2 * j + 1) = omega arith in
    ap₂ (λ (u v : ℕ). u + v * 256)
    (ap (λ (i : ℕ). get_or l i 0) p ∙ sym (get_or-drop 6 l (k * map_width + 2 * j) 0))
    (ap (λ (i : ℕ). get_or l i 0) q ∙ sym (get_or-drop 6 l (k * map_width + 2 * j + 1) 0))

raw_at : (n : ℕ) (l : List ℕ) (k : ℕ) → k < n → map_entry_at l k ≡ get_or (raw n l) k map_format.blank
unfolding raw map_entry_at map_entry_of field_from field_at
raw_at zero l k h = absurd (omega arith)
raw_at (suc n) l zero h = refl
raw_at (suc n) l (suc k) h =
    (λ i. record { name_from = field_behind l k 0 i; name_length = field_behind l k 1 i; id = field_behind l k 2 i }) ∙ raw_at n (drop 6 l) k (omega arith)

raw_same : (n : ℕ) (names l : List ℕ) → length l ≡ n * 6 → map (entry_of names) (raw n l) ≡ map_of names l
unfolding raw map_of entry_of
raw_same zero names [] h = refl
raw_same zero names (a ∷ l) h = absurd (omega arith)
raw_same (suc n) names [] h = absurd (omega arith)
raw_same (suc n) names (a ∷ []) h = absurd (omega arith)
raw_same (suc n) names (a ∷ b ∷ []) h = absurd (omega arith)
raw_same (suc n) names (a ∷ b ∷ c ∷ []) h = absurd (omega arith)
raw_same (suc n) names (a ∷ b ∷ c ∷ d ∷ []) h = absurd (omega arith)
raw_same (suc n) names (a ∷ b ∷ c ∷ d ∷ e ∷ []) h = absurd (omega arith)
raw_same (suc n) names (a ∷ b ∷ c ∷ d ∷ e ∷ f ∷ l) h =
    ap (λ (es : List Entry). entry (part names (number a b) (number a b + number c d)) (number e f) ∷ es) (raw_same n names l (omega arith))

pub map_same : (names entries : List ℕ) → length entries ≡ entry_count entries * 6 → entries_of names entries ≡ map_of names entries
unfolding entries_of contents
map_same names entries h =
    let n : ℕ = entry_count entries in
    let read = list_of_is (map_entry_at entries) map_format.blank (raw n entries) n (sym (raw_count n entries)) (raw_at n entries) in
    ap (map (entry_of names)) read ∙ raw_same n names entries h
