-- A stack over the front of its bytes. What is written there is read back, and each operation on the bytes is the one on the list: so bytes over
-- which the machine's stack is laid stay such bytes.
use mathlib.Core.Path.{◌≡◌, refl, sym, ap, ap₂, ◌∙◌}
use mathlib.Core.List.{List, [], ◌∷◌, ◌++◌, append-nil}
use Prim.Native.Nat.{ℕ, ◌+◌, ◌*◌, ◌/◌, ◌%◌, ◌≤◌, ◌<◌}
use native.Mathlib.Omega.{arith}
use lib.ListN.{length, get_or, take, drop, length-append, length-drop, take-append-drop}
use lib.Seq.{sets-eq, take_at, take-take, length-take-le}
use Rattle.area.specs.Bytes.{two, bytes}
use Rattle.area.specs.Records.{entry_at, entry_width, entry_bytes, entry_fields, nth_entry}
use Rattle.area.specs.Contents.{entry_format, relaid}
use Rattle.area.proofs.Fields.{bytes-append, bytes_single, bytes-length, bytes-at, two_wide}
use Rattle.area.proofs.Records.{entry_wide}
use Rattle.run.specs.Run.{put_state}
use Rattle.run_laws.proofs.Stacks.{entry_bytes_lem}

-- ---- ids at the front of bytes

front_length : (st : List ℕ) → length (bytes entry_bytes st) ≡ length st * entry_width
front_length = bytes-length entry_bytes entry_width entry_wide

id_bytes : (v : ℕ) → entry_bytes v ≡ two v
unfolding bytes entry_fields
id_bytes v = append-nil (two v)

-- the two bytes of one
front_bytes : (st t : List ℕ) (k : ℕ) → k < length st
    → (get_or (bytes entry_bytes st ++ t) (k * 2) 0 ≡ nth_entry st k % 256) × (get_or (bytes entry_bytes st ++ t) (k * 2 + 1) 0 ≡ nth_entry st k / 256)
unfolding two
front_bytes st t k h = (
  ap (λ (i : ℕ). get_or (bytes entry_bytes st ++ t) i 0) {x = k * 2} {y = k * entry_width + 0} (omega arith) ∙ byte 0 (omega arith),
  byte 1 (omega arith),
)
  where
    byte : (j : ℕ) → j < 2 → get_or (bytes entry_bytes st ++ t) (k * entry_width + j) 0 ≡ get_or (two (nth_entry st k)) j 0
    byte j l = bytes-at entry_bytes entry_width entry_wide 0 st t k j h l ∙ ap (λ (b : List ℕ). get_or b j 0) (id_bytes (nth_entry st k))

module _ (s st : List ℕ) where
  pub laid_bytes : (k : ℕ) → k < length st
      → (get_or (relaid entry_format s st) (k * 2) 0 ≡ nth_entry st k % 256) × (get_or (relaid entry_format s st) (k * 2 + 1) 0 ≡ nth_entry st k / 256)
  unfolding relaid
  laid_bytes k h = front_bytes st (drop (length st * entry_width) s) k h

  pub laid_read : (k : ℕ) → k < length st → entry_at (relaid entry_format s st) k ≡ nth_entry st k
  laid_read k h =
      let b = laid_bytes k h in
      entry_bytes_lem (relaid entry_format s st) k ∙ ap₂ (λ (x y : ℕ). x + y * 256) b.0 b.1 ∙ omega arith

  laid-length : length st * entry_width ≤ length s → length (relaid entry_format s st) ≡ length s
  unfolding relaid
  laid-length fits = length-append (bytes entry_bytes st) _ ∙ omega (arith, fits, front_length st, length-drop (length st * entry_width) s)

-- the bytes b begin with the stack
pub record Begins (st b : List ℕ) : Type 0 where
  pub front : take (length st * entry_width) b ≡ bytes entry_bytes st
  pub long : length st * entry_width ≤ length b

pub laid_begins : (s st : List ℕ) → length st * entry_width ≤ length s → Begins st (relaid entry_format s st)
unfolding relaid
laid_begins s st h = record {
  front = take_at (bytes entry_bytes st) _ (length st * entry_width) (front_length st);
  long = omega (arith, laid-length s st h);
}

-- ---- the operations

module _ (st b : List ℕ) (begins : Begins st b) where
  -- a stack that the bytes begin with is laid over them already
  pub laid_again : b ≡ relaid entry_format b st
  unfolding relaid
  laid_again = sym (take-append-drop (length st * entry_width) b) ∙ ap (λ (x : List ℕ). x ++ drop (length st * entry_width) b) begins.front

  -- and so is a part of it
  pub laid_shorter : (k : ℕ) → k ≤ length st → Begins (take k st) b
  laid_shorter k h = record {
    front = ap (λ (j : ℕ). take (j * entry_width) b) part
        ∙ sym (take-take (k * entry_width) (length st * entry_width) b (omega arith))
        ∙ ap (take (k * entry_width)) (begins.front ∙ split)
        ∙ take_at (bytes entry_bytes (take k st)) _ (k * entry_width) (front_length (take k st) ∙ ap (λ (j : ℕ). j * entry_width) part);
    long = omega (arith, part, begins.long);
  }
    where
      part : length (take k st) ≡ k
      part = length-take-le k st h

      split : bytes entry_bytes st ≡ bytes entry_bytes (take k st) ++ bytes entry_bytes (drop k st)
      split = ap (bytes entry_bytes) (sym (take-append-drop k st)) ∙ bytes-append entry_bytes (take k st) (drop k st)

  -- an id behind it
  pub laid_push : (id : ℕ) → length st * entry_width + entry_width ≤ length b → put_state b (length st) id ≡ relaid entry_format b (st ++ (id ∷ []))
  unfolding relaid put_state
  laid_push id h =
      let n : ℕ = length st * entry_width in
      let e : n + length (two id) ≡ length (st ++ (id ∷ [])) * entry_width = omega (arith, two_wide id, length-append st (id ∷ [])) in
      sets-eq (two id) b n (omega (arith, two_wide id))
      ∙ ap₂ (λ (x y : List ℕ). x ++ two id ++ y) begins.front (ap (λ (j : ℕ). drop j b) e)
      ∙ ap (λ (x : List ℕ). x ++ drop (length (st ++ (id ∷ [])) * entry_width) b) (more id)
    where
      more : (v : ℕ) → bytes entry_bytes st ++ two v ≡ bytes entry_bytes (st ++ (v ∷ []))
      more v =
          ap (λ (x : List ℕ). bytes entry_bytes st ++ x) (sym (bytes_single entry_bytes v ∙ id_bytes v))
          ∙ sym (bytes-append entry_bytes st (v ∷ []))

-- an id at the bottom
pub laid_bottom : (b : List ℕ) (id : ℕ) → entry_width ≤ length b → put_state b 0 id ≡ relaid entry_format b (id ∷ [])
unfolding bytes
laid_bottom b id h = laid_push [] b (record { front = refl; long = omega arith }) id (omega arith)
