-- A part of a text, as code has it in its hands: its length, its bytes, and what is left of it behind its first ones, all by places of the text.
use Rattle.std.proofs.Common.{◌≡◌, ap, ◌∙◌, List, ℕ, ◌+◌, ◌-◌, ◌≤◌, ◌<◌, length, take, drop, arith}
use Rattle.std.specs.Prelude.{min}
use Rattle.std.proofs.lemmas.List.{drop-take, drop-drop, get_or-take, get_or-drop, length-take, length-drop}
use Rattle.text.specs.Range.{part}
use Rattle.characters.specs.Whitespace.{byte}

-- a part has the bytes from a to before e, as far as the text has them
pub part_size : (s : List ℕ) (a e : ℕ) → length (part s a e) ≡ min (e - a) (length s - a)
unfolding part
part_size s a e = length-take (e - a) (drop a s) ∙ ap (min (e - a)) (length-drop a s)

module _ (s : List ℕ) (a e : ℕ) (cut : List ℕ) (is : cut ≡ part s a e) (fits : e ≤ length s) where
  pub part_length : length cut ≡ e - a
  unfolding part
  part_length = ap length is ∙ omega (arith, length-take (e - a) (drop a s), length-drop a s)

  pub part_byte : (k : ℕ) → k < length cut → byte cut k ≡ byte s (a + k)
  unfolding part
  part_byte k h = ap (λ (l : List ℕ). byte l k) is ∙ get_or-take (e - a) (drop a s) k 0 (omega (arith, part_length)) ∙ get_or-drop a s k 0

  pub part_first : 0 < length cut → byte cut 0 ≡ byte s a
  part_first h =
      let at : a + 0 ≡ a = omega arith in
      part_byte 0 h ∙ ap (byte s) at

  pub part_last : 0 < length cut → byte cut (length cut - 1) ≡ byte s (e - 1)
  part_last h =
      let at : a + (length cut - 1) ≡ e - 1 = omega (arith, part_length) in
      part_byte (length cut - 1) (omega arith) ∙ ap (byte s) at

  pub part_rest : (k : ℕ) → k ≤ length cut → drop k cut ≡ part s (a + k) e
  unfolding part
  part_rest k h =
      let whole : e - a ≡ k + (e - (a + k)) = omega (arith, part_length) in
      ap (drop k) is
      ∙ ap (λ (n : ℕ). drop k (take n (drop a s))) whole
      ∙ drop-take k (e - (a + k)) (drop a s)
      ∙ ap (take (e - (a + k))) (drop-drop k a s)
