-- A text, appended part by part: what is written and what is left make the whole text. Where a part does not fit, the whole text does not either.
use mathlib.Core.Path.{◌≡◌, refl, sym, ap, ◌∙◌}
use mathlib.Core.Bool.{Bool, true, false, true≢false}
use mathlib.Core.List.{List, [], ◌∷◌, ◌++◌, append_assoc, append-nil}
use mathlib.Core.Option.{some}
use Prim.Native.Nat.{ℕ, ◌+◌, ◌≤◌}
use native.Mathlib.Omega.{arith}
use lib.ListN.{length, length-append}
use Rattle.std.specs.Prelude.{Result, Ok, Err}
use Rattle.characters.specs.Walk.{Between}
use Rattle.text.specs.Range.{part}
use Rattle.text.proofs.Ranges.{part_none}
use Rattle.area.specs.declared.AreaFull.{AreaFull}
use Rattle.area.specs.Areas.{room, PushedText, TextArea}
use Rattle.area.specs.Records.{most_others}
use Rattle.area.specs.Contents.{append, contents, Grows, Held, text_format}
use Rattle.area.proofs.Rooms.{room_fewer, room_later, room_yes}
use Rattle.area.proofs.Areas.{full_says, next_text, pushed_length}
use Rattle.area.proofs.Contents.{contents_are, contents-length, held_of, text_sound}
use Rattle.escape.proofs.Passed.{Next}
use Rattle.escape.specs.Escape.{Escape, escapes, escaped, last_end, last_whole, drop_lone, rewritten_end, replaced, unescaped}

abbrev text_in : List ℕ → ℕ → List ℕ
text_in l n = contents text_format l n

-- `rest` is still to be appended, behind the m bytes in the area a; with n bytes in the area l the whole text was
pub record Writing (whole l : List ℕ) (n : ℕ) (rest a : List ℕ) (m : ℕ) : Type 0 where
  pub done : List ℕ
  pub same : done ++ rest ≡ whole
  pub held : Held text_format a m
  pub has : text_in a m ≡ text_in l n ++ done
  pub long : length a ≡ length l

written : {whole l : List ℕ} {n : ℕ} {rest a : List ℕ} {m : ℕ} (w : Writing whole l n rest a m) → m ≡ length (text_in l n) + length w.done
written {l = l} {n = n} w =
    sym (contents-length text_sound w.held) ∙ ap length w.has ∙ length-append (text_in l n) w.done

module _ {whole l : List ℕ} {n : ℕ} {rest a : List ℕ} {m : ℕ} (w : Writing whole l n rest a m) where
  -- v, a part of the text, is appended
  module _ (v after : List ℕ) (split : rest ≡ v ++ after) {r : Result ℕ AreaFull} {b : List ℕ} (pushed : PushedText v a m r b) where
    left_over : (w.done ++ v) ++ after ≡ whole
    left_over = append_assoc w.done v after ∙ ap (λ (t : List ℕ). w.done ++ t) (sym split) ∙ w.same

    pub writing_next : {k : ℕ} → r ≡ Ok k → Writing whole l n after b k
    writing_next {k} q =
        let grown : TextArea (length a) b k (text_in a m ++ v) = next_text w.held.area pushed q in
        record {
          done = w.done ++ v;
          same = left_over;
          held = held_of text_sound grown;
          has = contents_are text_sound grown
              ∙ ap (λ (x : List ℕ). x ++ v) w.has
              ∙ append_assoc (text_in l n) w.done v;
          long = pushed_length pushed ∙ w.long;
        }

    no_room : {x : AreaFull} → r ≡ Err x → room 1 most_others (length l) (length (text_in l n)) (length whole) ≡ false
    no_room {x} q = by (room 1 most_others (length l) (length (text_in l n)) (length whole)) refl
      where
        old : ℕ
        old = length (text_in l n)

        part_of : length w.done + length v ≤ length whole
        part_of = omega (arith, ap length left_over, length-append (w.done ++ v) after, length-append w.done v)

        refused : room 1 most_others (length l) old (length w.done + length v) ≡ false
        refused = sym (room_later 1 most_others (length l) old (length w.done) (length v)) ∙ rw (← written w, ← w.long) (full_says pushed q).0

        by : (t : Bool) → room 1 most_others (length l) old (length whole) ≡ t → t ≡ false
        by true t = absurd (true≢false (sym (room_fewer 1 most_others (length l) old (length whole) _ part_of t) ∙ refused))
        by false t = refl

    pub writing_full : {x : AreaFull} → r ≡ Err x → Grows text_format (append text_format (length l) whole) l n (Err x) b
    unfolding append
    writing_full {x} q = record {
      says = rw (no_room q) refl;
      held = λ k z. absurd (grind arith);
      names = λ y z. let same : y ≡ x = cc in same ∙ (full_says pushed q).2;
      long = pushed_length pushed ∙ w.long;
    }

  -- the last part is appended
  module _ {v : List ℕ} (last : rest ≡ v) {r : Result ℕ AreaFull} {b : List ℕ} (pushed : PushedText v a m r b) where
    all_left : rest ≡ v ++ []
    all_left = last ∙ sym (append-nil v)

    pub writing_end : Grows text_format (append text_format (length l) whole) l n r b
    unfolding append
    writing_end = go r refl
      where
        go : (o : Result ℕ AreaFull) → r ≡ o → Grows text_format (append text_format (length l) whole) l n o b
        go (Err x) q = writing_full v [] all_left pushed q
        go (Ok k) q =
            let w' = writing_next v [] all_left pushed q in
            let all : w'.done ≡ whole = sym (append-nil w'.done) ∙ w'.same in
            let held : k ≡ length (text_in l n) + length whole = written w' ∙ ap (λ (t : List ℕ). length (text_in l n) + length t) all in
            let had : room 1 most_others (length l) (length (text_in l n)) (length whole) ≡ true =
            room_yes 1 most_others (length l) (length (text_in l n)) (length whole)
            (omega (arith, held, w'.held.area.few))
            (omega (arith, held, w'.held.area.fits, w'.long)) in
            record {
              says = rw had (ap some (ap (λ (t : List ℕ). text_in l n ++ t) (sym all) ∙ sym w'.has));
              held = λ j z. let same : k ≡ j = cc in rw (← same) w'.held;
              names = λ y z. absurd (grind arith);
              long = w'.long;
            }

-- ---- the rewritten text from p on, as the list of escapes has it

module _ (s : List ℕ) (posix_escapes : Bool) (c p : ℕ) where
  text_next : (e : Escape) → escapes s p c ≡ e ∷ escapes s e.end c
      → unescaped s posix_escapes p c ≡ part s p e.backslash ++ (escaped s posix_escapes c e ++ unescaped s posix_escapes e.end c)
  unfolding unescaped replaced rewritten_end last_whole last_end
  text_next e q = rw q refl

  text_last : escapes s p c ≡ [] → unescaped s posix_escapes p c ≡ part s p (drop_lone s c p)
  unfolding unescaped replaced rewritten_end last_whole last_end
  text_last q = rw q refl

module _ (s : List ℕ) (posix_escapes : Bool) (c p : ℕ) {whole l : List ℕ} {n : ℕ} {a : List ℕ} {m : ℕ} where
  module _ {e : Escape} (found : Next s c p e) where
    -- the text up to the next escape
    module _ (w : Writing whole l n (unescaped s posix_escapes p c) a m) {r : Result ℕ AreaFull} {b : List ℕ} (pushed : PushedText (part s p e.backslash) a m r b) where
      pub text_pushed : {k : ℕ} → r ≡ Ok k → Writing whole l n (escaped s posix_escapes c e ++ unescaped s posix_escapes e.end c) b k
      text_pushed q = writing_next w _ _ (text_next s posix_escapes c p e found.left) pushed q

      pub text_full : {x : AreaFull} → r ≡ Err x → Grows text_format (append text_format (length l) whole) l n (Err x) b
      text_full q = writing_full w _ _ (text_next s posix_escapes c p e found.left) pushed q

    -- or nothing, where no text stands before it
    pub text_skipped : Writing whole l n (unescaped s posix_escapes p c) a m → e.backslash ≤ p → Writing whole l n (escaped s posix_escapes c e ++ unescaped s posix_escapes e.end c) a m
    text_skipped w h =
        let rest = text_next s posix_escapes c p e found.left ∙ ap (λ (t : List ℕ). t ++ (escaped s posix_escapes c e ++ unescaped s posix_escapes e.end c)) (part_none s p e.backslash h) in
        record { done = w.done; same = ap (λ (t : List ℕ). w.done ++ t) (sym rest) ∙ w.same; held = w.held; has = w.has; long = w.long }

    -- what the escape becomes
    module _ (w : Writing whole l n (escaped s posix_escapes c e ++ unescaped s posix_escapes e.end c) a m) {r : Result ℕ AreaFull} {b : List ℕ} (pushed : PushedText (escaped s posix_escapes c e) a m r b) where
      pub escape_pushed : {k : ℕ} → r ≡ Ok k → Writing whole l n (unescaped s posix_escapes e.end c) b k
      escape_pushed q = writing_next w _ _ refl pushed q

      pub escape_full : {x : AreaFull} → r ≡ Err x → Grows text_format (append text_format (length l) whole) l n (Err x) b
      escape_full q = writing_full w _ _ refl pushed q

  -- the text behind the last escape
  pub tail_pushed : {z : ℕ} {r : Result ℕ AreaFull} {b : List ℕ} → escapes s p c ≡ [] → Between p c (drop_lone s c p) z → Writing whole l n (unescaped s posix_escapes p c) a m
      → PushedText (part s p z) a m r b → Grows text_format (append text_format (length l) whole) l n r b
  tail_pushed none f w pushed = writing_end w (text_last s posix_escapes c p none ∙ ap (part s p) (sym f.is)) pushed
