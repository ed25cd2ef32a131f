-- That an answer, the counts and the areas have the outcome of the file: an area determines its records, so that what is printed of the areas'
-- bytes is what is printed of the outcome.
use mathlib.Core.Path.{◌≡◌, refl, ap, ap₂, subst, ◌∙◌}
use mathlib.Core.List.{List, ◌++◌}
use Prim.Native.Nat.{ℕ, zero, suc, ◌+◌, ◌*◌, ◌-◌, ◌<◌}
use native.Mathlib.Nat.{le_refl}
use native.Mathlib.Omega.{arith}
use lib.ListN.{length, get_or, length-append}
use Rattle.area.specs.declared.State.{State}
use Rattle.area.specs.declared.Rule.{Rule}
use Rattle.area.specs.declared.Fault.{Fault}
use Rattle.area.specs.Areas.{Area}
use Rattle.area.specs.Bytes.{bytes, pad, zeros}
use Rattle.area.specs.Contents.{Format, state_format, rule_format, fault_format, laid}
use Rattle.area.specs.Records.{nth_state, nth_rule, nth_fault}
use Rattle.area.proofs.Contents.{Sound, state_sound, rule_sound, fault_sound}
use Rattle.area.proofs.Fields.{bytes-length}
use Rattle.parse.specs.Parse.{ParseAnswer, Outcome, long_file, unknown_flag, invalid_utf8, area_full, faulty, accepted}
use Rattle.parse.specs.Parse.{Caps, caps, Left, left, leaves, outcome, parse_call}
use Rattle.output.specs.Output.{joined}
use Rattle.sheet_lines.specs.Lines.{state_line, rule_line, fault_line}
use Rattle.sheet_lines.specs.Lines.{state_lines, rule_lines, fault_lines, sheet_lines}
use Rattle.sheet_print.specs.Lines.{answer_text, text_of, sheet_caps, sheet_request, sheet_text}

-- ---- what the areas hold

-- records that are laid into an area of cap bytes are read back
module _ {A : Type 0} (F : Format A) (sound : Sound F) (xs : List A) (cap : ℕ) (l : List ℕ) (e : l ≡ laid F cap xs) (g : length l ≡ cap) where
  laid_area : Area F.write F.width (length xs) cap l (length xs) xs
  unfolding pad
  laid_area =
      let front : List ℕ = bytes F.write xs in
      let w : length front ≡ length xs * F.width = bytes-length F.write F.width sound.wide xs in
      let p : length l ≡ length front + length (zeros (cap - length front)) = ap length e ∙ length-append front _ in
      record { count = refl; is = e; few = le_refl (length xs); fits = omega (arith, w, p) }

  laid_read : (k : ℕ) → k < length xs → F.read l k ≡ get_or xs k F.blank
  laid_read k h = sound.back k laid_area h

-- texts that are the same one by one are the same joined
joined_same : (f g : ℕ → List ℕ) (n : ℕ) → ((k : ℕ) → k < n → f k ≡ g k) → joined f n ≡ joined g n
unfolding joined
joined_same f g zero h = refl
joined_same f g (suc n) h = ap₂ (λ (a b : List ℕ). a ++ b) (joined_same f g n (λ k q. h k (omega arith))) (h n (omega arith))

-- the lines of the records that are read are those of the records that were laid
module _ (s : List ℕ) (cap : ℕ) (l : List ℕ) (g : length l ≡ cap) where
  states_laid : (xs : List State) → l ≡ laid state_format cap xs
      → state_lines s l (length xs) ≡ joined (λ k. state_line s k (nth_state xs k)) (length xs)
  unfolding state_lines
  states_laid xs e = joined_same _ _ (length xs) (λ k h. ap (state_line s k) (laid_read state_format state_sound xs cap l e g k h))

  rules_laid : (xs : List Rule) → l ≡ laid rule_format cap xs
      → rule_lines l (length xs) ≡ joined (λ k. rule_line k (nth_rule xs k)) (length xs)
  unfolding rule_lines
  rules_laid xs e = joined_same _ _ (length xs) (λ k h. ap (rule_line k) (laid_read rule_format rule_sound xs cap l e g k h))

  faults_laid : (xs : List Fault) → l ≡ laid fault_format cap xs
      → fault_lines l (length xs) ≡ joined (λ k. fault_line (nth_fault xs k)) (length xs)
  unfolding fault_lines
  faults_laid xs e = joined_same _ _ (length xs) (λ k h. ap fault_line (laid_read fault_format fault_sound xs cap l e g k h))

-- ---- what the call leaves has the outcome

-- what is printed of all that the call leaves
abbrev left_text : List ℕ → Left → List ℕ
left_text s y = answer_text s y.answer (get_or y.counts 0 0) (get_or y.counts 1 0) y.area1 y.area2 y.area6

-- the areas that are printed have so many bytes
record Kept (k : Caps) (y : Left) : Type 0 where
  pub one : length y.area1 ≡ k.c1
  pub two : length y.area2 ≡ k.c2
  pub six : length y.area6 ≡ k.c6

leaves_text : (s : List ℕ) (k : Caps) (o : Outcome) → Kept k (leaves k o) → left_text s (leaves k o) ≡ text_of s o
unfolding leaves text_of answer_text sheet_lines
leaves_text s k long_file h = refl
leaves_text s k unknown_flag h = refl
leaves_text s k invalid_utf8 h = refl
leaves_text s k (area_full name) h = refl
leaves_text s k (faulty fs) h = faults_laid s k.c6 _ h.six fs refl
leaves_text s k (accepted b) h =
    ap₂ (λ (x y : List ℕ). x ++ y)
    (states_laid s k.c1 _ h.one b.states refl)
    (rules_laid s k.c2 _ h.two b.rules refl)

-- the call with areas of k bytes left y
module _ (s : List ℕ) (k : Caps) (y : Left) (e : y ≡ parse_call (sheet_request s) k) where
  call_text : Kept k y → left_text s y ≡ text_of s (outcome (sheet_request s) k)
  unfolding parse_call
  call_text h = ap (left_text s) e ∙ leaves_text s k (outcome (sheet_request s) k) (subst (λ (z : Left). Kept k z) e h)

-- the areas that the program lends
pub sheet_written : (s : List ℕ) (a : ParseAnswer) (n x1 x2 x3 x4 x5 x6 : List ℕ) (c1 c2 c3 c4 c5 c6 : ℕ)
    → left a n x1 x2 x3 x4 x5 x6 ≡ parse_call (sheet_request s) (caps c1 c2 c3 c4 c5 c6)
    → c1 ≡ 384 → c2 ≡ 57344 → c3 ≡ 32768 → c4 ≡ 32768 → c5 ≡ 32768 → c6 ≡ 32768
    → length x1 ≡ 384 → length x2 ≡ 57344 → length x6 ≡ 32768
    → answer_text s a (get_or n 0 0) (get_or n 1 0) x1 x2 x6 ≡ sheet_text s
unfolding sheet_text sheet_caps
sheet_written s a n x1 x2 x3 x4 x5 x6 c1 c2 c3 c4 c5 c6 p q1 q2 q3 q4 q5 q6 h1 h2 h6 =
    let k : Caps = caps 384 57344 32768 32768 32768 32768 in
    let z : caps c1 c2 c3 c4 c5 c6 ≡ k = λ i. caps (q1 i) (q2 i) (q3 i) (q4 i) (q5 i) (q6 i) in
    let called = p ∙ ap (parse_call (sheet_request s)) z in
    call_text s k (left a n x1 x2 x3 x4 x5 x6) called (record { one = h1; two = h2; six = h6 })
