-- How long the text of a file can be: each line has a bound beside the name in it, and the areas bound how many lines there are. In a buffer with
-- that room the text stands whole.
use Prim.Native.Nat.{ℕ, zero, suc, ◌+◌, ◌*◌, ◌≤◌}
use mathlib.Core.Path.{◌≡◌, refl, ap, subst, ◌∙◌}
use mathlib.Core.List.{List, []}
use native.Mathlib.Omega.{arith}
use lib.ListN.{length, take, length-append}
use lib.Seq.{take-length}
use Rattle.std.specs.Borrow.{MutBor}
use Rattle.answers.specs.Numbers.{long_file_number, unknown_flag_number, invalid_utf8_number}
use Rattle.area.specs.declared.State.{State}
use Rattle.area.specs.declared.Rule.{Rule}
use Rattle.area.specs.declared.Fault.{Fault}
use Rattle.area.specs.Names.{area_number}
use Rattle.area.specs.Records.{nth_state, nth_rule, nth_fault}
use Rattle.parse.specs.Parse.{Outcome, long_file, unknown_flag, invalid_utf8, area_full, faulty, accepted, outcome}
use Rattle.parsed_sheet.proofs.Accepting.{accepted_holds, accepted_short}
use Rattle.parsed_sheet.proofs.Bounds.{Bounded, outcome_bounded}
use Rattle.parsed_sheet.proofs.Totals.{total, total_plus, name_length, name_bytes}
use Rattle.output.specs.declared.Text.{Text}
use Rattle.output.specs.Output.{Written, AllWritten, joined}
use Rattle.output.specs.Text.{Holds, Appends}
use Rattle.output.proofs.Appending.{written_none, written_then}
use Rattle.output.proofs.Lengths.{joined_most}
use Rattle.sheet_lines.specs.Lines.{state_line, rule_line, fault_line}
use Rattle.sheet_lines.proofs.Lengths.{state_most, rule_most, fault_most, refused_most, full_most}
use Rattle.sheet_print.specs.Lines.{text_of, sheet_caps, sheet_request, sheet_text, sheet_room}

-- texts joined, each of which has a bound
joined_total : (f : ℕ → List ℕ) (g : ℕ → ℕ) → ((k : ℕ) → length (f k) ≤ g k) → (n : ℕ) → length (joined f n) ≤ total g n
unfolding joined total
joined_total f g h zero = omega arith
joined_total f g h (suc n) = omega (arith, length-append (joined f n) (f n), joined_total f g h n, h n)

-- ---- all lines of a file

module _ (s : List ℕ) (xs : List State) where
  states_most : length (joined (λ k. state_line s k (nth_state xs k)) (length xs)) ≤ length xs * 38 + name_bytes xs
  unfolding name_bytes
  states_most =
      let line : ℕ → List ℕ = λ k. state_line s k (nth_state xs k) in
      let name : ℕ → ℕ = λ k. name_length (nth_state xs k) in
      let lines = joined_total line (λ k. 38 + name k) (λ k. state_most s k (nth_state xs k)) (length xs) in
      omega (arith, lines, total_plus 38 name (length xs))

rules_most : (xs : List Rule) → length (joined (λ k. rule_line k (nth_rule xs k)) (length xs)) ≤ length xs * 95
rules_most xs = joined_most (λ k. rule_line k (nth_rule xs k)) 95 (λ k. (rule_most k (nth_rule xs k)).most) (length xs)

faults_most : (xs : List Fault) → length (joined (λ k. fault_line (nth_fault xs k)) (length xs)) ≤ length xs * 30
faults_most xs = joined_most (λ k. fault_line (nth_fault xs k)) 30 (λ k. (fault_most (nth_fault xs k)).most) (length xs)

outcome_most : (s : List ℕ) (o : Outcome) → outcome (sheet_request s) sheet_caps ≡ o → Bounded s 32768 o → length (text_of s o) ≤ sheet_room
unfolding text_of sheet_caps
outcome_most s long_file q h = omega (arith, (refused_most long_file_number).most)
outcome_most s unknown_flag q h = omega (arith, (refused_most unknown_flag_number).most)
outcome_most s invalid_utf8 q h = omega (arith, (refused_most invalid_utf8_number).most)
outcome_most s (area_full name) q h = omega (arith, (full_most (area_number name)).most)
outcome_most s (faulty fs) q h = omega (arith, faults_most fs, h.fits)
outcome_most s (accepted c) q h =
    let g = accepted_holds (sheet_request s) sheet_caps c q in
    let states = joined (λ k. state_line s k (nth_state c.states k)) (length c.states) in
    let rules = joined (λ k. rule_line k (nth_rule c.rules k)) (length c.rules) in
    let few-states = g.states.fits.few in
    let few-rules = g.rules.fits.few in
    let short = accepted_short (sheet_request s) sheet_caps c q in
    omega (arith, length-append states rules, states_most s c.states, rules_most c.rules, few-states, few-rules, h, short)

-- the text of any file has no more bytes than that
pub text_most : (s : List ℕ) → length (sheet_text s) ≤ sheet_room
unfolding sheet_text sheet_caps
text_most s = outcome_most s (outcome (sheet_request s) sheet_caps) refl (outcome_bounded (sheet_request s) sheet_caps)

-- so a buffer with that room has the whole text
pub all_written : (s : List ℕ) {l : List ℕ} {n : ℕ} → sheet_room ≤ length l → Written (sheet_text s) l n → AllWritten (sheet_text s) l n
all_written s {l} {n} h w =
    let z : n ≡ length (sheet_text s) = omega (arith, w.count, text_most s) in
    record { count = z; is = w.is ∙ ap (λ (k : ℕ). take k (sheet_text s)) z ∙ take-length (sheet_text s) }

-- a new text in a buffer, then the lines: what was lent ends as the bytes l
pub lines_written : (s : List ℕ) {lent : MutBor (List ℕ)} {a b : Text} {v l : List ℕ} → l ≡ b.bytes.now → Holds lent a [] → Appends a b v
    → v ≡ sheet_text s → sheet_room ≤ length lent.now → AllWritten (sheet_text s) l b.count
lines_written s {b = b} z p q e h =
    let w = subst (λ (t : List ℕ). Written t b.bytes.now b.count) e (written_then [] q (written_none p)) in
    rw z (all_written s (omega (arith, h, p.area.long, q.area.long)) w)
