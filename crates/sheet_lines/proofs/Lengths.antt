-- How long a line can be: each has a bound beside the name in it.
use Prim.Native.Nat.{ℕ, ◌+◌, ◌-◌, ◌≤◌}
use mathlib.Core.List.{List, [], ◌∷◌}
use native.Mathlib.Omega.{arith}
use lib.Dec.{eqb}
use lib.ListN.{length}
use Rattle.std.proofs.lemmas.Bool.{cond_both}
use Rattle.answers.specs.Numbers.{area_full_number}
use Rattle.text.specs.Range.{part}
use Rattle.area.specs.declared.State.{State}
use Rattle.area.specs.declared.Rule.{Rule}
use Rattle.area.specs.declared.Fault.{Fault}
use Rattle.area.specs.Records.{rule_fields, fault_fields}
use Rattle.output.specs.Output.{newline}
use Rattle.output.proofs.Lengths.{Most, word_most, append_most, field_most, fields_most, part_most}
use Rattle.sheet_lines.specs.Lines.{state_word, rule_word, fault_word, refused_word, initial_name}
use Rattle.sheet_lines.specs.Lines.{state_name, state_head, state_line, rule_line, fault_line, refused_head, refused_line, full_line}

name_most : (s : List ℕ) (k a e : ℕ) → Most (state_name s k a e) (7 + (e - a))
unfolding state_name
name_most s k a e =
    cond_both (eqb k 0) initial_name (part s a e) (λ t. Most t (7 + (e - a)))
    (λ _. record { most = omega arith })
    (λ _. record { most = omega (arith, part_most s a e) })

head_most : (s : List ℕ) (k a e : ℕ) → Most (state_head s k a e) (12 + (7 + (e - a)))
unfolding state_head
head_most s k a e = append_most (append_most (append_most (word_most state_word) (field_most k)) (word_most (32 ∷ []))) (name_most s k a e)

pub state_most : (s : List ℕ) (k : ℕ) (x : State) → length (state_line s k x) ≤ 38 + (x.end - x.start)
unfolding state_line
state_most s k x =
    let marked = append_most (head_most s k x.start x.end) (field_most x.exclusive) in
    let whole = append_most (append_most (append_most marked (field_most x.start)) (field_most x.end)) (word_most newline) in
    omega (arith, whole.most)

pub rule_most : (k : ℕ) (x : Rule) → Most (rule_line k x) 95
unfolding rule_line rule_fields
rule_most k x = append_most (append_most (append_most (word_most rule_word) (field_most k)) (fields_most (rule_fields x))) (word_most newline)

pub fault_most : (x : Fault) → Most (fault_line x) 30
unfolding fault_line fault_fields
fault_most x = append_most (append_most (word_most fault_word) (fields_most (fault_fields x))) (word_most newline)

refused_head_most : (n : ℕ) → Most (refused_head n) 13
unfolding refused_head
refused_head_most n = append_most (word_most refused_word) (field_most n)

pub refused_most : (n : ℕ) → Most (refused_line n) 14
unfolding refused_line
refused_most n = append_most (refused_head_most n) (word_most newline)

pub full_most : (n : ℕ) → Most (full_line n) 20
unfolding full_line
full_most n = append_most (append_most (refused_head_most area_full_number) (field_most n)) (word_most newline)
