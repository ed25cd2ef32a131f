-- Each line is its parts one behind the other; a record's fields, read from the area one by one, are the fields of the record.
use mathlib.Core.Path.{◌≡◌, refl, sym, ap, ◌∙◌}
use mathlib.Core.List.{List, [], ◌∷◌, ◌++◌}
use Prim.Native.Nat.{ℕ, zero, suc, ◌+◌, ◌*◌}
use borrow.Author.Rules.{rules}
use borrow.Author.Tests.{eq-eqb, ne_eqb}
use Rattle.answers.specs.Numbers.{area_full_number}
use Rattle.text.specs.Range.{part}
use Rattle.area.specs.declared.State.{State}
use Rattle.area.specs.Bytes.{bytes, field_at, field_from}
use Rattle.area.specs.Contents.{list_of}
use Rattle.area.specs.Records.{state_at, rule_at, fault_at, rule_of, fault_of, rule_fields, fault_fields}
use Rattle.area.proofs.Decode.{state_made}
use Rattle.area.proofs.Fields.{bytes-append, bytes_single}
use Rattle.output.specs.declared.Text.{Text}
use Rattle.output.specs.Output.{joined, newline, printed_field, printed_fields, printed_fields_at}
use Rattle.output.specs.Text.{Appends}
use Rattle.output.proofs.Appending.{appends_same, appends_then}
use Rattle.sheet_lines.specs.Lines.{state_word, rule_word, fault_word, refused_word, initial_name}
use Rattle.sheet_lines.specs.Lines.{state_name, state_head, state_line, rule_line, fault_line, refused_head, refused_line, full_line}
use Rattle.sheet_lines.specs.Lines.{state_lines, rule_lines, sheet_lines}

-- ---- the fields of a record

joined_fields : (g : ℕ → ℕ) (n : ℕ) → joined (λ j. printed_field (g j)) n ≡ printed_fields (list_of g n)
unfolding joined printed_fields list_of bytes
joined_fields g zero = refl
joined_fields g (suc n) =
    ap (λ (t : List ℕ). t ++ printed_field (g n)) (joined_fields g n)
    ∙ ap (λ (t : List ℕ). bytes printed_field (list_of g n) ++ t) (sym (bytes_single printed_field (g n)))
    ∙ sym (bytes-append printed_field (list_of g n) (g n ∷ []))

rule_fields_lem : (l : List ℕ) (k : ℕ) → printed_fields_at l (k * 28) 14 ≡ printed_fields (rule_fields (rule_at l k))
unfolding printed_fields_at rule_at rule_of rule_fields list_of
rule_fields_lem l k = joined_fields (field_from l (k * 28)) 14

fault_fields_lem : (l : List ℕ) (k : ℕ) → printed_fields_at l (k * 8) 4 ≡ printed_fields (fault_fields (fault_at l k))
unfolding printed_fields_at fault_at fault_of fault_fields list_of
fault_fields_lem l k = joined_fields (field_from l (k * 8)) 4

-- ---- lines

module _ (s : List ℕ) (k start end : ℕ) {a e : Text} where
  pub name_first : k ≡ 0 → Appends a e initial_name → Appends a e (state_name s k start end)
  unfolding state_name
  name_first z p = rw (eq-eqb k 0 z) p

  pub name_part : (k ≡ 0 → ⊥) → Appends a e (part s start end) → Appends a e (state_name s k start end)
  unfolding state_name
  name_part z p = rw (ne_eqb k 0 z) p

pub ruleset name_printing = (rules, name_first, name_part)

module _ (l : List ℕ) (k : ℕ) {t a b e : Text} where
  pub rule_line_lem : {c : Text} → Appends t a rule_word → Appends a b (printed_field k) → Appends b c (printed_fields_at l (k * 28) 14)
      → Appends c e newline → Appends t e (rule_line k (rule_at l k))
  unfolding rule_line
  rule_line_lem p q r z = appends_then z (appends_then (appends_same (rule_fields_lem l k) r) (appends_then q p))

  pub fault_line_lem : Appends t a fault_word → Appends a b (printed_fields_at l (k * 8) 4) → Appends b e newline → Appends t e (fault_line (fault_at l k))
  unfolding fault_line
  fault_line_lem p q z = appends_then z (appends_then (appends_same (fault_fields_lem l k) q) p)

module _ {t a e : Text} where
  pub refused_head_lem : (number : ℕ) → Appends t a refused_word → Appends a e (printed_field number) → Appends t e (refused_head number)
  unfolding refused_head
  refused_head_lem number p z = appends_then z p

  pub refused_line_lem : (number : ℕ) → Appends t a (refused_head number) → Appends a e newline → Appends t e (refused_line number)
  unfolding refused_line
  refused_line_lem number p z = appends_then z p

  pub full_line_lem : (area : ℕ) {b : Text} → Appends t a (refused_head area_full_number) → Appends a b (printed_field area) → Appends b e newline
      → Appends t e (full_line area)
  unfolding full_line
  full_line_lem area p q z = appends_then z (appends_then q p)

pub ruleset line_printing = (rules, fault_line_lem, refused_head_lem, refused_line_lem, full_line_lem)

-- ---- a state

pub state_read : (l : List ℕ) (k a b c : ℕ) → a ≡ field_at l (k * 6) → b ≡ field_at l (k * 6 + 2) → c ≡ field_at l (k * 6 + 4)
    → record { start = a; end = b; exclusive = c } ≡ state_at l k
unfolding state_at
state_read l k a b c e1 e2 e3 = state_made l (k * 6) a b c e1 e2 e3

module _ (s : List ℕ) (k : ℕ) {t a b c e : Text} where
  -- the word, the number, a space and the name, one behind the other, are the head of a state's line
  pub state_head_lem : (start end : ℕ) → Appends t a state_word → Appends a b (printed_field k) → Appends b c (32 ∷ [])
      → Appends c e (state_name s k start end) → Appends t e (state_head s k start end)
  unfolding state_head
  state_head_lem start end p q r z = appends_then z (appends_then r (appends_then q p))

module _ (s : List ℕ) (k : ℕ) {t a b c d f g h e : Text} where
  pub state_line_lem : (x : State) → Appends t a state_word → Appends a b (printed_field k) → Appends b c (32 ∷ [])
      → Appends c d (state_name s k x.start x.end) → Appends d f (printed_field x.exclusive) → Appends f g (printed_field x.start)
      → Appends g h (printed_field x.end) → Appends h e newline → Appends t e (state_line s k x)
  unfolding state_line
  state_line_lem x p1 p2 p3 p4 p5 p6 p7 p8 =
      appends_then p8 (appends_then p7 (appends_then p6 (appends_then p5 (state_head_lem s k x.start x.end p1 p2 p3 p4))))

pub ruleset state_printing = (rules, state_read)

-- ---- the states, then the rules

pub sheet_lines_lem : (s l1 l2 : List ℕ) (states rules : ℕ) {t a e : Text} → Appends t a (state_lines s l1 states) → Appends a e (rule_lines l2 rules)
    → Appends t e (sheet_lines s l1 states l2 rules)
unfolding sheet_lines
sheet_lines_lem s l1 l2 states rules p q = appends_then q p

pub ruleset sheet_printing = (rules, sheet_lines_lem)
