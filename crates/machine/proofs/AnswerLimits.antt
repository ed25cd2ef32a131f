-- On areas and rows of bytes the values of the answers have two bytes, so that their words tell them apart. Of the parse call crate parsed_sheet has
-- it. The laws stand here, and not beside the words, so that a wrong edit of a call is refused by the call's own contract.
use mathlib.Core.Path.{◌≡◌, subst⁻¹}
use mathlib.Core.Bool.{Bool, true, ◌&&◌}
use mathlib.Core.List.{List}
use mathlib.Core.Logic.{⊎_elim}
use Prim.Native.Nat.{ℕ, ◌*◌, ◌%◌, ◌≤◌, ◌<◌}
use native.Mathlib.Omega.{arith}
use borrow.Author.Tests.{leb-true}
use lib.Dec.{eqb, leb}
use lib.ListN.{length, get_or, get_or-eq_default}
use Rattle.std.proofs.lemmas.Bool.{cond_both, and_parts}
use Rattle.characters.proofs.Tests.{le_or_lt}
use Rattle.area.specs.declared.Rule.{Rule}
use Rattle.area.specs.Records.{rule_width, entry_width, rule_of, rule_at, entry_at, nth_rule}
use Rattle.area.specs.Contents.{contents, rule_format}
use Rattle.answers.specs.Numbers.{accepted_number, area_full_number, broken_map_number, unknown_caller_number, start_refused_number}
use Rattle.answers.specs.Numbers.{text_mismatch_number, broken_sheet_number, broken_run_number, row_mismatch_number, done_number, stopped_number}
use Rattle.answers.specs.Numbers.{unlinked_number, skip_number, token_number}
use Rattle.answers.specs.Words.{TwoBytes}
use Rattle.area.specs.Bytes.{AllBytes}
use Rattle.answers.proofs.Words.{two_bytes, no_values}
use Rattle.area.proofs.Fields.{field_small}
use Rattle.area.specs.declared.RuleText.{RuleText}
use Rattle.sheet_check.specs.SheetCheck.{SheetBytes, name_in, decoded, sheet_check}
use Rattle.area.specs.Lists.{all}
use Rattle.sheet_check.specs.Pattern.{has_rule, part_of, pattern_part, pattern_fields}
use Rattle.area.proofs.Contents.{contents_count, contents_read}
use Rattle.area.proofs.Numbers.{numbers_few}
use Rattle.sheet_check.proofs.Checked.{rules_count, checked_counts}
use Rattle.name_map.specs.Map.{Entry, nth, map_width, most_entries, map_format, entry_count, entries_of, name_inside, distinct, map_check}
use Rattle.link.specs.Link as L
use Rattle.link.specs.Link.{is_unmapped, is_unused, unmapped, unused, LinkLeft, link_all, link_checked, link_call, link_fields}
use Rattle.name_map.proofs.Maps.{entries_count}
use Rattle.winner.specs.Winner.{Lexer, length_in, weight, greatest}
use Rattle.winner.proofs.Winning.{weights_low}
use Rattle.std.specs.Prelude.{Ok, Err, Option, Some, None}
use Rattle.input_check.specs.InputCheck.{good_text}
use Rattle.run.specs.declared.StartError.TheVariants.{UnknownCaller, StartRefused, TextMismatch}
use Rattle.run.specs.Run.{StartAnswer, StepAnswer, Running, current, Input, RunLeft, good_run, fits_in}
use Rattle.winner.specs.Top.{good_row}
use Rattle.run.specs.Run.{won_by, choose, step_row, step_run, lexer_of, step_call, start_fields, view, view_fields, step_fields}
use Rattle.run.proofs.Limits.{within_low}
use Rattle.run.proofs.Fitting.{run_is}

-- ---- the pattern call

-- the fields of a rule that an answer gives back
pub record SmallRule (x : Rule) : Type 0 where
  pub id : x.id < 65536
  pub place : x.place < 65536
  pub from : x.text_from < 65536
  pub len : x.text_length < 65536

zero_small : SmallRule (rule_of (λ _. 0))
unfolding rule_of
zero_small = record { id = omega arith; place = omega arith; from = omega arith; len = omega arith }

read_small : (l : List ℕ) (k : ℕ) → AllBytes l → SmallRule (rule_at l k)
unfolding rule_at rule_of
read_small l k h = record {
  id = field_small l (k * rule_width) 1 h;
  place = field_small l (k * rule_width) 7 h;
  from = field_small l (k * rule_width) 8 h;
  len = field_small l (k * rule_width) 9 h;
}

-- rule k of an area of bytes; past the last all fields are 0
pub small_rule : (l : List ℕ) (n k : ℕ) → AllBytes l → SmallRule (nth_rule (contents rule_format l n) k)
small_rule l n k h = ⊎_elim past before (le_or_lt n k)
  where
    past : n ≤ k → SmallRule (nth_rule (contents rule_format l n) k)
    past q = subst⁻¹ SmallRule (get_or-eq_default (contents rule_format l n) (rule_of (λ _. 0)) (omega (arith, contents_count rule_format l n))) zero_small

    before : k < n → SmallRule (nth_rule (contents rule_format l n) k)
    before q = subst⁻¹ SmallRule (contents_read rule_format l n k q) (read_small l k h)

pub pattern_small : (b : SheetBytes) (k : ℕ) → AllBytes b.area2 → TwoBytes (pattern_fields (pattern_part b k))
unfolding pattern_part pattern_fields decoded
pattern_small b k h =
    cond_both (has_rule b k) (Some (part_of (nth_rule (decoded b).rules k))) None (λ (x : Option RuleText). TwoBytes (pattern_fields x))
    (λ _.
    let r = small_rule b.area2 (get_or b.counts 1 0) k h in
    two_bytes accepted_number _ _ _ (omega arith) r.place r.from r.len)
    (λ _. no_values broken_sheet_number (omega arith))

-- ---- the link call

abbrev LinkSmall : LinkLeft → Type 0
LinkSmall x = TwoBytes (link_fields x.answer)

module _ (name : Rule → List ℕ) (xs : List Rule) (es : List Entry) (x2 x7 x8 : List ℕ) (few-rules : length xs ≤ 2048) (few-entries : length es ≤ 2048) where
  few_unmapped : length (unmapped name es xs) ≤ length xs
  unfolding unmapped
  few_unmapped = numbers_few (λ k. is_unmapped name es (nth_rule xs k)) (length xs)

  few_unused : length (unused name es xs) ≤ length es
  unfolding unused
  few_unused = numbers_few (λ j. is_unused name xs (nth es j).name) (length es)

  checked_small : LinkSmall (link_checked name xs es x2 x7 x8)
  unfolding link_checked link_all link_fields
  checked_small =
      cond_both (L.fits (unmapped name es xs) x7) _ _ LinkSmall
      (λ _. cond_both (L.fits (unused name es xs) x8) _ _ LinkSmall
      (λ _. two_bytes accepted_number _ _ 0 (omega arith) (omega (arith, few_unmapped, few-rules)) (omega (arith, few_unused, few-entries)) (omega arith))
      (λ _. two_bytes area_full_number 8 0 0 (omega arith) (omega arith) (omega arith) (omega arith)))
      (λ _. two_bytes area_full_number 7 0 0 (omega arith) (omega arith) (omega arith) (omega arith))

few_mapped : (names entries : List ℕ) → map_check names entries ≡ true → length (entries_of names entries) ≤ 2048
unfolding map_check
few_mapped names entries good =
    let whole : Bool = eqb (length entries % map_width) 0 in
    let few : Bool = leb (entry_count entries) most_entries in
    let inside : Bool = all (name_inside (length names)) (contents map_format entries (entry_count entries)) in
    let front = (and_parts (whole && few) inside (and_parts (whole && few && inside) (distinct (entries_of names entries)) good).0).0 in
    omega (arith, entries_count names entries, leb-true (entry_count entries) most_entries (and_parts whole few front).1)

pub link_small : (b : SheetBytes) (names entries x7 x8 : List ℕ) → TwoBytes (link_fields (link_call b names entries x7 x8).answer)
unfolding link_call link_fields
link_small b names entries x7 x8 =
    cond_both (sheet_check b) _ _ LinkSmall
    (λ passed. cond_both (map_check names entries) _ _ LinkSmall
    (λ good.
    let few : length (decoded b).rules ≤ 2048 = omega (arith, rules_count b, (checked_counts b passed).2) in
    checked_small (name_in b) (decoded b).rules (entries_of names entries) b.area2 x7 x8 few (few_mapped names entries good))
    (λ _. no_values broken_map_number (omega arith)))
    (λ _. no_values broken_sheet_number (omega arith))

-- ---- the start call and the step call

abbrev Small : RunLeft StepAnswer → Type 0
Small o = TwoBytes (step_fields o.answer)

module _ (x : Lexer) (small : (k : ℕ) → SmallRule (nth_rule x.rules k)) (run : Running) (i : Input) (row-bytes : AllBytes i.row) where
  abbrev row : List ℕ
  row = i.row

  length_small : (k : ℕ) → length_in row k < 65536
  unfolding entry_at
  length_small k = field_small row (k * entry_width) 0 row-bytes

  won_small : (k bytes : ℕ) → bytes < 65536 → run.run.position < 65536 → Small (won_by run (nth_rule x.rules k) bytes)
  unfolding won_by view view_fields
  won_small k bytes h p =
      cond_both (eqb (nth_rule x.rules k).named 1) _ _ Small
      (λ _. cond_both (eqb (nth_rule x.rules k).has_id 1) _ _ Small
      (λ _. two_bytes token_number _ _ _ (omega arith) (small k).id p h) (λ _. no_values unlinked_number (omega arith)))
      (λ _. no_values skip_number (omega arith))

  run_small : Small (step_run x run i)
  unfolding step_run step_row choose view view_fields
  run_small =
      let f : ℕ → ℕ = weight x (current run) row in
      cond_both (good_text run.run.n i.text) _ _ Small
      (λ _. cond_both (good_run (length x.states) run) _ _ Small
      (λ good. cond_both (eqb run.run.position run.run.n) _ _ Small (λ _. no_values done_number (omega arith))
      (λ _. cond_both (good_row (fits_in i.text run.run) (length x.rules) row) _ _ Small
      (λ _. cond_both (eqb (greatest f (length x.rules)) 0) _ _ Small (λ _. no_values stopped_number (omega arith))
      (λ _.
      let low = weights_low x (current run) row 65535 (length x.rules) (λ k _. omega (arith, length_small k)) in
      let numbers = run_is (length x.states) run.run run.stack good in
      won_small _ _ (omega (arith, low)) (omega (arith, within_low run.run.kind run.run.n numbers.limited, numbers.inside))))
      (λ _. no_values row_mismatch_number (omega arith))))
      (λ _. no_values broken_run_number (omega arith)))
      (λ _. no_values text_mismatch_number (omega arith))

pub step_small : (b : SheetBytes) (run : Running) (i : Input) → AllBytes b.area2 → AllBytes i.row
    → TwoBytes (step_fields (step_call b run i).answer)
unfolding step_call view view_fields decoded
step_small b run i rules-bytes row-bytes =
    cond_both (sheet_check b) _ _ Small (λ _. run_small (lexer_of (decoded b)) (λ k. small_rule b.area2 (get_or b.counts 1 0) k rules-bytes) run i row-bytes)
    (λ _. no_values broken_sheet_number (omega arith))

pub start_small : (x : StartAnswer) → TwoBytes (start_fields x)
unfolding start_fields
start_small (Ok _) = no_values accepted_number (omega arith)
start_small (Err UnknownCaller) = no_values unknown_caller_number (omega arith)
start_small (Err StartRefused) = no_values start_refused_number (omega arith)
start_small (Err TextMismatch) = no_values text_mismatch_number (omega arith)
