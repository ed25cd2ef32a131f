-- The places between which a file is read lie within it: where lines are skipped, and where a pattern ends.
use Prim.Native.Nat.{ℕ, ◌+◌, ◌%◌, ◌≤◌}
use mathlib.Core.Path.{◌≡◌, refl}
use mathlib.Core.Bool.{true, false≢true}
use mathlib.Core.List.{List}
use mathlib.Core.Logic.{⊎_elim}
use native.Mathlib.Nat.{eq-zero-or-pos}
use native.Mathlib.Omega.{arith}
use lib.Dec.{eqb}
use lib.ListN.{length}
use Rattle.std.proofs.lemmas.Bool.{cond_both}
use Rattle.characters.specs.Whitespace.{whitespace_len, line_end_len, at_line_end}
use Rattle.text.specs.Range.{lookahead_is}
use Rattle.text.specs.Scan.{line_end, skip_whitespace, skip_line_ends, trim_end, backslashes_before, keep_escaped, trim_end_unescaped}
use Rattle.std.specs.Prelude.{Option, Some, None, is_some}
use Rattle.characters.proofs.Walks.{first_to, repeat_keeps, skip_to_lem}
use Rattle.characters.proofs.Spaces.{white_inside, end_inside}
use Rattle.section.specs.declared.options.Options.{Options}
use Rattle.section.specs.Section.{is_comment, past_comment, past_line, to_declaration, past_rule_line, to_rule}
use Rattle.section.proofs.Lines.{ahead_within}

module _ (s : List ℕ) where
  comment_to : (options : Options) (i : ℕ) → i ≤ length s → past_comment s options i ≤ length s
  unfolding past_comment
  comment_to options i h =
      cond_both (is_comment s options.comments i) (line_end s i) i (λ k. k ≤ length s) (λ _. first_to (at_line_end s) i (length s) h) (λ _. h)

  pub declaration_to : (options : Options) (i : ℕ) → i ≤ length s → to_declaration s options i ≤ length s
  unfolding to_declaration past_line
  declaration_to options i h =
      repeat_keeps (λ k. k ≤ length s) (past_line s options)
      (λ k l. comment_to options (skip_whitespace s k) (skip_to_lem (whitespace_len s) (length s) (white_inside s) k l)) (length s) i h

  pub rule_to : (options : Options) (i : ℕ) → i ≤ length s → to_rule s options i ≤ length s
  unfolding to_rule past_rule_line
  rule_to options i h =
      repeat_keeps (λ k. k ≤ length s) (past_rule_line s options)
      (λ k l. comment_to options (skip_line_ends s k) (skip_to_lem (line_end_len s) (length s) (end_inside s) k l)) (length s) i h

  -- a word that stands at i ends within the text
  pub word_to : (w : List ℕ) (i : ℕ) → i ≤ length s → is_some (lookahead_is s w i) ≡ true → i + length w ≤ length s
  word_to w i h e = by (lookahead_is s w i) refl e
    where
      by : (f : Option ℕ) → lookahead_is s w i ≡ f → is_some f ≡ true → i + length w ≤ length s
      by (Some j) q z = omega (arith, ahead_within s w i j q)
      by None q z = absurd (false≢true z)

  -- whitespace that stands at u ends within the text
  white_to : (u : ℕ) → u ≤ length s → u + whitespace_len s u ≤ length s
  white_to u h = ⊎_elim (λ z. omega arith) (λ p. white_inside s u p) (eq-zero-or-pos (whitespace_len s u))

  pub pattern_to : (i e : ℕ) → i ≤ e → e ≤ length s → trim_end_unescaped s i e ≤ length s
  unfolding trim_end_unescaped keep_escaped trim_end
  pattern_to i e h l =
      let u = trim_end s i e in
      let v : u ≤ e = first_to _ i e h in
      cond_both (eqb u e) e _ (λ k. k ≤ length s) (λ _. l)
      (λ _. cond_both (eqb (backslashes_before s i u % 2) 1) (u + whitespace_len s u) u (λ k. k ≤ length s) (λ _. white_to u (omega arith)) (λ _. omega arith))
