-- Lines that are skipped. Each way to skip goes forward, and not past the end of the text; so repeating it comes to rest. The loops stand where
-- nothing is left to skip, so that from there a step only passes a line, and repeating comes to rest at the same place.
use mathlib.Core.Path.{◌≡◌, refl, sym, ap, ◌∙◌}
use mathlib.Core.Bool.{Bool, true, false, cond, false≢true, and-false}
use mathlib.Core.List.{List}
use mathlib.Core.Logic.{⊎_elim}
use Prim.Native.Nat.{ℕ, ◌+◌, ◌-◌, ◌%◌, ◌≤◌, ◌<◌, max}
use native.Mathlib.Nat.{eq-zero-or-pos}
use native.Mathlib.Omega.{arith}
use borrow.Author.Rules.{rules}
use borrow.Author.Tests.{eq-eqb, ne_eqb, eqb-true, eqb-false}
use lib.Dec.{eqb}
use lib.ListN.{length, drop, length-take, length-drop}
use lib.Seq.{get_or-take, get_or-drop}
use Rattle.std.proofs.lemmas.Bool.{cond_both, and_parts}
use Rattle.characters.specs.Walk.{first, repeat, skip, Between}
use Rattle.characters.specs.Class.{is_line_end}
use Rattle.characters.specs.Whitespace.{byte, line_end_of, whitespace_len, line_end_len, at_line_end}
use Rattle.text.specs.Range.{part, same_bytes, lookahead_is}
use Rattle.text.specs.Scan.{line_end}
use Rattle.std.specs.Prelude.{Option, Some, None, is_some}
use Rattle.characters.proofs.Tests.{le_or_lt}
use Rattle.characters.proofs.Walks.{first_here, first_next, first_from, first_to, repeat_stop, repeat_keeps, repeat_go, repeat_stays, skip_stays, skip_stops, skip_from, skip_to_lem}
use Rattle.characters.proofs.Spaces.{end_one, white_inside, end_inside}
use Rattle.text.proofs.Ranges.{ahead_short, same_equal}
use Rattle.std.proofs.lemmas.Option.{none-some}
use Rattle.section.specs.declared.options.Options.{Options}
use Rattle.section.specs.Options.{comments}
use Rattle.section.specs.Section.{percents, slashes, is_comment, past_comment, past_both, past_line, to_declaration, past_rule_line, to_rule, in_section}

-- ---- a word that stands at i: its bytes, and that it ends within the text

word_stands : (s w : List ℕ) (i : ℕ) → is_some (lookahead_is s w i) ≡ true → part s i (i + length w) ≡ w
unfolding lookahead_is
word_stands s w i =
    cond_both (same_bytes (part s i (i + length w)) w) (Some (i + length w)) None (λ f. is_some f ≡ true → part s i (i + length w) ≡ w)
    (λ e _. same_equal (part s i (i + length w)) w e)
    (λ _ z. absurd (false≢true z))

part_short : (s : List ℕ) (i n : ℕ) → length (part s i (i + n)) ≡ n → i + n ≤ max i (length s)
unfolding part
part_short s i n e = omega (arith, simp (length-take, length-drop) at e)

word_within : (s w : List ℕ) (i : ℕ) → is_some (lookahead_is s w i) ≡ true → i + length w ≤ max i (length s)
word_within s w i e = part_short s i (length w) (ap length (word_stands s w i e))

pub ahead_within : (s w : List ℕ) (i j : ℕ) → lookahead_is s w i ≡ Some j → (i + length w ≡ j) × (i + length w ≤ max i (length s))
unfolding lookahead_is
ahead_within s w i j e =
    (cond_both (same_bytes (part s i (i + length w)) w) (Some (i + length w)) None (λ f. f ≡ Some j → i + length w ≡ j) (λ _ z. cc) (λ _ z. absurd (none-some j z)) e, word_within s w i (ap is_some e))

-- ---- the tests

module _ (s : List ℕ) (flags i : ℕ) where
  -- with flag 1, a line that it skips starts where two slashes stand
  pub comment_on : (f : Option ℕ) (r : Bool) → flags % 2 ≡ 1 → f ≡ lookahead_is s slashes i → r ≡ is_some f → r ≡ is_comment s (comments flags) i
  unfolding is_comment comments
  comment_on f r o e q = q ∙ ap is_some e ∙ sym (rw (eq-eqb (flags % 2) 1 o))

  -- without it no such line starts anywhere
  pub comment_off : (flags % 2 ≡ 1 → ⊥) → false ≡ is_comment s (comments flags) i
  unfolding is_comment comments
  comment_off o = rw (ne_eqb (flags % 2) 1 o)

-- ---- the end of a section

module _ (s : List ℕ) (i : ℕ) where
  pub percents_end : (f : Option ℕ) → f ≡ lookahead_is s percents i → i ≤ length s → (j : ℕ) → f ≡ Some j → j ≤ length s
  percents_end f e l j q = omega (arith, ahead_within s percents i j (sym e ∙ q))

-- ---- the end of a line that starts with two slashes

part_byte : (s : List ℕ) (i e j : ℕ) → j < e - i → byte (part s i e) j ≡ byte s (i + j)
unfolding part
part_byte s i e j h = get_or-take (e - i) (drop i s) j 0 h ∙ get_or-drop i s j 0

no_end_at_slash : (s : List ℕ) (k : ℕ) → byte s k ≡ 0x2f → at_line_end s k ≡ false
unfolding line_end_len line_end_of is_line_end
no_end_at_slash s k e = rw e refl

end_at_byte : (s : List ℕ) (k : ℕ) → is_line_end (byte s k) ≡ true → 1 ≡ line_end_len s k
unfolding line_end_len
end_at_byte s k e = end_one (byte s k) (byte s (k + 1)) (byte s (k + 2)) e

pub slashes_told : (s : List ℕ) (comments : Bool) (i : ℕ) (r : Bool) → r ≡ is_comment s comments i → r ≡ true → is_some (lookahead_is s slashes i) ≡ true
unfolding is_comment
slashes_told s comments i r q t = (and_parts comments (is_some (lookahead_is s slashes i)) (sym q ∙ t)).1

module _ (s : List ℕ) (i : ℕ) (stand : is_some (lookahead_is s slashes i) ≡ true) where
  pub slashes_inside : i + 2 ≤ length s
  slashes_inside = omega (arith, word_within s slashes i stand)

  slash_at : (k j : ℕ) → k ≡ i + j → j < 2 → byte s k ≡ byte slashes j
  slash_at k j e h =
      ap (byte s) e ∙ sym (part_byte s i (i + 2) j (omega arith)) ∙ ap (λ (l : List ℕ). byte l j) (word_stands s slashes i stand)

  slashes_passed : line_end s i ≡ line_end s (i + 2)
  slashes_passed =
      let q : i + 1 + 1 ≡ i + 2 = omega arith in
      first_next (at_line_end s) i (length s) (omega (arith, slashes_inside)) (no_end_at_slash s i (slash_at i 0 (omega arith) (omega arith)))
      ∙ first_next (at_line_end s) (i + 1) (length s) (omega (arith, slashes_inside)) (no_end_at_slash s (i + 1) (slash_at (i + 1) 1 refl (omega arith)))
      ∙ ap (line_end s) q

  pub comment_empty : (b : ℕ) (r : Bool) → b ≡ byte s (i + 2) → r ≡ is_line_end b → r ≡ true → Between (i + 2) (length s) (line_end s i) (i + 2)
  comment_empty b r e f t =
      let one = end_at_byte s (i + 2) (ap is_line_end (sym e) ∙ sym f ∙ t) in
      let here : at_line_end s (i + 2) ≡ true = rw (← one) refl in
      let l = end_inside s (i + 2) (omega arith) in
      record { is = first_here (at_line_end s) (i + 2) (length s) (omega arith) here ∙ sym slashes_passed; from = omega arith; to = slashes_inside }

  pub comment_ends : (r : ℕ) → Between (i + 2) (length s) (line_end s (i + 2)) r → Between (i + 2) (length s) (line_end s i) r
  comment_ends r b = record { is = b.is ∙ sym slashes_passed; from = b.from; to = b.to }

pub ruleset ending = (rules, slashes_inside, comment_empty, comment_ends)

-- ---- going forward

-- the first position that passes is not before i, and not past e
pub first_between : (test : ℕ → Bool) (i e : ℕ) → i ≤ e → Between i e (first test i e) (first test i e)
first_between test i e h = record { is = refl; from = first_from test i e; to = first_to test i e h }

record Forward (next : ℕ → ℕ) (n : ℕ) : Type 0 where
  from : (k : ℕ) → k ≤ next k
  to : (k : ℕ) → k ≤ n → next k ≤ n
  out : (k : ℕ) → n < k → next k ≡ k

forward_falls : (next : ℕ → ℕ) (n : ℕ) → Forward next n → (k : ℕ) → (next k ≡ k → ⊥) → n - next k < n - k
forward_falls next n f k d =
    ⊎_elim (λ h. omega (arith, f.from k, f.to k h)) (λ h. absurd (d (f.out k h))) (le_or_lt k n)

forward_skip : (width : ℕ → ℕ) (n : ℕ) → ((k : ℕ) → 0 < width k → k + width k ≤ n) → Forward (skip width n) n
forward_skip width n inside = record {
  from = skip_from width n inside;
  to = skip_to_lem width n inside;
  out = λ k h. sym (skip_stays width n inside k (⊎_elim (λ z. z) (λ p. absurd (omega (arith, inside k p))) (eq-zero-or-pos (width k))));
}

no_comment_outside : (s : List ℕ) (options : Options) (k : ℕ) → length s < k → is_comment s options.comments k ≡ false
unfolding is_comment
no_comment_outside s options k h = rw (← ahead_short s slashes k (omega arith)) (and-false options.comments)

forward_comment : (s : List ℕ) (options : Options) → Forward (past_comment s options) (length s)
unfolding past_comment
forward_comment s options = record { from = λ k. from k (is_comment s options.comments k); to = λ k. to k (is_comment s options.comments k); out = out }
  where
    from : (k : ℕ) (t : Bool) → k ≤ cond t (line_end s k) k
    from k true = first_from (at_line_end s) k (length s)
    from k false = omega arith

    to : (k : ℕ) (t : Bool) → k ≤ length s → cond t (line_end s k) k ≤ length s
    to k true h = first_to (at_line_end s) k (length s) h
    to k false h = h

    out : (k : ℕ) → length s < k → cond (is_comment s options.comments k) (line_end s k) k ≡ k
    out k h = rw (no_comment_outside s options k h)

forward_both : (f g : ℕ → ℕ) (n : ℕ) → Forward f n → Forward g n → Forward (λ k. g (f k)) n
forward_both f g n a b = record {
  from = λ k. omega (arith, a.from k, b.from (f k));
  to = λ k h. b.to (f k) (a.to k h);
  out = λ k h. ap g (a.out k h) ∙ b.out k h;
}

-- ---- skipping, and then passing a line, over and over

pub none_left : (width : ℕ → ℕ) (n : ℕ) → ((k : ℕ) → 0 < width k → k + width k ≤ n) → (i j : ℕ) → j ≡ skip width n i → width j ≡ 0
none_left width n inside i j e = rw e (skip_stops width n inside i)

module _ (s : List ℕ) (options : Options) (width : ℕ → ℕ) where
  -- to where such a step stays: to_declaration and to_rule are instances
  abbrev walk : ℕ → ℕ
  walk i = repeat (past_both s options width) (length s) i

module _ (s : List ℕ) (options : Options) (width : ℕ → ℕ) (inside : (k : ℕ) → 0 < width k → k + width k ≤ length s) where
  steps : Forward (past_both s options width) (length s)
  steps = forward_both (skip width (length s)) (past_comment s options) (length s) (forward_skip width (length s) inside) (forward_comment s options)

  falls : (k : ℕ) → (past_both s options width k ≡ k → ⊥) → length s - past_both s options width k < length s - k
  falls = forward_falls (past_both s options width) (length s) steps

  walk_between : (i : ℕ) → i ≤ length s → Between i (length s) (walk s options width i) (walk s options width i)
  walk_between i h = record {
    is = refl;
    from = repeat_keeps (λ k. i ≤ k) (past_both s options width) (λ k l. omega (arith, steps.from k)) (length s) i (omega arith);
    to = repeat_keeps (λ k. k ≤ length s) (past_both s options width) steps.to (length s) i h;
  }

  onward : (k : ℕ) → walk s options width k ≡ walk s options width (past_both s options width k)
  onward k = go (eqb (past_both s options width k) k) refl
    where
      go : (t : Bool) → eqb (past_both s options width k) k ≡ t → walk s options width k ≡ walk s options width (past_both s options width k)
      go true e = ap (walk s options width) (sym (eqb-true (past_both s options width k) k e))
      go false e = repeat_go (past_both s options width) (λ m. length s - m) falls (length s) k (omega arith) (eqb-false (past_both s options width k) k e)

  -- where nothing is left to skip, a step passes a line only
  step_there : (k : ℕ) → width k ≡ 0 → past_both s options width k ≡ past_comment s options k
  step_there k z = ap (past_comment s options) (sym (skip_stays width (length s) inside k z))

  -- skipping first changes nothing: the step from i and the step from j lead to the same place
  pub skipped : (i j : ℕ) → j ≡ skip width (length s) i → walk s options width i ≡ walk s options width j
  skipped i j e =
      let same : past_both s options width i ≡ past_both s options width j = ap (past_comment s options) (sym e) ∙ sym (step_there j (none_left width (length s) inside i j e)) in
      onward i ∙ ap (walk s options width) same ∙ sym (onward j)

  -- the loop began at i and stands at k, where nothing is left to skip
  module _ (i k : ℕ) (before : walk s options width i ≡ walk s options width k) (none : width k ≡ 0) (r : Bool) (told : r ≡ is_comment s options.comments k) where
    pub rests : r ≡ false → k ≡ walk s options width i
    unfolding past_comment
    rests t = repeat_stop (past_both s options width) (length s) k (step_there k none ∙ rw (← told, t)) ∙ sym before

    pub passes : (e j : ℕ) → r ≡ true → e ≡ line_end s k → j ≡ skip width (length s) e → walk s options width i ≡ walk s options width j
    unfolding past_comment
    passes e j t ends z = before ∙ onward k ∙ ap (walk s options width) (step_there k none ∙ rw (← told, t) (sym ends)) ∙ skipped e j z

  -- where the walk comes to rest, nothing is left to skip: the step that stays there has skipped nothing
  none_there : (i : ℕ) → width (walk s options width i) ≡ 0
  none_there i =
      let k = walk s options width i in
      let e : past_both s options width k ≡ k = repeat_stays (past_both s options width) (λ m. length s - m) falls (length s) i (omega arith) in
      let stays : skip width (length s) k ≡ k = omega (arith, skip_from width (length s) inside k, (forward_comment s options).from (skip width (length s) k)) in
      rw stays at (skip_stops width (length s) inside k)

module _ (s : List ℕ) (options : Options) (i : ℕ) where
  pub declaration_starts : whitespace_len s (to_declaration s options i) ≡ 0
  unfolding to_declaration past_line
  declaration_starts = none_there s options (whitespace_len s) (white_inside s) i

  pub rule_starts : line_end_len s (to_rule s options i) ≡ 0
  unfolding to_rule past_rule_line
  rule_starts = none_there s options (line_end_len s) (end_inside s) i

  pub declaration_between : i ≤ length s → Between i (length s) (to_declaration s options i) (to_declaration s options i)
  unfolding to_declaration past_line
  declaration_between = walk_between s options (whitespace_len s) (white_inside s) i

  pub rule_between : i ≤ length s → Between i (length s) (to_rule s options i) (to_rule s options i)
  unfolding to_rule past_rule_line
  rule_between = walk_between s options (line_end_len s) (end_inside s) i

-- ---- a line that is not skipped has a byte

pub line_has_byte : (s : List ℕ) (i : ℕ) → i < length s → line_end_len s i ≡ 0 → i < line_end s i
line_has_byte s i h z =
    let on : line_end s i ≡ line_end s (i + 1) = first_next (at_line_end s) i (length s) h (rw z) in
    omega (arith, first_from (at_line_end s) (i + 1) (length s))

-- a section that goes on at i has a byte there
pub in_section_inside : (s : List ℕ) (i : ℕ) (t : Bool) → t ≡ in_section s i → t ≡ true → i ≤ length s → i < length s
unfolding in_section
in_section_inside s i t e q l = by (eqb i (length s)) refl
  where
    by : (b : Bool) → eqb i (length s) ≡ b → i < length s
    by true z = absurd (false≢true (rw z at (sym e ∙ q)))
    by false z = omega (arith, eqb-false i (length s) z)
