-- A declaration, and the loop over the declarations: a law for each way through. What a part of the areas comes to is the outcome for all of
-- them, the others unchanged; and a line that is read has a byte, so the loop goes forward.
use mathlib.Core.Path.{◌≡◌, refl, sym, ap, subst, ◌∙◌}
use mathlib.Core.Bool.{Bool, true, false}
use mathlib.Core.List.{List}
use Prim.Native.Nat.{ℕ, ◌-◌, ◌≤◌, ◌<◌}
use native.Mathlib.Nat.{le_refl}
use native.Mathlib.Omega.{arith}
use borrow.Author.Rules.{rules}
use lib.Dec.{eqb}
use lib.ListN.{length}
use Rattle.std.proofs.lemmas.Bool.{cond_both}
use Rattle.std.specs.Prelude.{Option, Some, None, Result, Ok, Err}
use Rattle.characters.specs.Walk.{Between}
use Rattle.characters.specs.Whitespace.{whitespace_len, at_whitespace}
use Rattle.text.specs.Range.{lookahead_is}
use Rattle.text.specs.Scan.{line_end, skip_blanks, find_whitespace, trim_end, trim_start}
use Rattle.characters.proofs.Walks.{first_from, first_to}
use Rattle.characters.proofs.Spaces.{end_none_of_white}
use Rattle.area.specs.Contents.{contents, expected_format, Held}
use Rattle.fault.specs.declared.Stop.{Stop}
use Rattle.fault.specs.declared.Stop.TheVariants.{Fault}
use Rattle.fault.specs.Kinds.{error_at}
use Rattle.fault.specs.declared.kinds.LexErrorKind.TheVariants.{UnknownDeclaration, PrematureEnd}
use Rattle.fault.specs.Step.{Out, go, bad, full, next, onto, loop, outcome, Does}
use Rattle.fault.proofs.Steps.{Loops, loops_stop, loops_next, loops_err, going_start, does_go, does_bad, does_err, was_ok, was_err, holds_ok, holds_err}
use Rattle.fault.proofs.Steps.{bad_goes, full_goes, then_ok, then_err, next_err, onto_err}
use Rattle.section.specs.declared.options.Options.{Options}
use Rattle.section.specs.Section.{percents, to_declaration, in_section}
use Rattle.section.specs.Reader.{NextLine}
use Rattle.section.specs.declared.reader.Line.{Line}
use Rattle.section.proofs.Lines.{ahead_within, in_section_inside, declaration_starts, line_has_byte}
use Rattle.declarations.specs.declared.Declaration.{Declaration}
use Rattle.declarations.specs.declared.Declaration.TheVariants.{States, Expecting, Unknown}
use Rattle.declarations.specs.declared.DeclarationCounts.{DeclarationCounts}
use Rattle.declarations.specs.Declarations.{Range, range, trimmed, word_end, first_word, rest_of, is_inclusive, is_exclusive, is_expecting, states_of, declaration_of}
use Rattle.declarations.specs.Declarations.{names, name_caps, Declared, Caps, with_names, with_expected, then_at, state_names, expected_names}
use Rattle.declarations.specs.Declarations.{declare_as, declaration, next_declaration, end_declarations, declarations}
use Rattle.declarations.specs.Answers.{HeldNames, names_in, HeldDeclared, declared_in, caps_of}
use Rattle.declarations.specs.declared.areas.DeclarationAreas.{DeclarationAreas}
use Rattle.declarations.specs.Areas.{SameAreas, DeclaredHeld, caps_in, declared_held_in}
use Rattle.declarations.proofs.Declares.{same_areas, same_areas_on}

-- ---- what a line says ends within the line

abbrev Within : ℕ → Declaration → Type 0
Within e (States x r) = (r.start ≤ r.end) × (r.end ≤ e)
Within e (Expecting w) = w ≤ e
Within e Unknown = Unit {0}

start_within : (s : List ℕ) (r e : ℕ) → trim_start s r e ≤ e
unfolding trim_start
start_within s r e = omega arith

states_within : (s : List ℕ) (x r e : ℕ) → Within e (states_of x (trimmed s (range r e)))
unfolding states_of trimmed trim_end
states_within s x r e =
    let a = trim_start s r e in
    cond_both (eqb a (trim_end s a e)) Unknown _ (Within e) (λ _. tt) (λ _. (first_from _ a e, first_to _ a e (start_within s r e)))

rest_within : (s : List ℕ) (i e : ℕ) → i ≤ e → (rest_of s (range i e)).start ≤ e
unfolding rest_of word_end
rest_within s i e h =
    cond_both (eqb (find_whitespace s i e) (trim_end s i e)) e (find_whitespace s i e) (λ r. r ≤ e) (λ _. le_refl e) (λ _. first_to (at_whitespace s) i e h)

of_within : (s : List ℕ) (i e : ℕ) → i ≤ e → Within e (declaration_of s (range i e))
unfolding declaration_of rest_of
of_within s i e h =
    let l = range i e in
    let r = (rest_of s l).start in
    cond_both (is_inclusive s (first_word s l)) _ _ (Within e) (λ _. states_within s 0 r e)
    (λ _. cond_both (is_exclusive s (first_word s l)) _ _ (Within e) (λ _. states_within s 1 r e)
    (λ _. cond_both (is_expecting s (first_word s l)) (Expecting r) Unknown (Within e) (λ _. rest_within s i e h) (λ _. tt)))

module _ (s : List ℕ) (i e : ℕ) (d : Declaration) (is : d ≡ declaration_of s (range i e)) (h : i ≤ e) where
  pub names_within : (x : ℕ) (r : Range) → d ≡ States x r → (r.start ≤ r.end) × (r.end ≤ e)
  names_within x r q = subst (Within e) (sym is ∙ q) (of_within s i e h)

  pub expected_within : (w : ℕ) → d ≡ Expecting w → w ≤ e
  expected_within w q = subst (Within e) (sym is ∙ q) (of_within s i e h)

-- ---- a declaration

module _ (s : List ℕ) (i e : ℕ) (l1 l5 l6 : List ℕ) (q : DeclarationCounts) (h : HeldDeclared l1 l5 l6 q) (d : Declaration)
    (is : d ≡ declaration_of s (range i e)) where
  abbrev caps : Caps
  caps = caps_of (length l1) (length l5) (length l6)

  abbrev before : Declared
  before = declared_in l1 l5 l6 q

  abbrev Done : List ℕ → List ℕ → List ℕ → Result ℕ Stop → DeclarationCounts → Type 0
  Done v1 v5 v6 r p = Does (HeldDeclared v1 v5 v6) (declaration s caps i e) before (declared_in v1 v5 v6) (outcome r p)

  step : (y : Declaration) → d ≡ y → declaration s caps i e before ≡ declare_as s caps (range i e) y before
  unfolding declaration
  step y z = ap (λ (x : Declaration). declare_as s caps (range i e) x before) (sym is ∙ z)

  pub line_unknown : d ≡ Unknown → Done l1 l5 l6 (Err (Fault (error_at UnknownDeclaration i))) q
  unfolding declare_as
  line_unknown z = does_bad (step Unknown z) h

  -- a part of the areas, of which g makes the whole, comes to what r tells
  module _ {S : Type 0} (lift : S → Declared) (g : Out S) (s' : S) (part : declaration s caps i e before ≡ then_at e (onto lift g)) where
    part_ok : {j : ℕ} → g ≡ go j s' → declaration s caps i e before ≡ go e (lift s')
    part_ok w = part ∙ ap (λ (o : Out S). then_at e (onto lift o)) w

    part_err : (y : Stop) → g ≡ outcome (Err y) s' → declaration s caps i e before ≡ outcome (Err y) (lift s')
    part_err y w =
        part ∙ ap (λ (o : Out S). then_at e (onto lift o)) w ∙ ap (then_at e) (onto_err lift y s') ∙ next_err y (lift s') (λ j t. go e t)

  -- the names leave the expected names as they are
  module _ (x : ℕ) (part : Range) (z : d ≡ States x part) {v1 v5 v6 : List ℕ} (r : Result ℕ Stop) (p : DeclarationCounts) (bytes : v5 ≡ l5)
      (count : p.expected ≡ q.expected)
      (n : Does (HeldNames v1 v6) (state_names s (name_caps (length l1) (length l6)) x part) (names_in l1 l6 q.names) (names_in v1 v6)
      (outcome r p.names)) where
    by_names : declaration s caps i e before
        ≡ then_at e (onto (with_names before) (state_names s (name_caps (length l1) (length l6)) x part (names_in l1 l6 q.names)))
    unfolding declare_as
    by_names = step (States x part) z

    abbrev renamed : ℕ → DeclarationCounts
    renamed m = record { names = p.names; expected = m }

    held_names : HeldNames v1 v6 p.names → HeldDeclared v1 l5 v6 (renamed q.expected)
    held_names g = record { names = g; expected = h.expected }

    kept : (o : Result ℕ Stop) → Done v1 l5 v6 o (renamed q.expected) → Done v1 v5 v6 o p
    kept o g =
        subst (λ (m : ℕ). Done v1 v5 v6 o (renamed m)) (sym count) (subst (λ (y : List ℕ). Done v1 y v6 o (renamed q.expected)) (sym bytes) g)

    pub line_states : {j : ℕ} → r ≡ Ok j → Done v1 v5 v6 (Ok e) p
    line_states y = kept (Ok e) (does_go (part_ok (with_names before) _ _ by_names (was_ok r p.names n y)) (held_names (holds_ok r p.names n y)))

    pub line_states_err : (w : Stop) → r ≡ Err w → Done v1 v5 v6 (Err w) p
    line_states_err w y =
        kept (Err w) (does_err w _ (part_err (with_names before) _ _ by_names w (was_err r p.names n w y)) (λ f. held_names (holds_err r p.names n w y f)))

  module _ (w : ℕ) (z : d ≡ Expecting w) {v5 : List ℕ} (r : Result ℕ Stop) (m : ℕ)
      (n : Does (Held expected_format v5) (expected_names s (length l5) (range i e) w) (contents expected_format l5 q.expected)
      (contents expected_format v5) (outcome r m)) where
    by_expected : declaration s caps i e before
        ≡ then_at e (onto (with_expected before) (expected_names s (length l5) (range i e) w (contents expected_format l5 q.expected)))
    unfolding declare_as
    by_expected = step (Expecting w) z

    held_expected : Held expected_format v5 m → HeldDeclared l1 v5 l6 (record { names = q.names; expected = m })
    held_expected g = record { names = h.names; expected = g }

    pub line_expected : {j : ℕ} → r ≡ Ok j → Done l1 v5 l6 (Ok e) (record { names = q.names; expected = m })
    line_expected y = does_go (part_ok (with_expected before) _ _ by_expected (was_ok r m n y)) (held_expected (holds_ok r m n y))

    pub line_expected_err : (x : Stop) → r ≡ Err x → Done l1 v5 l6 (Err x) (record { names = q.names; expected = m })
    line_expected_err x y = does_err x _ (part_err (with_expected before) _ _ by_expected x (was_err r m n x y)) (λ f. held_expected (holds_err r m n x y f))

pub names_in_source : (s : List ℕ) (l : Range) (d : Declaration) → d ≡ declaration_of s l → (l.start ≤ l.end) × (l.end ≤ length s)
    → (x : ℕ) (r : Range) → d ≡ States x r → (r.start ≤ r.end) × (r.end ≤ length s)
names_in_source s l d is inside x r q =
    let within = names_within s l.start l.end d is inside.0 x r q in
    (within.0, omega (arith, within.1, inside.1))

pub ruleset lining_up = (rules, line_unknown, line_states, line_expected)

-- ---- the loop over the declarations

-- a declaration goes on at the end of its line
declared-at : (s : List ℕ) (k : Caps) (i e : ℕ) (d : Declared) {j : ℕ} {t : Declared} → declaration s k i e d ≡ go j t → e ≡ j
unfolding declaration declare_as
declared-at s k i e d {j} {t} z = by (declaration_of s (range i e)) z
  where
    at_end : (o : Out Declared) → then_at e o ≡ go j t → e ≡ j
    at_end (go m u) y = cc
    at_end (bad kind at u) y = absurd (bad_goes y)
    at_end (full n) y = absurd (full_goes y)

    by : (x : Declaration) → declare_as s k (range i e) x d ≡ go j t → e ≡ j
    by (States x r) y = at_end (onto (with_names d) (state_names s (name_caps k.c1 k.c6) x r (names d.states d.faults))) y
    by (Expecting w) y = at_end (onto (with_expected d) (expected_names s k.c5 (range i e) w d.expected)) y
    by Unknown y = absurd (bad_goes y)

-- the loop has come to the line x, at whose start no whitespace stands
pub record Sections (whole : Out Declared) (s : List ℕ) (options : Options) (start : DeclarationAreas) (x : Line) (a : DeclarationAreas) : Type 0 where
  pub held : DeclaredHeld a
  pub within : x.start ≤ length s
  pub ends : Between x.start (length s) (line_end s x.start) x.end
  pub starts : whitespace_len s x.start ≡ 0
  pub same : SameAreas start a
  pub loops : Loops whole (in_section s) (λ c. next_declaration s options c) (length s) (caps_in start) (caps_in a) x.start (declared_held_in a)

-- the section's loop, from the place i
abbrev pub section : List ℕ → Options → Caps → ℕ → Declared → Out Declared
section s options k i d = loop (length s) (in_section s) (next_declaration s options k) (to_declaration s options i) d

pub sections_start : (s : List ℕ) (options : Options) (i : ℕ) (x : Line) (a : DeclarationAreas) → DeclaredHeld a
    → NextLine s (to_declaration s options) i x → Sections (section s options (caps_in a) i (declared_held_in a)) s options a x a
sections_start s options i x a h b = record {
  held = h;
  within = b.starts.to;
  ends = b.ends;
  starts = rw b.starts.is (declaration_starts s options i);
  same = same_areas a;
  loops = record {
    going = rw (← b.starts.is) (going_start (in_section s) (next_declaration s options (caps_in a)) (length s) x.start (declared_held_in a)
        (length s) (omega arith));
    same = refl;
  };
}

module _ {whole : Out Declared} {s : List ℕ} {options : Options} {start : DeclarationAreas} {here : Line} (a : DeclarationAreas)
    (x : Sections whole s options start here a)
    (t : Bool) (tested : t ≡ in_section s here.start) (pass : t ≡ true) (v : DeclarationAreas) (r : Result ℕ Stop)
    (d : Does (HeldDeclared v.states.now v.expected.now v.faults.now) (declaration s (caps_in a) here.start here.end) (declared_held_in a)
    (declared_in v.states.now v.expected.now v.faults.now) (outcome r v.counts)) where
  abbrev i : ℕ
  i = here.start

  abbrev e : ℕ
  e = here.end

  inside : i < length s
  inside = in_section_inside s i t tested pass x.within

  abbrev Moved : Out DeclarationCounts → Type 0
  Moved o = Does (HeldDeclared v.states.now v.expected.now v.faults.now) (next_declaration s options (caps_in a) i) (declared_held_in a)
      (declared_in v.states.now v.expected.now v.faults.now) o

  is_next : next_declaration s options (caps_in a) i (declared_held_in a)
      ≡ next (declaration s (caps_in a) i e (declared_held_in a)) (λ j y. go (to_declaration s options j) y)
  unfolding next_declaration
  is_next = rw (← x.ends.is)

  module _ {j : ℕ} (z : r ≡ Ok j) (y : Line) (c : NextLine s (to_declaration s options) e y) where
    went : Moved (go y.start v.counts)
    went =
        let at : e ≡ j = declared-at s (caps_in a) i e (declared_held_in a) (was_ok r v.counts d z) in
        subst (λ (k : ℕ). Moved (go k v.counts)) (ap (to_declaration s options) (sym at) ∙ sym c.starts.is)
        (then_ok (to_declaration s options) is_next r v.counts d z)

    forward : i < y.start
    forward = omega (arith, line_has_byte s i inside (end_none_of_white s i x.starts), x.ends.is, c.starts.from)

    pub sections_less : length s - y.start < length s - i
    sections_less = omega (arith, forward, c.starts.to)

    pub sections_next : SameAreas a v → Sections whole s options start y v
    sections_next same = record {
      held = holds_ok r v.counts d z;
      within = c.starts.to;
      ends = c.ends;
      starts = rw c.starts.is (declaration_starts s options e);
      same = same_areas_on x.same same;
      loops =
          loops_next x.loops (sym tested ∙ pass) inside went (caps_in v) refl forward
          (λ i. record { c1 = same.states.long i; c5 = same.expected.long i; c6 = same.faults.long i });
    }

  whole_err : (y : Stop) → r ≡ Err y → whole ≡ outcome (Err y) (declared_held_in v)
  whole_err y z =
      loops_err x.loops (sym tested ∙ pass) inside (Err y) v.counts (then_err (to_declaration s options) is_next r v.counts d y z) y refl

-- the section as a whole began at i₀ with the state d₀
module _ (s : List ℕ) (options : Options) (k : Caps) (i₀ : ℕ) (d₀ : Declared) {start : DeclarationAreas} {here : Line} (a : DeclarationAreas)
    (x : Sections (section s options k i₀ d₀) s options start here a) (t : Bool) (tested : t ≡ in_section s here.start) where
  abbrev Ended : DeclarationAreas → Result ℕ Stop → Type 0
  Ended v r = Does (HeldDeclared v.states.now v.expected.now v.faults.now) (declarations s options k i₀) d₀
      (declared_in v.states.now v.expected.now v.faults.now) (outcome r v.counts)

  module _ (stop : t ≡ false) (f : Option ℕ) (ahead : f ≡ lookahead_is s percents here.start) where
    at_end : declarations s options k i₀ d₀ ≡ end_declarations s here.start (declared_held_in a)
    unfolding declarations
    at_end = ap (λ (o : Out Declared). next o (end_declarations s)) (loops_stop x.loops (sym tested ∙ stop))

    pub section_ends : (j m : ℕ) → f ≡ Some j → Between j (length s) (skip_blanks s j) m → Ended a (Ok m)
    unfolding end_declarations
    section_ends j m z b =
        let w = ahead_within s percents here.start j (sym ahead ∙ z) in
        does_go (at_end ∙ rw (← ahead, z, w.0, ← b.is)) x.held

    pub section_cut : f ≡ None → Ended a (Err (Fault (error_at PrematureEnd here.start)))
    unfolding end_declarations
    section_cut z = does_bad (at_end ∙ rw (← ahead, z)) x.held

  pub section_err : (pass : t ≡ true) (v : DeclarationAreas) (r : Result ℕ Stop)
      (d : Does (HeldDeclared v.states.now v.expected.now v.faults.now) (declaration s (caps_in a) here.start here.end) (declared_held_in a)
      (declared_in v.states.now v.expected.now v.faults.now) (outcome r v.counts))
      (y : Stop) → r ≡ Err y → Ended v (Err y)
  unfolding declarations
  section_err pass v r d y z =
      does_err y _
      (ap (λ (o : Out Declared). next o (end_declarations s)) (whole_err a x t tested pass v r d y z) ∙ next_err y (declared_held_in v) (end_declarations s))
      (holds_err r v.counts d y z)

pub ruleset sectioning = (rules, sections_start, sections_less, sections_next, section_ends, section_cut)
