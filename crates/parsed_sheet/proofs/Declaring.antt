-- What the declarations keep: each state and each expected name stands in order within the source, a state's mark is 0 or 1, state 0 is INITIAL,
-- and the lists fit their areas.
use Rattle.std.proofs.lemmas.Bool.{cond_both}
use Rattle.std.specs.Prelude.{is_some}
use Prim.Native.Nat.{ℕ, ◌+◌, ◌-◌, ◌≤◌}
use mathlib.Core.Path.{◌≡◌, refl, sym, subst, ◌∙◌}
use mathlib.Core.Bool.{true, not}
use mathlib.Core.List.{List, [], ◌∷◌, ◌++◌}
use native.Mathlib.Omega.{arith}
use borrow.Author.Tests.{ltb-true}
use lib.Dec.{eqb, ltb}
use lib.ListN.{length, length-append, get_or-append}
use Rattle.characters.specs.Whitespace.{at_whitespace, at_line_end}
use Rattle.text.specs.Range.{lookahead_is}
use Rattle.text.specs.Scan.{line_end, skip_blanks, skip_ascii_whitespace, find_ascii_whitespace, find_whitespace}
use Rattle.characters.proofs.Walks.{first_from, first_to}
use Rattle.area.specs.declared.AreaName.TheVariants as Areas
use Rattle.area.specs.declared.State.{State}
use Rattle.area.specs.declared.Expected.{Expected}
use Rattle.area.specs.Records.{nth_state, state_of, expected_of}
use Rattle.area.specs.Contents.{append, state_format, expected_format}
use Rattle.fault.specs.Step.{Out, go, bad, full, onto, written, loop}
use Rattle.fault.specs.Faults.{add_repeat, DuplicateStartState, InvalidStartStateName, InvalidName, PrematureEnd}
use Rattle.section.specs.declared.options.Options.{Options}
use Rattle.section.specs.Section.{percents, to_declaration, in_section}
use Rattle.names.specs.Names.{is_state_name}
use Rattle.declarations.specs.declared.Declaration.{Declaration}
use Rattle.declarations.specs.declared.Declaration.TheVariants.{States, Expecting, Unknown}
use Rattle.declarations.specs.Declarations.{Range, range, trimmed, first_word, rest_of, is_inclusive, is_exclusive, is_expecting, states_of, declaration_of, declare_as, declaration, next_declaration, end_declarations, declarations}
use Rattle.declarations.specs.Declarations.{Names, names, NameCaps, name_caps, state, behind_name, add_state, repeat_state, state_named, declare_state, state_names, expected, is_quoted, declare_expected, expected_names, Declared, Caps, with_names, with_expected, then_at}
use Rattle.declarations.proofs.Expecting.{quotes_long}
use Rattle.declarations.proofs.Lines.{names_within}
use Rattle.area.specs.Lists.{Each}
use Rattle.parsed_sheet.specs.Accepted.{Fits, StateHolds, ExpectedHolds, StatesHold, ExpectedsHold}
use Rattle.fault.proofs.Yielding.{Yields, yields_next, yields_onto, yields_written, yields_loop}
use Rattle.parsed_sheet.proofs.Appending.{yields_append}
use Rattle.area.proofs.Elements.{each_snoc}
use Rattle.parsed_sheet.proofs.Places.{declaration_to, word_to}

-- ---- the names of states

states_more : (n cap : ℕ) (xs : List State) (x : State) → StatesHold n cap xs → StateHolds n (length xs) x
    → Fits state_format cap (xs ++ (x ∷ [])) → StatesHold n cap (xs ++ (x ∷ []))
states_more n cap xs x h g f = record {
  some = omega (arith, h.some, length-append xs (x ∷ []));
  initial = get_or-append xs (x ∷ []) (state_of (λ _. 0)) 0 h.some ∙ h.initial;
  each = each_snoc (StateHolds n) (state_of (λ _. 0)) xs x h.each g;
  fits = f;
}

abbrev NamesHold : List ℕ → ℕ → ℕ → Names → Type 0
NamesHold s c1 i n = StatesHold (length s) c1 n.states

module _ (s : List ℕ) (k : NameCaps) where
  abbrev AllStates : List State → Type 0
  AllStates xs = StatesHold (length s) k.c1 xs

  abbrev AllNames : ℕ → Names → Type 0
  AllNames i n = NamesHold s k.c1 i n

  repeat_kept : (x y : State) (n : Names) → AllStates n.states → Yields AllNames (repeat_state s k x y n)
  unfolding repeat_state
  repeat_kept x y n h =
      let faults = add_repeat k.c6 DuplicateStartState y.start y.end x.start x.end n.faults in
      yields_onto (λ _ _. AllStates n.states) AllNames (names n.states) (written Areas.Faults (behind_name s x) faults)
      (yields_written (λ _ _. AllStates n.states) Areas.Faults (behind_name s x) faults (λ _. h)) (λ _ _ g. g)

  add_kept : (x : State) (n : Names) → StateHolds (length s) (length n.states) x → AllStates n.states → Yields AllNames (add_state s k x n)
  unfolding add_state
  add_kept x n l h =
      let states = append state_format k.c1 (x ∷ []) n.states in
      yields_onto (λ _ xs. AllStates xs) AllNames (λ xs. names xs n.faults) (written Areas.States (behind_name s x) states)
      (yields_append (λ _ xs. AllStates xs) state_format k.c1 Areas.States (behind_name s x) (x ∷ []) n.states
      (λ f. states_more (length s) k.c1 n.states x h l f)) (λ _ _ g. g)

  state_kept : (x : State) (n : Names) → StateHolds (length s) (length n.states) x → AllStates n.states → Yields AllNames (declare_state s k x n)
  unfolding declare_state
  state_kept x n l h =
      let same = state_named s x n.states in
      let y = nth_state n.states same in
      cond_both (not (is_state_name s x.start x.end)) (bad InvalidStartStateName x.start n) _ (Yields AllNames) (λ _. tt)
      (λ _. cond_both (ltb same (length n.states)) (repeat_state s k x y n) (add_state s k x n) (Yields AllNames)
      (λ _. repeat_kept x y n h) (λ _. add_kept x n l h))

  names_kept : (exclusive a t : ℕ) → exclusive ≤ 1 → t ≤ length s → (n : Names) → AllStates n.states
      → Yields AllNames (state_names s k exclusive (range a t) n)
  unfolding state_names
  names_kept exclusive a t mark l n h =
      yields_loop AllNames (λ j. ltb j t) (λ j. declare_state s k (state j (find_whitespace s j t) exclusive))
      (λ j m e g.
      let b : find_whitespace s j t ≤ t = first_to (at_whitespace s) j t (omega (arith, ltb-true j t e)) in
      let x = state j (find_whitespace s j t) exclusive in
      state_kept x m (record { ordered = first_from (at_whitespace s) j t; inside = omega arith; exclusive = mark }) g) (length s) a n h

-- ---- expected names

module _ (s : List ℕ) (c5 i e : ℕ) (l : e ≤ length s) where
  abbrev AllExpected : ℕ → List Expected → Type 0
  AllExpected j xs = ExpectedsHold (length s) c5 xs

  expected_kept : (a n : ℕ) → n ≤ e → (xs : List Expected) → ExpectedsHold (length s) c5 xs
      → Yields AllExpected (declare_expected s c5 (range i e) (range a n) xs)
  unfolding declare_expected
  expected_kept a n m xs h =
      let x = expected (a + 1) (n - 1) in
      let behind = skip_ascii_whitespace s n e in
      cond_both (is_quoted s (range a n)) (written Areas.Expected behind (append expected_format c5 (x ∷ []) xs)) (bad InvalidName i xs) (Yields AllExpected)
      (λ q. yields_append AllExpected expected_format c5 Areas.Expected behind (x ∷ []) xs (λ f. record { each = more (two_quotes q); fits = f })) (λ _. tt)
    where
      two_quotes : is_quoted s (range a n) ≡ true → a + 2 ≤ n
      two_quotes q = quotes_long s (range a n) true (sym q) refl

      more : a + 2 ≤ n → Each (ExpectedHolds (length s)) (expected_of (λ _. 0)) (xs ++ (expected (a + 1) (n - 1) ∷ []))
      more q =
          each_snoc (ExpectedHolds (length s)) (expected_of (λ _. 0)) xs (expected (a + 1) (n - 1)) h.each
          (record { ordered = omega arith; inside = omega arith })

  all_expected_kept : (w : ℕ) (xs : List Expected) → ExpectedsHold (length s) c5 xs → Yields AllExpected (expected_names s c5 (range i e) w xs)
  unfolding expected_names
  all_expected_kept w xs h =
      yields_loop AllExpected (λ j. ltb j e) (λ j. declare_expected s c5 (range i e) (range j (find_ascii_whitespace s j e)))
      (λ j ys q g. expected_kept j (find_ascii_whitespace s j e) (first_to _ j e (omega (arith, ltb-true j e q))) ys g)
      (length s) (skip_ascii_whitespace s w e) xs h

-- ---- a declaration

-- the mark of the states that a line declares is 0 or 1
abbrev MarkFits : Declaration → Type 0
MarkFits (States exclusive r) = exclusive ≤ 1
MarkFits (Expecting w) = Unit {0}
MarkFits Unknown = Unit {0}

module _ (s : List ℕ) (i e : ℕ) where
  states_marked : (exclusive : ℕ) (r : Range) → exclusive ≤ 1 → MarkFits (states_of exclusive r)
  unfolding states_of
  states_marked exclusive r h = cond_both (eqb r.start r.end) Unknown (States exclusive r) MarkFits (λ _. tt) (λ _. h)

  line_marked : MarkFits (declaration_of s (range i e))
  unfolding declaration_of trimmed
  line_marked =
      let l = range i e in
      cond_both (is_inclusive s (first_word s l)) _ _ MarkFits (λ _. states_marked 0 _ (omega arith))
      (λ _. cond_both (is_exclusive s (first_word s l)) _ _ MarkFits (λ _. states_marked 1 _ (omega arith))
      (λ _. cond_both (is_expecting s (first_word s l)) (Expecting (rest_of s l).start) Unknown MarkFits (λ _. tt) (λ _. tt)))

-- what holds between two declarations, and at the section's end: the place is within the source
pub record DeclaredHolds (s : List ℕ) (k : Caps) (i : ℕ) (d : Declared) : Type 0 where
  pub place : i ≤ length s
  pub states : StatesHold (length s) k.c1 d.states
  pub expected : ExpectedsHold (length s) k.c5 d.expected

pub yields_then : {S T : Type 0} (P : ℕ → S → Type 0) (Q : ℕ → T → Type 0) (e : ℕ) (f : S → T) (o : Out S)
    → Yields P o → ((i : ℕ) (s : S) → P i s → Q e (f s)) → Yields Q (then_at e (onto f o))
yields_then P Q e f (go i s) h g = g i s h
yields_then P Q e f (bad kind at s) h g = tt
yields_then P Q e f (full name) h g = tt

module _ (s : List ℕ) (options : Options) (k : Caps) where
  abbrev AllDeclared : ℕ → Declared → Type 0
  AllDeclared i d = DeclaredHolds s k i d

  line_kept : (i e : ℕ) → i ≤ e → e ≤ length s → (x : Declaration) → declaration_of s (range i e) ≡ x → (d : Declared) → AllDeclared i d
      → Yields AllDeclared (declare_as s k (range i e) x d)
  unfolding declare_as
  line_kept i e a l (States exclusive r) q d h =
      let m : exclusive ≤ 1 = subst MarkFits q (line_marked s i e) in
      let g : r.end ≤ e = (names_within s i e (declaration_of s (range i e)) refl a exclusive r q).1 in
      let caps = name_caps k.c1 k.c6 in
      let before = names d.states d.faults in
      yields_then (NamesHold s k.c1) AllDeclared e (with_names d) (state_names s caps exclusive r before)
      (names_kept s caps exclusive r.start r.end m (omega arith) before h.states)
      (λ _ n f. record { place = l; states = f; expected = h.expected })
  line_kept i e a l (Expecting w) q d h =
      yields_then (AllExpected s k.c5 i e l) AllDeclared e (with_expected d) (expected_names s k.c5 (range i e) w d.expected)
      (all_expected_kept s k.c5 i e l w d.expected h.expected)
      (λ _ xs f. record { place = l; states = h.states; expected = f })
  line_kept i e a l Unknown q d h = tt

  -- lines that are skipped keep it
  skip_kept : (i : ℕ) (d : Declared) → AllDeclared i d → AllDeclared (to_declaration s options i) d
  skip_kept i d h = record { place = declaration_to s options i h.place; states = h.states; expected = h.expected }

  declaration_kept : (i : ℕ) (d : Declared) → AllDeclared i d → Yields AllDeclared (next_declaration s options k i d)
  unfolding next_declaration declaration
  declaration_kept i d h =
      let e = line_end s i in
      yields_next AllDeclared AllDeclared (declaration s k i e d) (λ j t. go (to_declaration s options j) t)
      (line_kept i e (first_from (at_line_end s) i (length s)) (first_to (at_line_end s) i (length s) h.place) (declaration_of s (range i e)) refl d h)
      skip_kept

  end_kept : (i : ℕ) (d : Declared) → AllDeclared i d → Yields AllDeclared (end_declarations s i d)
  unfolding end_declarations
  end_kept i d h =
      cond_both (is_some (lookahead_is s percents i)) (go (skip_blanks s (i + 2)) d) (bad PrematureEnd i d) (Yields AllDeclared)
      (λ q. record { place = first_to _ (i + 2) (length s) (word_to s percents i h.place q); states = h.states; expected = h.expected }) (λ _. tt)

  -- the section keeps what holds at its start
  pub declarations_hold : (i : ℕ) (d : Declared) → DeclaredHolds s k i d → Yields (DeclaredHolds s k) (declarations s options k i d)
  unfolding declarations
  declarations_hold i d h =
      let start = to_declaration s options i in
      yields_next AllDeclared AllDeclared (loop (length s) (in_section s) (next_declaration s options k) start d) (end_declarations s)
      (yields_loop AllDeclared (in_section s) (next_declaration s options k) (λ j t _ g. declaration_kept j t g) (length s) start d (skip_kept i d h))
      end_kept
