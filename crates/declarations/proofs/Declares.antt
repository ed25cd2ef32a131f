-- States declared by name: a law for each way through a name, and the loop over the names of a line.
use mathlib.Core.Path.{◌≡◌, refl, sym, ap, subst, ◌∙◌}
use mathlib.Core.Bool.{Bool, true, false, cond, not, ◌&&◌}
use mathlib.Core.List.{List, [], ◌∷◌}
use Prim.Native.Nat.{ℕ, ◌+◌, ◌-◌, ◌≤◌, ◌<◌}
use native.Mathlib.Omega.{arith}
use borrow.Author.Rules.{rules}
use borrow.Author.Tests.{lt-ltb, le-ltb, ltb-true}
use lib.Dec.{ltb}
use lib.ListN.{length}
use Rattle.std.proofs.lemmas.Bool.{and_parts}
use Rattle.characters.specs.Class.{is_letter}
use Rattle.std.specs.Prelude.{Option, Some, None, Result, Ok, Err}
use Rattle.characters.specs.Walk.{Between, Below}
use Rattle.characters.specs.Whitespace.{byte, whitespace_len, Width}
use Rattle.text.specs.Scan.{find_whitespace}
use Rattle.area.specs.declared.AreaName.TheVariants as Areas
use Rattle.area.specs.declared.State.{State}
use Rattle.area.specs.declared.AreaFull.{AreaFull}
use Rattle.area.specs.declared.AreaName.TheVariants.{States}
use Rattle.area.specs.Areas.{Pushed}
use Rattle.area.specs.Records.{nth_state, state_bytes, state_width, most_states}
use Rattle.area.specs.Contents.{append, contents, state_format, fault_format, Grows}
use Rattle.area.proofs.Contents.{state_sound, held_push}
use Rattle.area.proofs.Lent.{same_area, same_area_on}
use Rattle.fault.specs.declared.Span.{Span}
use Rattle.fault.specs.declared.Stop.{Stop}
use Rattle.fault.specs.declared.Stop.TheVariants.{Fault, Full}
use Rattle.fault.specs.declared.kinds.LexErrorKind.{LexErrorKind}
use Rattle.fault.specs.declared.kinds.LexErrorKind.TheVariants.{InvalidStartStateName}
use Rattle.fault.specs.Kinds.{kind_number, error_at}
use Rattle.fault.specs.Step.{Out, go, bad, onto, written, outcome, Does}
use Rattle.fault.specs.Faults.{add_repeat, DuplicateStartState, GrowsFaults}
use Rattle.fault.proofs.Steps.{Loops, loops_stop, loops_ok, loops_err, going_start, does_go, does_bad, does_full, does_err, was_ok, holds_ok, holds_err, written_next}
use Rattle.fault.proofs.Steps.{written_full, written_place, onto_place, bad_goes}
use Rattle.names.specs.Names.{all_bytes, is_name_byte, is_state_name, find_state}
use Rattle.declarations.specs.declared.NameCounts.{NameCounts}
use Rattle.declarations.specs.Declarations.{Range, Names, names, NameCaps, name_caps, state, behind_name, add_state, repeat_state, state_named}
use Rattle.declarations.specs.Declarations.{declare_state, state_names}
use Rattle.declarations.specs.Stages.{span_of, naming_of}
use Rattle.declarations.specs.Answers.{HeldNames, names_in}
use Rattle.declarations.specs.declared.areas.DeclarationAreas.{DeclarationAreas}
use Rattle.declarations.specs.Areas.{SameAreas, SameExpected, NamesHeld, name_caps_in, names_held_in}

-- ---- what a name is

module _ (xs : List State) (s : List ℕ) (a e : ℕ) (r : Bool) (is : r ≡ is_state_name s a e) where
  pub malformed : r ≡ false → Err InvalidStartStateName ≡ naming_of s a e xs
  unfolding naming_of
  malformed q = rw (← is, q)

  module _ (q : r ≡ true) {o : Option ℕ} (found : Below (length xs) (find_state s a e xs) o) where
    pub known : {j : ℕ} (x : State) → o ≡ Some j → x ≡ nth_state xs j → Ok (Some (record { start = x.start; end = x.end })) ≡ naming_of s a e xs
    unfolding naming_of
    known {j} x z y =
        let b = subst (Below (length xs) (find_state s a e xs)) z found in
        rw (← is, q, ← b.1, lt-ltb j (length xs) b.0, ← y)

    pub new : o ≡ None → Ok None ≡ naming_of s a e xs
    unfolding naming_of
    new z =
        let b = subst (Below (length xs) (find_state s a e xs)) z found in
        rw (← is, q, ← b, le-ltb (length xs) (length xs) (omega arith))

pub ruleset validating = (rules, malformed, known, new)

-- ---- a name declared

-- the name of x by what it is found to be, and on at i
declare_named : NameCaps → ℕ → State → Result (Option Span) LexErrorKind → Names → Out Names
declare_named k i x (Err kind) n = bad (kind_number kind) x.start n
declare_named k i x (Ok (Some y)) n = onto (names n.states) (written Areas.Faults i (add_repeat k.c6 DuplicateStartState y.start y.end x.start x.end n.faults))
declare_named k i x (Ok None) n = onto (λ xs. names xs n.faults) (written Areas.States i (append state_format k.c1 (x ∷ []) n.states))

-- a name that is declared by what it is found to be is declared
name_declares : (s : List ℕ) (k : NameCaps) (x : State) (n : Names)
    → declare_named k (behind_name s x) x (naming_of s x.start x.end n.states) n ≡ declare_state s k x n
unfolding declare_named naming_of declare_state state_named repeat_state add_state
name_declares s k x n = by (is_state_name s x.start x.end) (ltb j (length n.states))
  where
    j : ℕ
    j = find_state s x.start x.end n.states

    y : State
    y = nth_state n.states j

    by : (p t : Bool)
        → declare_named k (behind_name s x) x (cond p (cond t (Ok (Some (span_of y))) (Ok None)) (Err InvalidStartStateName)) n
        ≡ cond (not p) (bad (kind_number InvalidStartStateName) x.start n) (cond t (repeat_state s k x y n) (add_state s k x n))
    by true true = refl
    by true false = refl
    by false t = refl

module _ (s : List ℕ) (exclusive a e : ℕ) (l1 l6 : List ℕ) (q : NameCounts) (h : HeldNames l1 l6 q) (w : ℕ) (white : Width s e (whitespace_len s e) w)
    (x : Result (Option Span) LexErrorKind) (is : x ≡ naming_of s a e (contents state_format l1 q.states)) where
  abbrev Done : List ℕ → List ℕ → Result ℕ Stop → NameCounts → Type 0
  Done v1 v6 r p = Does (HeldNames v1 v6) (declare_state s (name_caps (length l1) (length l6)) (state a e exclusive)) (names_in l1 l6 q) (names_in v1 v6) (outcome r p)

  abbrev declared : ℕ → Result (Option Span) LexErrorKind → Out Names
  declared i y = declare_named (name_caps (length l1) (length l6)) i (state a e exclusive) y (names_in l1 l6 q)

  -- the step, once what the name is and where the next one starts are known
  step : (y : Result (Option Span) LexErrorKind) → x ≡ y → declare_state s (name_caps (length l1) (length l6)) (state a e exclusive) (names_in l1 l6 q) ≡ declared (e + w) y
  unfolding behind_name
  step y z =
      sym (name_declares s (name_caps (length l1) (length l6)) (state a e exclusive) (names_in l1 l6 q))
      ∙ (λ i. declared (e + sym white.is i) ((sym is ∙ z) i))

  pub name_bad : {kind : LexErrorKind} → x ≡ Err kind → Done l1 l6 (Err (Fault (error_at kind a))) q
  unfolding declare_named
  name_bad {kind} z = does_bad (step (Err kind) z) h

  module _ {y : Span} (z : x ≡ Ok (Some y)) {r : Result ℕ AreaFull} {v : List ℕ}
      (g : GrowsFaults (add_repeat (length l6) DuplicateStartState y.start y.end a e) l6 q.faults r v) where
    pub name_repeated : {m : ℕ} → r ≡ Ok m → Done l1 v (Ok (e + w)) (record { states = q.states; faults = m })
    unfolding declare_named
    name_repeated {m} u =
        does_go (step (Ok (Some y)) z ∙ ap (onto (names (contents state_format l1 q.states))) (written_next fault_format Areas.Faults (e + w) _ v r g.says u))
        (record { states = h.states; faults = g.held m u })

    pub name_overfull : {full : AreaFull} (p : NameCounts) → r ≡ Err full → Done l1 v (Err (Full full.0)) p
    unfolding declare_named
    name_overfull {full} p u =
        rw (g.names full u)
        (does_full (step (Ok (Some y)) z ∙ ap (onto (names (contents state_format l1 q.states))) (written_full fault_format Areas.Faults (e + w) _ v r g.says u)))

  module _ (z : x ≡ Ok None) {r : Result ℕ AreaFull} {v : List ℕ} (p : Pushed States state_width most_states 1 (state_bytes (state a e exclusive)) l1 q.states r v) where
    grown : Grows state_format (append state_format (length l1) (state a e exclusive ∷ [])) l1 q.states r v
    grown = held_push state_sound h.states (state a e exclusive) p

    pub name_new : {m : ℕ} → r ≡ Ok m → Done v l6 (Ok (e + w)) (record { states = m; faults = q.faults })
    unfolding declare_named
    name_new {m} u =
        does_go (step (Ok None) z ∙ ap (onto (λ xs. names xs (contents fault_format l6 q.faults))) (written_next state_format Areas.States (e + w) _ v r grown.says u))
        (record { states = grown.held m u; faults = h.faults })

    pub name_no_room : {full : AreaFull} (p : NameCounts) → r ≡ Err full → Done v l6 (Err (Full full.0)) p
    unfolding declare_named
    name_no_room {full} _ u =
        rw (grown.names full u)
        (does_full (step (Ok None) z ∙ ap (onto (λ xs. names xs (contents fault_format l6 q.faults))) (written_full state_format Areas.States (e + w) _ v r grown.says u)))

pub ruleset declaring = (rules, name_bad, name_repeated, name_overfull, name_new, name_no_room)

-- ---- the loop over the names up to t

-- a name of a good form leads on behind the whitespace that ends it
declared_place : (s : List ℕ) (k : NameCaps) (x y : State) (n : Names) (t : Bool) {j : ℕ} {m : Names}
    → cond t (repeat_state s k x y n) (add_state s k x n) ≡ go j m → x.end + whitespace_len s x.end ≡ j
unfolding repeat_state add_state behind_name
declared_place s k x y n true z =
    let o = add_repeat k.c6 DuplicateStartState y.start y.end x.start x.end n.faults in
    written_place Areas.Faults (x.end + whitespace_len s x.end) o (onto_place (names n.states) (written Areas.Faults (x.end + whitespace_len s x.end) o) z).1
declared_place s k x y n false z =
    let o = append state_format k.c1 (x ∷ []) n.states in
    written_place Areas.States (x.end + whitespace_len s x.end) o (onto_place (λ xs. names xs n.faults) (written Areas.States (x.end + whitespace_len s x.end) o) z).1

-- a name that is declared has a byte
named_forward : (s : List ℕ) (k : NameCaps) (exclusive a e : ℕ) (n : Names) {j : ℕ} {m : Names} → declare_state s k (state a e exclusive) n ≡ go j m → a < j
unfolding declare_state state_named is_state_name
named_forward s k exclusive a e n {j} {m} q = by (is_state_name s a e) refl q
  where
    known : Bool
    known = ltb (find_state s a e n.states) (length n.states)

    by : (t : Bool) → is_state_name s a e ≡ t
        → cond (not t) (bad (kind_number InvalidStartStateName) a n)
        (cond known (repeat_state s k (state a e exclusive) (nth_state n.states (find_state s a e n.states)) n) (add_state s k (state a e exclusive) n))
        ≡ go j m → a < j
    by true f z =
        omega (
          arith,
          declared_place s k (state a e exclusive) (nth_state n.states (find_state s a e n.states)) n known z,
          ltb-true a e
              (and_parts (ltb a e) (is_letter (byte s a) && all_bytes is_name_byte s (a + 1) e) f).0,
        )
    by false f z = absurd (bad_goes z)

abbrev body : List ℕ → ℕ → ℕ → NameCaps → ℕ → Names → Out Names
body s exclusive t c a n = declare_state s c (state a (find_whitespace s a t) exclusive) n

pub same_areas : (a : DeclarationAreas) → SameAreas a a
same_areas a = record { states = same_area a.states; expected = same_area a.expected; faults = same_area a.faults }

-- what two steps in turn keep, both keep
pub same_areas_on : {a b c : DeclarationAreas} → SameAreas a b → SameAreas b c → SameAreas a c
same_areas_on x y = record {
  states = same_area_on x.states y.states;
  expected = same_area_on x.expected y.expected;
  faults = same_area_on x.faults y.faults;
}

-- the loop has come to the name at `at`
pub record Declares (whole : Out Names) (s : List ℕ) (exclusive t : ℕ) (start : DeclarationAreas) (at : ℕ) (a : DeclarationAreas) : Type 0 where
  pub held : NamesHeld a
  pub same : SameAreas start a
  pub expected : SameExpected start a
  pub loops : Loops whole (λ j. ltb j t) (body s exclusive t) t (name_caps_in start) (name_caps_in a) at (names_held_in a)

pub declares_start : (s : List ℕ) (exclusive : ℕ) (part : Range) (a : DeclarationAreas) → NamesHeld a → part.end ≤ length s
    → Declares (state_names s (name_caps_in a) exclusive part (names_held_in a)) s exclusive part.end a part.start a
unfolding state_names
declares_start s exclusive part a h f = record {
  held = h;
  same = same_areas a;
  expected = record { bytes = refl; count = refl };
  loops = record { going = going_start (λ j. ltb j part.end) (body s exclusive part.end (name_caps_in a)) part.end part.start (names_held_in a) (length s) (omega arith); same = refl };
}

module _ {whole : Out Names} {s : List ℕ} {exclusive t : ℕ} {start : DeclarationAreas} {at : ℕ} (a : DeclarationAreas)
    (x : Declares whole s exclusive t start at a)
    (h : at < t) (e : ℕ) (b : Between at t (find_whitespace s at t) e) (v : DeclarationAreas) (r : Result ℕ Stop)
    (d : Does (HeldNames v.states.now v.faults.now) (declare_state s (name_caps_in a) (state at e exclusive)) (names_held_in a)
    (names_in v.states.now v.faults.now) (outcome r v.counts.names)) where
  -- the name at `at` is the loop's next one
  the_next : Does (HeldNames v.states.now v.faults.now) (body s exclusive t (name_caps_in a) at) (names_held_in a) (names_in v.states.now v.faults.now)
      (outcome r v.counts.names)
  the_next = record { says = rw (← b.is) d.says; goes = d.goes; ends = d.ends }

  module _ {j : ℕ} (z : r ≡ Ok j) where
    forward : at < j
    forward = named_forward s (name_caps_in a) exclusive at e (names_held_in a) (was_ok r v.counts.names d z)

    pub declares_less : t - j < t - at
    declares_less = omega (arith, forward)

    pub declares_next : SameAreas a v → SameExpected a v → Declares whole s exclusive t start j v
    declares_next same expected = record {
      held = holds_ok r v.counts.names d z;
      same = same_areas_on x.same same;
      expected = record { bytes = expected.bytes ∙ x.expected.bytes; count = expected.count ∙ x.expected.count };
      loops =
          loops_ok x.loops (lt-ltb at t h) h r v.counts.names the_next (name_caps_in v) z forward
          (λ i. name_caps (same.states.long i) (same.faults.long i));
    }

  -- f is the whole loop, which began with n
  pub declares_err : (f : Names → Out Names) (n : Names) → whole ≡ f n → (y : Stop) → r ≡ Err y
      → Does (HeldNames v.states.now v.faults.now) f n (names_in v.states.now v.faults.now) (outcome (Err y) v.counts.names)
  declares_err f n w y z =
      does_err y _ (sym w ∙ loops_err x.loops (lt-ltb at t h) h r v.counts.names the_next y z) (holds_err r v.counts.names d y z)

pub declares_done : (f : Names → Out Names) (n : Names) {s : List ℕ} {exclusive t : ℕ} {start : DeclarationAreas} {at : ℕ} (a : DeclarationAreas)
    → Declares (f n) s exclusive t start at a → t ≤ at
    → Does (HeldNames a.states.now a.faults.now) f n (names_in a.states.now a.faults.now) (go at a.counts.names)
declares_done f n {at = at} a x h = does_go (loops_stop x.loops (le-ltb at _ h)) x.held

pub ruleset declaring_all = (rules, declares_start, declares_done, declares_less, declares_next)
