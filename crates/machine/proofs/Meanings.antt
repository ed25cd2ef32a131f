-- What the machine answers means what it should: of every row, by the machine's own definitions. And from an edge of the text it comes to an edge.
use mathlib.Core.Path.{◌≡◌, refl, sym, ap, ap₂, subst, ◌∙◌}
use mathlib.Core.Bool.{Bool, true, false, ◌&&◌, ◌||◌, false≢true, true≢false, or-true}
use mathlib.Core.List.{List, [], ◌∷◌}
use mathlib.Core.Logic.{inl, inr}
use mathlib.Core.Option.{Option, none, some}
use Prim.Native.Nat.{ℕ, zero, suc, ◌+◌, ◌*◌, ◌-◌, ◌≤◌, ◌<◌}
use native.Mathlib.Omega.{arith}
use borrow.Author.Tests.{eq-eqb, eqb-true, eqb-false, le-leb, leb-true, ltb-true, ltb-false, not-true}
use lib.Dec.{eqb, leb, ltb}
use lib.ListN.{length, get_or, get_elem?}
use Rattle.std.proofs.lemmas.Bool.{cond_both, and_parts}
use Rattle.text.specs.Range.{same_bytes}
use Rattle.characters.specs.Utf8.{is_edge}
use Rattle.characters.proofs.Tests.{or_cases}
use Rattle.text.proofs.Ranges.{same_equal, same_self}
use Rattle.area.specs.Lists.{all}
use Rattle.area.proofs.All.{all-at}
use Rattle.name_map.specs.Map.{Entry}
use Rattle.std.specs.Prelude.{Ok, Err}
use Rattle.input_check.specs.InputCheck.{EdgeOf, JudgesEdges}
use Rattle.input_check.proofs.Edges.{edge_complete}
use Rattle.run.specs.declared.StepError.TheVariants.{BrokenSheet, TextMismatch, BrokenRun, RowMismatch}
use Rattle.run.specs.declared.Step.TheVariants.{Done, Stopped, Unlinked, Skip, Token}
use Rattle.run.specs.Run.{StepAnswer, Input}
use Rattle.machine.specs.File.{FileState, FileRule}
use Rattle.machine.specs.Machine.{Given, Machine, current_state, lengths, fits, fits_here, has, is_empty, is_live, Winner}
use Rattle.machine.specs.Machine.{winner, first_or_longer, winner_of, id_in, move, Answered, answered, token, wins, chooses, step}
use Rattle.machine.specs.Means.{length_at, LengthFits, Fitting, Misfit, Has, Live, Won, EntryOf, Means}
use Rattle.machine.proofs.Options.{some_is, none_some, place_inside}

-- ---- live rules

has-at : (xs : List ℕ) (id : ℕ) → has xs id ≡ true → Has xs id
unfolding has
has-at [] id e = absurd (false≢true e)
has-at (x ∷ xs) id e =
    or_cases (eqb x id) (has xs id) e (λ q. (0, ap some (eqb-true x id q)))
    (λ q.
    let r = has-at xs id q in
    (suc r.0, r.1))

at_has : (xs : List ℕ) (id j : ℕ) → get_elem? xs j ≡ some id → has xs id ≡ true
unfolding has
at_has [] id j e = absurd (none_some id e)
at_has (x ∷ xs) id zero e = rw (eq-eqb x id (some_is x id e))
at_has (x ∷ xs) id (suc j) e = ap (λ (t : Bool). eqb x id || t) (at_has xs id j e) ∙ or-true (eqb x id)

empty_is : (xs : List ℕ) → is_empty xs ≡ true → xs ≡ []
unfolding is_empty
empty_is [] e = refl
empty_is (x ∷ xs) e = absurd (false≢true e)

module _ (g : Given) (m : Machine) (x : FileRule) where
  pub live_is : is_live g.file.states (current_state m.stack) x ≡ true → Live g m x
  unfolding is_live
  live_is e =
      or_cases (has x.list (current_state m.stack)) _ e (λ q. inl (has-at x.list (current_state m.stack) q))
      (λ q. inr (empty_is x.list (and_parts (is_empty x.list) _ q).0, not-true _ (and_parts (is_empty x.list) _ q).1))

  pub live_says : Live g m x → is_live g.file.states (current_state m.stack) x ≡ true
  unfolding is_live is_empty has
  live_says (inl h) = rw (at_has x.list (current_state m.stack) h.0 h.1)
  live_says (inr h) = rw (h.0, h.1)

-- ---- rows

pub lengths-at : (row : List ℕ) (k : ℕ) → k * 2 + 1 < length row → get_or (lengths row) k 0 ≡ length_at row k
unfolding lengths
lengths-at [] k h = absurd (omega arith)
lengths-at (x ∷ []) k h = absurd (omega arith)
lengths-at (x ∷ y ∷ row) zero h = refl
lengths-at (x ∷ y ∷ row) (suc k) h =
    let p : suc (suc (k * 2)) ≡ suc k * 2 = omega arith in
    let q : suc (suc (k * 2 + 1)) ≡ suc k * 2 + 1 = omega arith in
    lengths-at row k (omega arith) ∙ ap₂ (λ (i j : ℕ). get_or (x ∷ y ∷ row) i 0 + get_or (x ∷ y ∷ row) j 0 * 256) p q

pub lengths_count : (n : ℕ) (row : List ℕ) → length row ≡ n * 2 → length (lengths row) ≡ n
unfolding lengths
lengths_count zero [] h = refl
lengths_count zero (x ∷ row) h = absurd (omega arith)
lengths_count (suc n) [] h = absurd (omega arith)
lengths_count (suc n) (x ∷ []) h = absurd (omega arith)
lengths_count (suc n) (x ∷ y ∷ row) h = ap suc (lengths_count n row (omega arith))

-- a length that does not pass
some_fails : (test : ℕ → Bool) (ls : List ℕ) → all test ls ≡ false → (k : ℕ) × (k < length ls) × (test (get_or ls k 0) ≡ false)
unfolding all
some_fails test [] e = absurd (true≢false e)
some_fails test (l ∷ ls) e = go (test l) refl e (λ d. some_fails test ls d)
  where
    go : (t : Bool) → test l ≡ t → t && all test ls ≡ false → (all test ls ≡ false → (k : ℕ) × (k < length ls) × (test (get_or ls k 0) ≡ false))
        → (k : ℕ) × (k < suc (length ls)) × (test (get_or (l ∷ ls) k 0) ≡ false)
    go false f d later = (0, omega arith, f)
    go true f d later =
        let r = later d in
        (suc r.0, omega (arith, r.1), r.2)

-- a length passes the machine's test exactly where it fits, on well-formed text
module _ (g : Given) (m : Machine) (l : ℕ) where
  length_fitting : JudgesEdges g.text → fits_here g m l ≡ true → LengthFits g m l
  length_fitting judged e =
      let both = and_parts (leb l (g.n - m.position)) (is_edge g.text (m.position + l)) e in
      record { low = leb-true l (g.n - m.position) both.0; edge = judged.sound (m.position + l) both.1 }

  length_passes : LengthFits g m l → fits_here g m l ≡ true
  length_passes h = rw (le-leb l (g.n - m.position) h.low) (edge_complete g.text (m.position + l) h.edge)

module _ (g : Given) (m : Machine) (i : Input) (off : m.position ≡ g.n → ⊥) where
  n : ℕ
  n = length g.file.rules

  test : ℕ → Bool
  test = fits_here g m

  pub row_fitting : JudgesEdges g.text → fits (fits_here g m) (length g.file.rules) i.row ≡ true → Fitting g m i
  unfolding fits n test
  row_fitting judged e =
      let row : List ℕ = i.row in
      let size : length row ≡ n * 2 = eqb-true (length row) (n * 2) (and_parts (eqb (length row) (n * 2)) _ e).0 in
      let pass : all test (lengths row) ≡ true = (and_parts (eqb (length row) (n * 2)) _ e).1 in
      record {
        before = off;
        size = size;
        each = λ k h.
            let here : k < length (lengths row) = omega (arith, lengths_count n row size, h) in
            rw (← lengths-at row k (omega (arith, size, h)))
            (length_fitting g m (get_or (lengths row) k 0) judged (all-at test (lengths row) 0 k pass here));
      }

  pub misfits : fits (fits_here g m) (length g.file.rules) i.row ≡ false → Misfit g m i
  unfolding fits n test
  misfits e = go (eqb (length i.row) (n * 2)) refl e
    where
      go : (t : Bool) → eqb (length i.row) (n * 2) ≡ t → t && all test (lengths i.row) ≡ false → Misfit g m i
      go false f d = inl (eqb-false (length i.row) (n * 2) f)
      go true f d =
          let row : List ℕ = i.row in
          let size : length row ≡ n * 2 = eqb-true (length row) (n * 2) f in
          let r = some_fails test (lengths row) d in
          let h : r.0 < n = omega (arith, lengths_count n row size, r.1) in
          inr (r.0, h, rw (← lengths-at row r.0 (omega (arith, size, h))) (λ q. true≢false (sym (length_passes g m (get_or (lengths row) r.0 0) q) ∙ r.2)))

-- ---- the winner

-- a live rule that has the greatest length, and no earlier one has it
pub record Found (live : FileRule → Bool) (xs : List FileRule) (ls : List ℕ) (w : Winner) : Type 0 where
  pub place : ℕ
  pub rule : get_elem? xs place ≡ some w.rule
  pub is_live : live w.rule ≡ true
  pub has : get_or ls place 0 ≡ w.bytes
  pub greatest : (k : ℕ) (x : FileRule) → get_elem? xs k ≡ some x → live x ≡ true → get_or ls k 0 ≤ w.bytes
  pub earliest : (k : ℕ) (x : FileRule) → k < place → get_elem? xs k ≡ some x → live x ≡ true → get_or ls k 0 < w.bytes

-- or none is live
abbrev pub Picks : (FileRule → Bool) → List FileRule → List ℕ → Option Winner → Type 0
Picks live xs ls none = (k : ℕ) (x : FileRule) → get_elem? xs k ≡ some x → live x ≡ true → ⊥
Picks live xs ls (some w) = Found live xs ls w

module _ (live : FileRule → Bool) (x : FileRule) (xs : List FileRule) (l : ℕ) (ls : List ℕ) where
  dead : live x ≡ false → (o : Option Winner) → Picks live xs ls o → Picks live (x ∷ xs) (l ∷ ls) o
  dead e none p = by
    where
      by : (k : ℕ) (y : FileRule) → get_elem? (x ∷ xs) k ≡ some y → live y ≡ true → ⊥
      by zero y q t = true≢false (sym t ∙ sym (ap live (some_is x y q)) ∙ e)
      by (suc k) y q t = p k y q t
  dead e (some w) p = record { place = suc p.place; rule = p.rule; is_live = p.is_live; has = p.has; greatest = by; earliest = early }
    where
      by : (k : ℕ) (y : FileRule) → get_elem? (x ∷ xs) k ≡ some y → live y ≡ true → get_or (l ∷ ls) k 0 ≤ w.bytes
      by zero y q t = absurd (true≢false (sym t ∙ sym (ap live (some_is x y q)) ∙ e))
      by (suc k) y q t = p.greatest k y q t

      early : (k : ℕ) (y : FileRule) → k < suc p.place → get_elem? (x ∷ xs) k ≡ some y → live y ≡ true → get_or (l ∷ ls) k 0 < w.bytes
      early zero y h q t = absurd (true≢false (sym t ∙ sym (ap live (some_is x y q)) ∙ e))
      early (suc k) y h q t = p.earliest k y (omega arith) q t

  first_found : live x ≡ true → ((k : ℕ) (y : FileRule) → get_elem? xs k ≡ some y → live y ≡ true → get_or ls k 0 ≤ l)
      → Found live (x ∷ xs) (l ∷ ls) (winner x l)
  first_found e low = record { place = 0; rule = refl; is_live = e; has = refl; greatest = by; earliest = λ k y h q t. absurd (omega arith) }
    where
      by : (k : ℕ) (y : FileRule) → get_elem? (x ∷ xs) k ≡ some y → live y ≡ true → get_or (l ∷ ls) k 0 ≤ l
      by zero y q t = omega arith
      by (suc k) y q t = low k y q t

  later_found : (w : Winner) → l < w.bytes → Found live xs ls w → Found live (x ∷ xs) (l ∷ ls) w
  later_found w less p = record { place = suc p.place; rule = p.rule; is_live = p.is_live; has = p.has; greatest = by; earliest = early }
    where
      by : (k : ℕ) (y : FileRule) → get_elem? (x ∷ xs) k ≡ some y → live y ≡ true → get_or (l ∷ ls) k 0 ≤ w.bytes
      by zero y q t = omega arith
      by (suc k) y q t = p.greatest k y q t

      early : (k : ℕ) (y : FileRule) → k < suc p.place → get_elem? (x ∷ xs) k ≡ some y → live y ≡ true → get_or (l ∷ ls) k 0 < w.bytes
      early zero y h q t = less
      early (suc k) y h q t = p.earliest k y (omega arith) q t

  alive : live x ≡ true → (o : Option Winner) → Picks live xs ls o → Picks live (x ∷ xs) (l ∷ ls) (first_or_longer x l o)
  unfolding first_or_longer
  alive e none p = first_found e (λ k y q t. absurd (p k y q t))
  alive e (some w) p =
      cond_both (ltb l w.bytes) (some w) (some (winner x l)) (Picks live (x ∷ xs) (l ∷ ls)) (λ q. later_found w (ltb-true l w.bytes q) p)
      (λ q. first_found e (λ k y r t. omega (arith, p.greatest k y r t, ltb-false l w.bytes q)))

pub picked : (states : List FileState) (state : ℕ) (xs : List FileRule) (ls : List ℕ) → length ls ≡ length xs
    → Picks (is_live states state) xs ls (winner_of states state xs ls)
unfolding winner_of
picked states state [] ls h = λ k x e t. none_some x e
picked states state (x ∷ xs) [] h = absurd (omega arith)
picked states state (x ∷ xs) (l ∷ ls) h =
    let p = picked states state xs ls (omega arith) in
    cond_both (is_live states state x) (first_or_longer x l (winner_of states state xs ls)) (winner_of states state xs ls) (Picks (is_live states state) (x ∷ xs) (l ∷ ls)) (λ e. alive (is_live states state) x xs l ls e (winner_of states state xs ls) p)
    (λ e. dead (is_live states state) x xs l ls e (winner_of states state xs ls) p)

-- ---- ids

abbrev Gives : List Entry → List ℕ → Option ℕ → Type 0
Gives es name none = (id : ℕ) → EntryOf es name id → ⊥
Gives es name (some id) = EntryOf es name id

pub id_given : (es : List Entry) (name : List ℕ) → Gives es name (id_in es name)
unfolding id_in
id_given [] name = λ id e. none_some e.1 e.2
id_given (e ∷ es) name =
    cond_both (same_bytes e.name name) (some e.id) (id_in es name) (Gives (e ∷ es) name) (λ t. (0, e, refl, same_equal e.name name t, refl))
    (λ t. later t (id_in es name) (id_given es name))
  where
    later : same_bytes e.name name ≡ false → (o : Option ℕ) → Gives es name o → Gives (e ∷ es) name o
    later t (some id) (j, f, q, r, u) = (suc j, f, q, r, u)
    later t none p = λ id h. by id h.0 h.1 h.2 h.3 h.4
      where
        by : (id j : ℕ) (f : Entry) → get_elem? (e ∷ es) j ≡ some f → f.name ≡ name → f.id ≡ id → ⊥
        by id zero f q r u =
            let same : e.name ≡ name = ap (λ (y : Entry). y.name) (some_is e f q) ∙ r in
            true≢false (sym (same_self name) ∙ ap (λ (z : List ℕ). same_bytes z name) (sym same) ∙ t)
        by id (suc j) f q r u = p id (j, f, q, r, u)

-- ---- a step

module _ (g : Given) (m : Machine) (i : Input) where
  abbrev Meant : Answered → Type 0
  Meant o = Means g m i o.answer o.machine

  abbrev live : FileRule → Bool
  live = is_live g.file.states (current_state m.stack)

  abbrev ls : List ℕ
  ls = lengths i.row

  module _ (fitting : Fitting g m i) where
    has-length : (k : ℕ) (x : FileRule) → get_elem? g.file.rules k ≡ some x → get_or (lengths i.row) k 0 ≡ length_at i.row k
    has-length k x e = lengths-at i.row k (omega (arith, place_inside g.file.rules k x e, fitting.size))

    won : (w : Winner) → 0 < w.bytes → Found live g.file.rules ls w → Won g m i w
    won w h f = record {
      fitting = fitting;
      place = f.place;
      rule = f.rule;
      live = live_is g m w.rule f.is_live;
      has = sym (has-length f.place w.rule f.rule) ∙ f.has;
      some_bytes = h;
      greatest = λ k x e l. omega (arith, has-length k x e, f.greatest k x e (live_says g m x l));
      earliest = λ k x b e l. omega (arith, has-length k x e, f.earliest k x b e (live_says g m x l));
    }

    named_means : (w : Winner) → Won g m i w → (name : List ℕ) → w.rule.name ≡ some name → (o : Option ℕ) → Gives g.map name o → Meant (token o w m)
    unfolding token
    named_means w h name e none p = (w, h, name, e, p, refl)
    named_means w h name e (some id) p = (w, h, name, e, p, refl, refl, refl)

    wins_means : (w : Winner) → Won g m i w → (name : Option (List ℕ)) → w.rule.name ≡ name → Meant (wins g name w m)
    unfolding wins
    wins_means w h none e = (w, h, e, refl)
    wins_means w h (some name) e = named_means w h name e (id_in g.map name) (id_given g.map name)

    chooses_means : (o : Option Winner) → Picks live g.file.rules ls o → Meant (chooses g o m)
    unfolding chooses
    chooses_means none p = (fitting, λ k x e l. absurd (p k x e (live_says g m x l)), refl)
    chooses_means (some w) p =
        cond_both (eqb w.bytes 0) (answered (Ok Stopped) m) (wins g w.rule.name w m) Meant
        (λ z. (fitting, λ k x e l. omega (arith, has-length k x e, p.greatest k x e (live_says g m x l), eqb-true w.bytes 0 z), refl))
        (λ z. wins_means w (won w (omega (arith, eqb-false w.bytes 0 z)) p) w.rule.name refl)

  pub means : JudgesEdges g.text → Means g m i (step g m i).answer (step g m i).machine
  unfolding step
  means judged =
      cond_both (eqb m.position g.n) (answered (Ok Done) m) _ Meant (λ e. (eqb-true m.position g.n e, refl))
      (λ e. cond_both _ _ (answered (Err RowMismatch) m) Meant
      (λ f.
      let fitting : Fitting g m i = row_fitting g m i (eqb-false m.position g.n e) judged f in
      let count = lengths_count (length g.file.rules) i.row fitting.size in
      chooses_means fitting _ (picked g.file.states (current_state m.stack) g.file.rules ls count))
      (λ f. (eqb-false m.position g.n e, misfits g m i (eqb-false m.position g.n e) f, refl)))

  -- ---- where it ends

  -- a move by a winner ends where its length does, at an edge
  won_edge : (w : Winner) → Won g m i w → EdgeOf g.text (move w m).position
  unfolding move
  won_edge w h =
      let fits : LengthFits g m (length_at i.row h.place) = h.fitting.each h.place (place_inside g.file.rules h.place w.rule h.rule) in
      subst (λ (l : ℕ). EdgeOf g.text (m.position + l)) h.has fits.edge

  moved : (next : Machine) (w : Winner) → Won g m i w → next ≡ move w m → EdgeOf g.text next.position
  moved next w h q = subst (λ (x : Machine). EdgeOf g.text x.position) (sym q) (won_edge w h)

  stayed : (next : Machine) → next ≡ m → EdgeOf g.text m.position → EdgeOf g.text next.position
  stayed next q e = subst (λ (x : Machine). EdgeOf g.text x.position) (sym q) e

  -- so from an edge the machine comes to an edge
  pub edge_next : (a : StepAnswer) (next : Machine) → Means g m i a next → EdgeOf g.text m.position → EdgeOf g.text next.position
  edge_next (Err BrokenSheet) next h e = absurd h
  edge_next (Err TextMismatch) next h e = absurd h
  edge_next (Err BrokenRun) next h e = absurd h
  edge_next (Err RowMismatch) next h e = stayed next h.2 e
  edge_next (Ok Done) next h e = stayed next h.1 e
  edge_next (Ok Stopped) next h e = stayed next h.2 e
  edge_next (Ok Unlinked) next h e = stayed next h.5 e
  edge_next (Ok Skip) next h e = moved next h.0 h.1 h.3
  edge_next (Ok (Token id start bytes)) next (w, won, name, named, entry, from, long, q) e = moved next w won q
