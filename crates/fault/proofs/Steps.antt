-- Steps, and loops of them. An answer that tells the outcome is made, and taken apart, by one law for each outcome. A loop keeps how many turns the definition has left, and that the definition's loop from here comes to what the
-- whole loop does; as each turn goes forward, there are enough of them.
use mathlib.Core.Path.{◌≡◌, refl, sym, ap, subst, ◌∙◌}
use mathlib.Core.Bool.{Bool, true, false}
use Prim.Native.Nat.{ℕ, zero, suc, ◌+◌, ◌≤◌, ◌<◌}
use native.Mathlib.Omega.{arith}
use mathlib.Core.Option.{Option, none, some}
use mathlib.Core.List.{List}
use Rattle.std.specs.Prelude.{Result, Ok, Err, IsErrAnd}
use Rattle.std.proofs.lemmas.Result.{err_from_is_err_and}
use Rattle.area.specs.declared.AreaFull.{AreaFull}
use Rattle.area.specs.declared.AreaName.{AreaName}
use Rattle.area.specs.Contents.{Format, contents, left_by}
use Rattle.fault.specs.declared.Stop.{Stop}
use Rattle.fault.specs.declared.Stop.TheVariants.{Fault, Full}
use Rattle.fault.specs.Kinds.{kind_number}
use Rattle.fault.specs.Step.{Out, go, bad, full, next, onto, written, loop, outcome, Does}

-- the whole loop, which ends by the bound, has come to the place i and the state s
pub record Going {S : Type 0} (whole : Out S) (test : ℕ → Bool) (body : ℕ → S → Out S) (bound i : ℕ) (s : S) : Type 0 where
  pub turns : ℕ
  pub enough : bound ≤ i + turns
  pub same : loop turns test body i s ≡ whole

module _ {S : Type 0} (test : ℕ → Bool) (body : ℕ → S → Out S) (bound i : ℕ) (s : S) where
  pub going_start : (n : ℕ) → bound ≤ i + n → Going (loop n test body i s) test body bound i s
  going_start n h = record { turns = n; enough = h; same = refl }

  turn : (n : ℕ) → test i ≡ true → loop (suc n) test body i s ≡ next (body i s) (λ j t. loop n test body j t)
  unfolding loop
  turn n e = rw e

  stay : (n : ℕ) → test i ≡ false → loop n test body i s ≡ go i s
  unfolding loop
  stay zero e = refl
  stay (suc n) e = rw e

  module _ {whole : Out S} (g : Going whole test body bound i s) where
    pub going_stop : test i ≡ false → go i s ≡ whole
    going_stop e = sym (stay g.turns e) ∙ g.same

    -- one turn, whose body comes to o
    module _ (pass : test i ≡ true) (inside : i < bound) (o : Out S) (is : body i s ≡ o) where
      record Turned : Type 0 where
        left : ℕ
        enough : bound ≤ suc i + left
        same : next o (λ j t. loop left test body j t) ≡ whole

      turned : Turned
      turned = by g.turns g.enough g.same
        where
          by : (n : ℕ) → bound ≤ i + n → loop n test body i s ≡ whole → Turned
          by zero h q = absurd (omega arith)
          by (suc n) h q =
              record { left = n; enough = omega arith; same = ap (λ (x : Out S). next x (λ j t. loop n test body j t)) (sym is) ∙ sym (turn n pass) ∙ q }

    module _ (pass : test i ≡ true) (inside : i < bound) where
      pub going_next : {j : ℕ} {t : S} → body i s ≡ go j t → i < j → Going whole test body bound j t
      going_next {j} {t} e h =
          let r = turned pass inside (go j t) e in
          record { turns = r.left; enough = omega (arith, r.enough); same = r.same }

      pub going_bad : {kind at : ℕ} {t : S} → body i s ≡ bad kind at t → bad kind at t ≡ whole
      going_bad {kind} {at} {t} e = (turned pass inside (bad kind at t) e).same

      pub going_full : {name : AreaName} → body i s ≡ full name → full name ≡ whole
      going_full {name} e = (turned pass inside (full name) e).same

-- ---- answers

module _ {S Q : Type 0} {H : Q → Type 0} {f : S → Out S} {s : S} {view : Q → S} where
  pub does_go : {i : ℕ} {q : Q} → f s ≡ go i (view q) → H q → Does H f s view (go i q)
  does_go {i} {q} e h = record { says = e; goes = λ j p z. subst H (same z) h; ends = λ kind at p z. absurd (never z) }
    where
      same : {j : ℕ} {p : Q} → go i q ≡ go j p → q ≡ p
      same z = cc

      never : {kind at : ℕ} {p : Q} → go i q ≡ bad kind at p → ⊥
      never z =
          let q : ◌≡◌ {A = ℕ} 0 1 = cc in
          omega arith

  pub does_bad : {kind at : ℕ} {q : Q} → f s ≡ bad kind at (view q) → H q → Does H f s view (bad kind at q)
  does_bad {kind} {at} {q} e h = record { says = e; goes = λ j p z. absurd (never z); ends = λ k a p z. subst H (same z) h }
    where
      same : {k a : ℕ} {p : Q} → bad kind at q ≡ bad k a p → q ≡ p
      same z = cc

      never : {j : ℕ} {p : Q} → bad kind at q ≡ go j p → ⊥
      never z =
          let q : ◌≡◌ {A = ℕ} 0 1 = cc in
          omega arith

  pub does_full : {name : AreaName} → f s ≡ full name → Does H f s view (full name)
  does_full {name} e = record { says = e; goes = λ j p z. absurd (not_go z); ends = λ k a p z. absurd (not_bad z) }
    where
      not_go : {j : ℕ} {p : Q} → full name ≡ go j p → ⊥
      not_go z =
          let q : ◌≡◌ {A = ℕ} 0 1 = cc in
          omega arith

      not_bad : {k a : ℕ} {p : Q} → full name ≡ bad k a p → ⊥
      not_bad z =
          let q : ◌≡◌ {A = ℕ} 0 1 = cc in
          omega arith

  module _ {o : Out Q} (d : Does H f s view o) where
    pub was_go : {i : ℕ} {q : Q} → o ≡ go i q → f s ≡ go i (view q)
    was_go e = d.says ∙ ap (onto view) e

    pub was_bad : {kind at : ℕ} {q : Q} → o ≡ bad kind at q → f s ≡ bad kind at (view q)
    was_bad e = d.says ∙ ap (onto view) e

    pub was_full : {name : AreaName} → o ≡ full name → f s ≡ full name
    was_full e = d.says ∙ ap (onto view) e

-- ---- an answer that ends the parse, whichever it is

-- a fault, and not a full area
abbrev pub IsFault : Stop → Type 0
IsFault (Fault error) = Unit {0}
IsFault (Full name) = ⊥

-- it is passed on by what follows, and by a larger state
pub next_err : {S : Type 0} (x : Stop) (s : S) (g : ℕ → S → Out S) → next (outcome (Err x) s) g ≡ outcome (Err x) s
next_err (Fault error) s g = refl
next_err (Full name) s g = refl

pub onto_err : {S T : Type 0} (f : S → T) (x : Stop) (s : S) → onto f (outcome (Err x) s) ≡ outcome (Err x) (f s)
onto_err f (Fault error) s = refl
onto_err f (Full name) s = refl

pub onto_outcome : {S T : Type 0} (f : S → T) (r : Result ℕ Stop) (s : S) → onto f (outcome r s) ≡ outcome r (f s)
onto_outcome f (Ok i) s = refl
onto_outcome f (Err x) s = onto_err f x s

module _ {S Q : Type 0} {H : Q → Type 0} {f : S → Out S} {s : S} {view : Q → S} where
  -- what the areas hold is known unless one of them is full
  pub does_err : (x : Stop) (q : Q) → f s ≡ outcome (Err x) (view q) → (IsFault x → H q) → Does H f s view (outcome (Err x) q)
  does_err (Fault error) q e h = does_bad e (h tt)
  does_err (Full name) q e h = does_full e

  module _ (r : Result ℕ Stop) (q : Q) (d : Does H f s view (outcome r q)) where
    pub was_ok : {i : ℕ} → r ≡ Ok i → f s ≡ go i (view q)
    was_ok e = was_go d (ap (λ (x : Result ℕ Stop). outcome x q) e)

    pub holds_ok : {i : ℕ} → r ≡ Ok i → H q
    holds_ok {i} e = d.goes i q (ap (λ (x : Result ℕ Stop). outcome x q) e)

    pub was_err : (x : Stop) → r ≡ Err x → f s ≡ outcome (Err x) (view q)
    was_err x e = d.says ∙ ap (λ (y : Result ℕ Stop). onto view (outcome y q)) e ∙ onto_err view x q

    pub holds_err : (x : Stop) → r ≡ Err x → IsFault x → H q
    holds_err (Fault error) e z = d.ends (kind_number error.kind) error.at q (ap (λ (y : Result ℕ Stop). outcome y q) e)
    holds_err (Full name) e z = absurd z

  -- where `?` passes on the error x, its answer r comes to what x comes to
  pub passed_on : (x : Stop) (r : Result ℕ Stop) (q : Q) → IsErrAnd r (λ y. y ≡ x) → Does H f s view (outcome (Err x) q) → Does H f s view (outcome r q)
  passed_on x r q e d =
      let p = err_from_is_err_and r e in
      rw (p.1, p.2) d

-- what an append to an area writes, or that it is full
module _ {A : Type 0} (F : Format A) (name : AreaName) (i : ℕ) (f : Option (List A)) (e : List ℕ) (r : Result ℕ AreaFull) (is : f ≡ left_by F e r) where
  pub written_next : {m : ℕ} → r ≡ Ok m → written name i f ≡ go i (contents F e m)
  written_next q = ap (written name i) (is ∙ ap (left_by F e) q)

  pub written_full : {x : AreaFull} → r ≡ Err x → written name i f ≡ full name
  written_full q = ap (written name i) (is ∙ ap (left_by F e) q)

-- ---- where a step that goes on goes

pub bad_goes : {S : Type 0} {kind at j : ℕ} {s t : S} → bad kind at s ≡ go j t → ⊥
bad_goes z =
    let q : ◌≡◌ {A = ℕ} 0 1 = cc in
    omega arith

pub full_goes : {S : Type 0} {name : AreaName} {j : ℕ} {t : S} → full name ≡ go j t → ⊥
full_goes z =
    let q : ◌≡◌ {A = ℕ} 0 1 = cc in
    omega arith

pub written_place : {S : Type 0} (name : AreaName) (i : ℕ) {j : ℕ} {t : S} (o : Option S) → written name i o ≡ go j t → i ≡ j
written_place name i none e = absurd (full_goes e)
written_place name i (some s) e = cc

pub onto_place : {S T : Type 0} (f : S → T) {j : ℕ} {t : T} (o : Out S) → onto f o ≡ go j t → (s : S) × (o ≡ go j s)
onto_place f {j} (go i s) e =
    let q : i ≡ j = cc in
    (s, ap (λ (k : ℕ). go k s) q)
onto_place f (bad kind at s) e = absurd (bad_goes e)
onto_place f (full name) e = absurd (full_goes e)

-- ---- a loop over areas: its body depends on the areas' sizes c; the areas now have the sizes `now`, which are the same

pub record Loops {S C : Type 0} (whole : Out S) (test : ℕ → Bool) (body : C → ℕ → S → Out S) (bound : ℕ) (c now : C) (i : ℕ) (s : S) : Type 0 where
  pub going : Going whole test (body c) bound i s
  pub same : now ≡ c

module _ {S C : Type 0} {whole : Out S} {test : ℕ → Bool} {body : C → ℕ → S → Out S} {bound : ℕ} {c now : C} {i : ℕ} {s : S} (x : Loops whole test body bound c now i s) where
  pub loops_stop : test i ≡ false → whole ≡ go i s
  loops_stop e = sym (going_stop test (body c) bound i s x.going e)

  module _ (pass : test i ≡ true) (inside : i < bound) {Q : Type 0} {H : Q → Type 0} {view : Q → S} {o : Out Q} (d : Does H (body now i) s view o) where
    here : body c i s ≡ body now i s
    here = ap (λ (k : C). body k i s) (sym x.same)

    pub loops_next : {j : ℕ} {q : Q} (then : C) → o ≡ go j q → i < j → then ≡ now → Loops whole test body bound c then j (view q)
    loops_next then e h k = record {
      going = going_next test (body c) bound i s x.going pass inside (here ∙ was_go d e) h;
      same = k ∙ x.same;
    }

    pub loops_bad : {kind at : ℕ} {q : Q} → o ≡ bad kind at q → whole ≡ bad kind at (view q)
    loops_bad e = sym (going_bad test (body c) bound i s x.going pass inside (here ∙ was_bad d e))

    pub loops_full : {name : AreaName} → o ≡ full name → whole ≡ full name
    loops_full e = sym (going_full test (body c) bound i s x.going pass inside (here ∙ was_full d e))

-- the body answers a Result
module _ {S C : Type 0} {whole : Out S} {test : ℕ → Bool} {body : C → ℕ → S → Out S} {bound : ℕ} {c now : C} {i : ℕ} {s : S} (x : Loops whole test body bound c now i s)
    (pass : test i ≡ true) (inside : i < bound) {Q : Type 0} {H : Q → Type 0} {view : Q → S} (r : Result ℕ Stop) (q : Q) (d : Does {S = S} {Q = Q} H (body now i) s view (outcome r q)) where
  pub loops_ok : {j : ℕ} (then : C) → r ≡ Ok j → i < j → then ≡ now → Loops whole test body bound c then j (view q)
  loops_ok then e h k = loops_next x pass inside d then (ap (λ (y : Result ℕ Stop). outcome y q) e) h k

  pub loops_err : (e : Stop) → r ≡ Err e → whole ≡ outcome (Err e) (view q)
  loops_err (Fault error) e = loops_bad x pass inside d (ap (λ (y : Result ℕ Stop). outcome y q) e)
  loops_err (Full name) e = loops_full x pass inside d (ap (λ (y : Result ℕ Stop). outcome y q) e)

-- ---- a step that does g, and goes on from where g leaves off to the place that h gives

module _ {S : Type 0} {f g : S → Out S} {s : S} (h : ℕ → ℕ) (is : f s ≡ next (g s) (λ j t. go (h j) t)) {Q : Type 0} {H : Q → Type 0} {view : Q → S} {o : Out Q} (d : Does H g s view o) where
  pub then_go : {j : ℕ} {q : Q} → o ≡ go j q → Does H f s view (go (h j) q)
  then_go {j} {q} e = does_go (is ∙ ap (λ (x : Out S). next x (λ j t. go (h j) t)) (was_go d e)) (d.goes j q e)

  pub then_bad : {kind at : ℕ} {q : Q} → o ≡ bad kind at q → Does H f s view (bad kind at q)
  then_bad {kind} {at} {q} e = does_bad (is ∙ ap (λ (x : Out S). next x (λ j t. go (h j) t)) (was_bad d e)) (d.ends kind at q e)

  pub then_full : {name : AreaName} → o ≡ full name → Does H f s view (full name)
  then_full e = does_full (is ∙ ap (λ (x : Out S). next x (λ j t. go (h j) t)) (was_full d e))

-- the step answers a Result
module _ {S : Type 0} {f g : S → Out S} {s : S} (h : ℕ → ℕ) (is : f s ≡ next (g s) (λ j t. go (h j) t)) {Q : Type 0} {H : Q → Type 0} {view : Q → S} (r : Result ℕ Stop) (q : Q) (d : Does {S = S} {Q = Q} H g s view (outcome r q)) where
  pub then_ok : {j : ℕ} → r ≡ Ok j → Does H f s view (go (h j) q)
  then_ok e = then_go h is d (ap (λ (y : Result ℕ Stop). outcome y q) e)

  pub then_err : (x : Stop) → r ≡ Err x → Does H f s view (outcome (Err x) q)
  then_err (Fault error) e = then_bad h is d (ap (λ (y : Result ℕ Stop). outcome y q) e)
  then_err (Full name) e = then_full h is d (ap (λ (y : Result ℕ Stop). outcome y q) e)

-- ---- a step on a part of a larger state

module _ {S T Q P : Type 0} (lift : S → T) (inject : Q → P) {g : S → Out S} {s : S} {f : T → Out T} {t : T} {H : Q → Type 0} {K : P → Type 0} {view : Q → S} (whole : P → T) where
  -- f does g to the part; the counts of the part, with those of the rest, stand for the larger state
  pub does_onto : f t ≡ onto lift (g s) → ((q : Q) → whole (inject q) ≡ lift (view q)) → ((q : Q) → H q → K (inject q)) → (o : Out Q) → Does H g s view o → Does K f t whole (onto inject o)
  does_onto is same keep (go i q) d = does_go (is ∙ ap (onto lift) d.says ∙ ap (go i) (sym (same q))) (keep q (d.goes i q refl))
  does_onto is same keep (bad kind at q) d = does_bad (is ∙ ap (onto lift) d.says ∙ ap (bad kind at) (sym (same q))) (keep q (d.ends kind at q refl))
  does_onto is same keep (full name) d = does_full (is ∙ ap (onto lift) d.says)
