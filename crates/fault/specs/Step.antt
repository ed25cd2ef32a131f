-- What a step of the parse comes to, and how steps follow one another. What the step writes is its state, a variable here.
use Rattle.std.specs.Prelude.{Result, Ok, Err, ℕ, zero, suc, Bool, cond, ◌≡◌}
use Rattle.std.proofs.Math.Option.{Option, none, some}
use Rattle.area.specs.declared.AreaName.{AreaName}
use Rattle.fault.specs.declared.Stop.{Stop}
use Rattle.fault.specs.declared.Stop.TheVariants.{Fault, Full}
use Rattle.fault.specs.Kinds.{kind_number}

-- parsing goes on at a place; a fault of a kind at a place ends it; or the next record or text does not fit into an area
-- (01, Numbers given at the counter: 4 or 5, whichever comes first)
pub data Out (S : Type 0) : Type 0 where
  go : ℕ → S → Out S
  bad : ℕ → ℕ → S → Out S
  full : AreaName → Out S

-- on with g where the step goes on
abbrev pub next : {S : Type 0} → Out S → (ℕ → S → Out S) → Out S
next (go i s) g = g i s
next (bad kind at s) g = bad kind at s
next (full name) g = full name

-- the same outcome, of a larger state
abbrev pub onto : {S T : Type 0} → (S → T) → Out S → Out T
onto f (go i s) = go i (f s)
onto f (bad kind at s) = bad kind at (f s)
onto f (full name) = full name

-- on at i with what is written, if it fits into the area
abbrev pub written : {S : Type 0} → AreaName → ℕ → Option S → Out S
written name i none = full name
written name i (some s) = go i s

-- while the test passes at the place: the body, from there to where it leaves off; at most n times
unfoldable pub loop : {S : Type 0} → ℕ → (ℕ → Bool) → (ℕ → S → Out S) → ℕ → S → Out S
loop zero test body i s = go i s
loop (suc n) test body i s = let r = next (body i s) (λ j t. loop n test body j t) in cond (test i) r (go i s)

-- ---- an outcome with counts of records in place of the records

-- the outcome of a step that answers r and leaves the counts q
abbrev pub outcome : {Q : Type 0} → Result ℕ Stop → Q → Out Q
outcome (Ok i) q = go i q
outcome (Err (Fault error)) q = bad (kind_number error.kind) error.at q
outcome (Err (Full name)) q = full name

-- the step f from the state s comes to o, where `view` is the state that the counts stand for in the areas afterwards; and unless an area is
-- full, H holds of the counts
pub record Does {S Q : Type 0} (H : Q → Type 0) (f : S → Out S) (s : S) (view : Q → S) (o : Out Q) : Type 0 where
  pub says : f s ≡ onto view o
  pub goes : (i : ℕ) (q : Q) → o ≡ go i q → H q
  pub ends : (kind at : ℕ) (q : Q) → o ≡ bad kind at q → H q
