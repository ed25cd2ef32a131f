-- The list of states in front of a pattern: a law for each way through a name, and the loop over the names. Each name leads on by at least the
-- comma behind it, so the loop ends past the `>`.
use mathlib.Core.Path.{◌≡◌, refl, sym, subst, ◌∙◌}
use mathlib.Core.Bool.{Bool, true, false, cond}
use mathlib.Core.List.{List, [], ◌∷◌}
use Prim.Native.Nat.{ℕ, ◌+◌, ◌-◌, ◌≤◌, ◌<◌}
use native.Mathlib.Omega.{arith}
use borrow.Author.Tests.{le-leb, lt-leb}
use lib.Dec.{eqb, leb}
use lib.ListN.{length}
use Rattle.std.specs.Prelude.{Option, Some, None, Result, Ok, Err}
use Rattle.characters.specs.Walk.{Between, Below}
use Rattle.characters.specs.Whitespace.{byte}
use Rattle.text.specs.Scan.{find_byte}
use Rattle.characters.proofs.Walks.{first_from}
use Rattle.area.specs.declared.State.{State}
use Rattle.area.specs.declared.AreaFull.{AreaFull}
use Rattle.area.specs.declared.AreaName.TheVariants as N
use Rattle.area.specs.Areas.{Pushed}
use Rattle.area.specs.Records.{entry_bytes, entry_width, most_others}
use Rattle.area.specs.Contents.{append, contents, entry_format, Grows, Held}
use Rattle.area.proofs.Contents.{entry_sound, held_push}
use Rattle.fault.specs.declared.Stop.{Stop}
use Rattle.fault.specs.declared.Stop.TheVariants.{Fault, Full}
use Rattle.fault.specs.declared.kinds.LexErrorKind.TheVariants.{UnknownStartState}
use Rattle.fault.specs.Kinds.{kind_number, error_at}
use Rattle.fault.specs.Step.{Out, go, bad, Does, outcome, written}
use Rattle.fault.proofs.Steps.{Loops, loops_stop, loops_ok, loops_err, going_start, does_go, does_bad, does_full, does_err, was_ok, holds_ok, holds_err}
use Rattle.fault.proofs.Steps.{written_next, written_full, written_place, bad_goes}
use Rattle.rules.specs.Rules.{entry_end, entry_id, next_entry, entries}

-- ---- a name

-- the name ends at e, and is that of the state o, if there is one
module _ (s : List ℕ) (i g a : ℕ) (xs : List State) (l : List ℕ) (n : ℕ) (h : Held entry_format l n)
    (e : ℕ) (b : Between a g (find_byte s a g 0x2c) e) (o : Option ℕ) (f : Below (length xs) (entry_id s xs a e) o) where
  abbrev Done : List ℕ → Result ℕ Stop → ℕ → Type 0
  Done x r m = Does (Held entry_format x) (next_entry s (length l) xs i g a) (contents entry_format l n) (contents entry_format x) (outcome r m)

  pub entry_unknown : o ≡ None → Done l (Err (Fault (error_at UnknownStartState i))) n
  unfolding next_entry entry_end
  entry_unknown z =
      let missing = subst (Below (length xs) (entry_id s xs a e)) z f in
      does_bad (rw (← b.is, ← missing, le-leb (length xs) (length xs) (omega arith))) h

  module _ {j : ℕ} (z : o ≡ Some j) (id : ℕ) (same : id ≡ j) (p : Result ℕ AreaFull) (x : List ℕ)
      (pushed : Pushed N.Entries entry_width most_others 1 (entry_bytes id) l n p x) where
    grown : Grows entry_format (append entry_format (length l) (id ∷ [])) l n p x
    grown = held_push entry_sound h id pushed

    known : next_entry s (length l) xs i g a (contents entry_format l n)
        ≡ written N.Entries (e + 1) (append entry_format (length l) (id ∷ []) (contents entry_format l n))
    unfolding next_entry entry_end
    known =
        let found = subst (Below (length xs) (entry_id s xs a e)) z f in
        rw (← b.is, ← found.1, lt-leb (length xs) j found.0, same)

    pub entry_next : {m : ℕ} → p ≡ Ok m → Done x (Ok (e + 1)) m
    entry_next {m} q = does_go (known ∙ written_next entry_format N.Entries (e + 1) _ x p grown.says q) (grown.held m q)

    pub entry_full : {full : AreaFull} (m : ℕ) → p ≡ Err full → Done x (Err (Full full.0)) m
    entry_full {full} m q = rw (grown.names full q) (does_full (known ∙ written_full entry_format N.Entries (e + 1) _ x p grown.says q))

-- ---- the loop over the names, up to g

-- a name leads on
entry_forward : (s : List ℕ) (c3 : ℕ) (xs : List State) (i g a : ℕ) (ids : List ℕ) {j : ℕ} {ys : List ℕ} → next_entry s c3 xs i g a ids ≡ go j ys → a < j
unfolding next_entry entry_end
entry_forward s c3 xs i g a ids {j} {ys} q = by (leb (length xs) k) q
  where
    e : ℕ
    e = find_byte s a g 0x2c

    k : ℕ
    k = entry_id s xs a e

    by : (t : Bool) → cond t (bad (kind_number UnknownStartState) i ids) (written N.Entries (e + 1) (append entry_format c3 (k ∷ []) ids)) ≡ go j ys → a < j
    by true w = absurd (bad_goes w)
    by false w =
        omega (arith, written_place N.Entries (e + 1) (append entry_format c3 (k ∷ []) ids) w, first_from (λ m. eqb (byte s m) 0x2c) a g)

-- the loop has come to the name at a, with n entries held
pub record Lists (whole : Out (List ℕ)) (s : List ℕ) (c3 : ℕ) (xs : List State) (i g a : ℕ) (l : List ℕ) (n : ℕ) : Type 0 where
  pub held : Held entry_format l n
  pub loops : Loops whole (λ j. leb j g) (λ c. next_entry s c xs i g) (g + 1) c3 (length l) a (contents entry_format l n)

pub lists_start : (s : List ℕ) (xs : List State) (i g n : ℕ) (l : List ℕ) → Held entry_format l n → g < length s
    → Lists (entries s (length l) xs i g (contents entry_format l n)) s (length l) xs i g (i + 1) l n
unfolding entries
lists_start s xs i g n l h f = record {
  held = h;
  loops = record {
    going = going_start (λ j. leb j g) (next_entry s (length l) xs i g) (g + 1) (i + 1) (contents entry_format l n) (length s) (omega arith);
    same = refl;
  };
}

module _ {whole : Out (List ℕ)} {s : List ℕ} {c3 : ℕ} {xs : List State} {i g a : ℕ} {l : List ℕ} {n : ℕ} (x : Lists whole s c3 xs i g a l n) (h : a ≤ g)
    {v : List ℕ} (r : Result ℕ Stop) (m : ℕ)
    (d : Does (Held entry_format v) (next_entry s (length l) xs i g a) (contents entry_format l n) (contents entry_format v) (outcome r m)) where
  module _ {j : ℕ} (q : r ≡ Ok j) where
    forward : a < j
    forward = entry_forward s (length l) xs i g a (contents entry_format l n) (was_ok r m d q)

    pub lists_less : g + 1 - j < g + 1 - a
    lists_less = omega (arith, forward)

    pub lists_next : length v ≡ length l → Lists whole s c3 xs i g j v m
    lists_next k = record { held = holds_ok r m d q; loops = loops_ok x.loops (le-leb a g h) (omega arith) r m d (length v) q forward k }

  -- f is the whole loop, which began with the entries ids
  pub lists_err : (f : List ℕ → Out (List ℕ)) (ids : List ℕ) → whole ≡ f ids → (y : Stop) → r ≡ Err y
      → Does (Held entry_format v) f ids (contents entry_format v) (outcome (Err y) m)
  lists_err f ids w y q = does_err y _ (sym w ∙ loops_err x.loops (le-leb a g h) (omega arith) r m d y q) (holds_err r m d y q)

pub lists_done : (f : List ℕ → Out (List ℕ)) (ids : List ℕ) {s : List ℕ} {c3 : ℕ} {xs : List State} {i g a : ℕ} {l : List ℕ} {n : ℕ}
    → Lists (f ids) s c3 xs i g a l n → g < a → Does (Held entry_format l) f ids (contents entry_format l) (go a n)
lists_done f ids {g = g} {a = a} x h = does_go (loops_stop x.loops (lt-leb a g h)) x.held
