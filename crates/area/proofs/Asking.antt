-- Loops that ask a closure for each record of a list: what holds of any test that answers as the closure does.
-- Assumes nothing.
use Rattle.std.specs.Prelude.{Some, None}
use Rattle.std.proofs.lemmas.Option.{none-some}
use mathlib.Core.Path.{◌≡◌, refl, sym, ap, ap₂, subst, ◌∙◌}
use mathlib.Core.Bool.{Bool, true, false, ◌&&◌}
use mathlib.Core.List.{List}
use Prim.Native.Nat.{ℕ, ◌+◌, ◌*◌, ◌≤◌, ◌<◌}
use native.Mathlib.Numerals.{add-one}
use native.Mathlib.Nat.{le_refl}
use native.Mathlib.Omega.{arith}
use lib.ListN.{length, get_or, take}
use lib.Seq.{take-suc, take-length}
use Rattle.characters.specs.Walk.{first}
use Rattle.characters.proofs.Walks.{first_found, first_again, first_ended}
use Rattle.area.specs.Lists.{all}
use Rattle.area.specs.Asked.{AllPass, FirstFound}
use Rattle.area.specs.Contents.{Format, contents}
use Rattle.area.proofs.All.{all_one_more}
use Rattle.area.proofs.Contents.{contents_count, contents_read}
use Rattle.area.proofs.Rooms.{record_fits}

-- ---- a list of records, as the bytes that it is read from

module _ {A : Type 0} (F : Format A) (l : List ℕ) (n : ℕ) {xs : List A} (is : contents F l n ≡ xs) where
  pub seen_count : n ≡ length xs
  seen_count = sym (contents_count F l n) ∙ ap length is

  -- all of the records stand in the bytes
  pub seen_bytes : n * F.width ≤ length l → (length xs * F.width ≤ length l) × (xs ≡ contents F l (length xs))
  seen_bytes fits = (subst (λ (m : ℕ). m * F.width ≤ length l) seen_count fits, sym is ∙ ap (contents F l) seen_count)

  pub seen_fits : {k : ℕ} → n * F.width ≤ length l → k < length xs → k * F.width + F.width ≤ length l
  seen_fits {k} fits h = record_fits F.width (length l) n k (omega (arith, seen_count)) fits

  pub seen_read : {k : ℕ} {x : A} → k < length xs → x ≡ F.read l k → x ≡ get_or xs k F.blank
  seen_read {k} h e = e ∙ sym (contents_read F l n k (omega (arith, seen_count))) ∙ ap (λ (t : List A). get_or t k F.blank) is

-- ---- whether all pass

-- r is whether the first k pass
pub record Passing {A : Type 0} (post : A → Bool → Type 0) (d : A) (xs : List A) (k : ℕ) (r : Bool) : Type 0 where
  pub is : (test : A → Bool) → ((j : ℕ) (b : Bool) → j < length xs → post (get_or xs j d) b → b ≡ test (get_or xs j d)) → r ≡ all test (take k xs)

module _ {A : Type 0} {post : A → Bool → Type 0} {d : A} {xs : List A} where
  pub passing_none : Passing post d xs 0 true
  unfolding all
  passing_none = record { is = λ test says. refl }

  pub passing_next : {k : ℕ} {r b : Bool} {x : A} → Passing post d xs k r → k < length xs → x ≡ get_or xs k d → post x b
      → Passing post d xs (k + 1) (r && b)
  passing_next {k} {r} {b} p h e q = record {
    is = λ test says.
        ap₂ (λ (s t : Bool). s && t) (p.is test says) (says k b h (subst (λ (y : A). post y b) e q))
        ∙ sym (all_one_more test (take k xs) (get_or xs k d))
        ∙ ap (all test) (sym (take-suc xs k d h) ∙ ap (λ (j : ℕ). take j xs) (sym (add-one k)));
  }

  pub passing_all : {k : ℕ} {r : Bool} → Passing post d xs k r → k ≡ length xs → AllPass post d xs r
  passing_all p e = record { is = λ test says. p.is test says ∙ ap (all test) (ap (λ (j : ℕ). take j xs) e ∙ take-length xs) }

-- the records of an area, by a test that answers as the closure does
pub records_judged : {A : Type 0} {post : A → Bool → Type 0} {d : A} {xs ys : List A} {r : Bool} (test : A → Bool) → AllPass post d xs r → xs ≡ ys
    → ((k : ℕ) (b : Bool) → k < length xs → post (get_or xs k d) b → b ≡ test (get_or xs k d)) → r ≡ all test ys
records_judged test asked is says = asked.is test says ∙ ap (all test) is

-- ---- the first that passes

-- none from i to before k passes
pub record Passed {A : Type 0} (post : ℕ → A → Bool → Type 0) (d : A) (xs : List A) (i e k : ℕ) : Type 0 where
  pub is : (test : ℕ → Bool) → ((j : ℕ) (b : Bool) → i ≤ j → j < e → post j (get_or xs j d) b → b ≡ test j) → first test i e ≡ first test k e

module _ {A : Type 0} {post : ℕ → A → Bool → Type 0} {d : A} {xs : List A} {i e : ℕ} where
  pub passed_none : Passed post d xs i e i
  passed_none = record { is = λ test says. refl }

  module _ {k : ℕ} (p : Passed post d xs i e k) (from : i ≤ k) where
    module _ (to : k < e) {x : A} {b : Bool} (is : x ≡ get_or xs k d) (q : post k x b) where
      here : (test : ℕ → Bool) → ((j : ℕ) (b : Bool) → i ≤ j → j < e → post j (get_or xs j d) b → b ≡ test j) → b ≡ test k
      here test says = says k b from to (subst (λ (y : A). post k y b) is q)

      pub passed_next : b ≡ false → Passed post d xs i e (k + 1)
      passed_next f = record { is = λ test says. first_again test i k e (p.is test says) to (sym (here test says) ∙ f) }

      pub passed_found : b ≡ true → FirstFound post d xs i e (Some k)
      passed_found t = record {
        is = λ test says. (to, first_found test i k e (p.is test says) to (sym (here test says) ∙ t));
        within = λ j q. let s : k ≡ j = cc in (omega (arith, s), omega (arith, s));
      }

    pub passed_end : k ≡ e → FirstFound post d xs i e None
    passed_end q = record {
      is = λ test says. first_ended test i e e (p.is test says ∙ ap (λ (j : ℕ). first test j e) q) (le_refl e);
      within = λ j z. absurd (none-some j z);
    }
