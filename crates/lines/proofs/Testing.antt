-- The tests of a source that both calls begin with, whatever the call answers then, and what an answer says of the source.
use mathlib.Core.Path.{◌≡◌, refl, sym, ap, ◌∙◌}
use mathlib.Core.Bool.{Bool, true, false, cond, false≢true}
use mathlib.Core.List.{List}
use Prim.Native.Nat.{ℕ, ◌≤◌}
use borrow.Author.Tests.{le-ltb, ltb-false}
use lib.Dec.{ltb}
use lib.ListN.{length}
use Rattle.std.specs.Prelude.{Result, Ok, Err}
use Rattle.std.specs.Result.{is_ok, result_and, result_map_both, IsErrAnd}
use Rattle.std.proofs.lemmas.Result.{err_from_is_err_and}
use Rattle.answers.specs.Numbers.{most_source}
use Rattle.characters.specs.Utf8.{utf8}
use Rattle.lines.specs.declared.Byte.{Byte}
use Rattle.lines.specs.declared.Place.{Place}
use Rattle.lines.specs.declared.PlaceError.{PlaceError}
use Rattle.lines.specs.declared.PlaceError.TheVariants.{LongFile, InvalidUtf8}
use Rattle.lines.specs.declared.counts.Source.{Source}
use Rattle.lines.specs.Lines.{tested, place_in, offset_in}

-- the source passes the tests 1 and 3
pub record Text (s : List ℕ) : Type 0 where
  pub short : length s ≤ most_source
  pub well_formed : utf8 s ≡ true

-- what is known, and y of a refusal
abbrev pub ok_or_else : {A : Type 0} → Result A PlaceError → A → A
ok_or_else (Ok x) y = x
ok_or_else (Err e) y = y

module _ {A : Type 0} (s : List ℕ) (answer : Result A PlaceError) where
  -- the tests come first, and then the answer
  tests_first : tested s answer ≡ result_and (tested s (Ok s)) answer
  unfolding tested
  tests_first = go (ltb most_source (length s)) (utf8 s)
    where
      go : (t u : Bool) → cond t (Err LongFile) (cond u answer (Err InvalidUtf8))
          ≡ result_and (cond t (Err LongFile) (cond u (Ok s) (Err InvalidUtf8))) answer
      go true u = refl
      go false true = refl
      go false false = refl

  pub tested_text : Text s → tested s answer ≡ answer
  unfolding tested
  tested_text h = rw (le-ltb most_source (length s) h.short, h.well_formed)

  -- what is known is known of a text
  pub text_known : (x : A) → tested s answer ≡ Ok x → Text s × (answer ≡ Ok x)
  unfolding tested
  text_known x e = go (ltb most_source (length s)) (utf8 s) refl refl e
    where
      go : (t u : Bool) → ltb most_source (length s) ≡ t → utf8 s ≡ u → cond t (Err LongFile) (cond u answer (Err InvalidUtf8)) ≡ Ok x
          → Text s × (answer ≡ Ok x)
      go true u l w e = absurd (false≢true (ap is_ok e))
      go false false l w e = absurd (false≢true (ap is_ok e))
      go false true l w e = (record { short = ltb-false most_source (length s) l; well_formed = w }, e)

-- ---- the source that the tests gave, and what is asked of it

-- what is asked of the text that passed is what the call answers
asked : {A : Type 0} (ask : List ℕ → Result A PlaceError) (s t : List ℕ) → Ok t ≡ tested s (Ok s) → ask t ≡ tested s (ask s)
asked ask s t is =
    let known = text_known s (Ok s) t (sym is) in
    ap (λ (x : Result (List ℕ) PlaceError). ask (ok_or_else x t)) (sym known.1) ∙ sym (tested_text s (ask s) known.0)

-- each answer with the bytes of its source
abbrev bytes_of : Result Source PlaceError → Result (List ℕ) PlaceError
bytes_of = result_map_both (λ source. source.bytes.now) (λ error. error)

module _ (s : List ℕ) (r : Result Source PlaceError) (is : bytes_of r ≡ tested s (Ok s)) where
  -- `?` passes the refusal on
  pub refused_first : {A : Type 0} (answer x : Result A PlaceError) (e : PlaceError) → r ≡ Err e → IsErrAnd x (λ y. y ≡ e) → x ≡ tested s answer
  refused_first answer x e h same =
      let p = err_from_is_err_and x same in
      p.1 ∙ ap Err p.2 ∙ ap (λ (y : Result (List ℕ) PlaceError). result_and y answer) (sym (ap bytes_of h) ∙ is) ∙ sym (tests_first s answer)

  -- a source that passed is asked
  pub passed_place : (u : Source) (x : Result Place PlaceError) (b : ℕ) → r ≡ Ok u → x ≡ place_in u.bytes.now b → x ≡ tested s (place_in s b)
  passed_place u x b h e = e ∙ asked (λ t. place_in t b) s u.bytes.now (sym (ap bytes_of h) ∙ is)

  pub passed_offset : (u : Source) (x : Result Byte PlaceError) (p : Place) → r ≡ Ok u → x ≡ offset_in u.bytes.now p → x ≡ tested s (offset_in s p)
  passed_offset u x p h e = e ∙ asked (λ t. offset_in t p) s u.bytes.now (sym (ap bytes_of h) ∙ is)

pub ruleset testing = (passed_place, passed_offset)
