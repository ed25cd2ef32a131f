-- What the parse call leaves is read back as the contents that it was laid from: each list fits its area, so nothing of it is cut off, and an area
-- determines its records.
use Prim.Native.Nat.{ℕ, ◌*◌, ◌≤◌}
use mathlib.Core.Path.{◌≡◌, refl, sym, ap, subst, ◌∙◌}
use mathlib.Core.Bool.{Bool, true, false, false≢true}
use mathlib.Core.List.{List, []}
use native.Mathlib.Omega.{arith}
use borrow.Author.Tests.{le-leb}
use lib.ListN.{length}
use Rattle.std.specs.Prelude.{Ok, Err}
use Rattle.area.specs.declared.State.{State}
use Rattle.area.specs.declared.Rule.{Rule}
use Rattle.area.specs.declared.Expected.{Expected}
use Rattle.area.specs.declared.Fault.{Fault}
use Rattle.area.specs.Areas.{Area}
use Rattle.area.specs.Contents.{Format, contents, Held, text_format, laid}
use Rattle.area.proofs.Areas.{area-length}
use Rattle.area.proofs.Contents.{Sound, contents_are, held_of, state_sound, rule_sound, entry_sound, text_sound, expected_sound}
use Rattle.section.specs.Request.{Request}
use Rattle.parse.specs.Parse.{Contents, Caps, Outcome, long_file, unknown_flag, invalid_utf8, area_full, faulty, accepted, outcome, ParseAnswer, parse_accepted, Left, sheet_left, leaves, parse_call}
use Rattle.sheet_check.specs.SheetCheck.{SheetBytes, decoded, sizes_of, long_enough, good_sizes, sheet_check}
use Rattle.parsed_sheet.specs.Accepted.{Fits, ContentsFit, AreasHold, sheet_left_by}
use Rattle.parsed_sheet.proofs.Checking.{accepted_counts, accepted_good, accepted_fits, accepted_faultless}

-- ---- one list in its area

module _ {A : Type 0} {F : Format A} (sound : Sound F) {cap : ℕ} {xs : List A} (f : Fits F cap xs) where
  laid_area : Area F.write F.width F.most cap (laid F cap xs) (length xs) xs
  laid_area = record { count = refl; is = refl; few = f.few; fits = f.fits }

  -- the area holds the list, and zeros behind it
  pub laid_held : Held F (laid F cap xs) (length xs)
  laid_held = held_of sound laid_area

  pub laid_contents : contents F (laid F cap xs) (length xs) ≡ xs
  laid_contents = contents_are sound laid_area

  pub laid-length : length (laid F cap xs) ≡ cap
  laid-length = area-length sound.wide laid_area

  laid_long : length xs * F.width ≤ length (laid F cap xs)
  laid_long = rw laid-length f.fits

-- ---- the sheet that is left

abbrev contents_made : List State → List Rule → List ℕ → List ℕ → List Expected → List Fault → Contents
contents_made xs rs ids t es fs = record { states = xs; rules = rs; lists = ids; text = t; expected = es; faults = fs }

module _ (s : List ℕ) (k : Caps) (c : Contents) (f : ContentsFit k c) where
  abbrev bytes : SheetBytes
  bytes = sheet_left_by s (sheet_left c k)

  laid_decodes : c.faults ≡ [] → decoded bytes ≡ c
  unfolding decoded
  laid_decodes e =
      λ i. contents_made (laid_contents state_sound f.states i) (laid_contents rule_sound f.rules i)
      (laid_contents entry_sound f.lists i) (laid_contents text_sound f.text i) (laid_contents expected_sound f.expected i) (sym e i)

  laid_enough : long_enough (sizes_of bytes) ≡ true
  unfolding long_enough
  laid_enough =
      let states-long = le-leb _ _ (laid_long state_sound f.states) in
      let rules-long = le-leb _ _ (laid_long rule_sound f.rules) in
      let entries-long = le-leb _ _ (laid_long entry_sound f.lists) in
      let text-long = le-leb (length c.text) (length (laid text_format k.c4 c.text)) (omega (arith, laid_long text_sound f.text)) in
      let expected-long = le-leb _ _ (laid_long expected_sound f.expected) in
      rw (states-long, rules-long, entries-long, text-long, expected-long)

-- ---- the call

abbrev is_accepted : ParseAnswer → Bool
is_accepted (Ok x) = true
is_accepted (Err error) = false

module _ (asked : Request) (k : Caps) where
  module _ (c : Contents) (is : outcome asked k ≡ accepted c) where
    abbrev sheet : SheetBytes
    sheet = sheet_left_by asked.source (parse_call asked k)

    accepted_leaves : parse_call asked k ≡ sheet_left c k
    unfolding parse_call leaves
    accepted_leaves = ap (leaves k) is

    -- the areas that an accepted parse leaves are read back as its contents
    pub accepted_decodes : decoded sheet ≡ c
    accepted_decodes =
        ap (λ (l : Left). decoded (sheet_left_by asked.source l)) accepted_leaves
        ∙ laid_decodes asked.source k c (accepted_fits asked k c is) (accepted_faultless asked k c is)

    -- and they pass the sheet check
    pub accepted_checks : sheet_check sheet ≡ true
    unfolding sheet_check good_sizes
    accepted_checks =
        rw (accepted_decodes, accepted_leaves, laid_enough asked.source k c (accepted_fits asked k c is), accepted_counts asked k c is)
        (accepted_good asked k c is)

    -- each area holds its list, and zeros behind it
    pub accepted_held : AreasHold c (parse_call asked k)
    accepted_held =
        let f = accepted_fits asked k c is in
        subst (AreasHold c) (sym accepted_leaves)
        (record {
          states = laid_held state_sound f.states;
          rules = laid_held rule_sound f.rules;
          lists = laid_held entry_sound f.lists;
          text = laid_held text_sound f.text;
          expected = laid_held expected_sound f.expected;
          counts = refl;
        })

  -- a call that answers that it accepts has contents
  pub answer_accepted : (parse_call asked k).answer ≡ parse_accepted → (c : Contents) × (outcome asked k ≡ accepted c)
  unfolding parse_call leaves
  answer_accepted e = by (outcome asked k) refl e
    where
      by : (o : Outcome) → outcome asked k ≡ o → (leaves k o).answer ≡ parse_accepted → (c : Contents) × (outcome asked k ≡ accepted c)
      by (accepted c) q z = (c, q)
      by long_file q z = absurd (false≢true (ap is_accepted z))
      by unknown_flag q z = absurd (false≢true (ap is_accepted z))
      by invalid_utf8 q z = absurd (false≢true (ap is_accepted z))
      by (area_full name) q z = absurd (false≢true (ap is_accepted z))
      by (faulty fs) q z = absurd (false≢true (ap is_accepted z))
