-- Expected names, one after the other: a law for each way through a name, and the loop over them.
use mathlib.Core.Path.{◌≡◌, refl, sym, ◌∙◌}
use mathlib.Core.Bool.{Bool, true, false, cond, not, ◌&&◌, and-false}
use mathlib.Core.List.{List, [], ◌∷◌}
use Prim.Native.Nat.{ℕ, ◌+◌, ◌-◌, ◌≤◌, ◌<◌}
use native.Mathlib.Omega.{arith}
use borrow.Author.Rules.{rules}
use borrow.Author.Tests.{le-leb, lt-leb, lt-ltb, le-ltb, leb-true, ne_eqb}
use lib.Dec.{eqb, leb, ltb}
use lib.ListN.{length}
use Rattle.std.proofs.lemmas.Bool.{and_parts}
use Rattle.std.specs.Prelude.{Result, Ok, Err}
use Rattle.characters.specs.Walk.{Between}
use Rattle.characters.specs.Class.{is_ascii_whitespace}
use Rattle.characters.specs.Whitespace.{byte}
use Rattle.characters.proofs.Walks.{first_from}
use Rattle.text.specs.Scan.{find_ascii_whitespace, skip_ascii_whitespace}
use Rattle.text.specs.Range.{part}
use Rattle.text.proofs.Parts.{part_length, part_first, part_last}
use Rattle.area.specs.declared.Expected.{Expected}
use Rattle.area.specs.declared.AreaFull.{AreaFull}
use Rattle.area.specs.declared.AreaName.TheVariants as N
use Rattle.area.specs.Areas.{Pushed}
use Rattle.area.specs.Records.{expected_bytes, expected_width, most_others}
use Rattle.area.specs.Contents.{append, contents, expected_format, Grows, Held}
use Rattle.area.proofs.Contents.{expected_sound, held_push}
use Rattle.fault.specs.declared.Stop.{Stop}
use Rattle.fault.specs.declared.Stop.TheVariants.{Fault, Full}
use Rattle.fault.specs.declared.kinds.LexErrorKind.TheVariants.{InvalidName}
use Rattle.fault.specs.Kinds.{kind_number, error_at}
use Rattle.fault.specs.Step.{Out, go, bad, Does, outcome, written}
use Rattle.fault.proofs.Steps.{Loops, loops_stop, loops_ok, loops_err, going_start, does_go, does_bad, does_full, does_err, was_ok, holds_ok, holds_err, written_next}
use Rattle.fault.proofs.Steps.{written_full, written_place, bad_goes}
use Rattle.declarations.specs.Declarations.{Range, range, expected, is_quoted, declare_expected, expected_names}

-- ---- quotes

pub quotes_long : (s : List ℕ) (w : Range) (r : Bool) → r ≡ is_quoted s w → r ≡ true → w.start + 2 ≤ w.end
unfolding is_quoted
quotes_long s w r q t = leb-true (w.start + 2) w.end (and_parts (leb (w.start + 2) w.end) (eqb (byte s w.start) 0x22 && eqb (byte s (w.end - 1)) 0x22) (sym q ∙ t)).0

-- the word is read as a part of the source
module _ (s : List ℕ) (w : Range) (word : List ℕ) (cut : word ≡ part s w.start w.end) (fits : w.end ≤ length s) where
  pub quotes_short : length word < 2 → false ≡ is_quoted s w
  unfolding is_quoted
  quotes_short h = rw (lt-leb (w.start + 2) w.end (omega (arith, part_length s w.start w.end word cut fits)))

  module _ (h : 2 ≤ length word) where
    first : byte word 0 ≡ byte s w.start
    first = part_first s w.start w.end word cut fits (omega arith)

    last : byte word (length word - 1) ≡ byte s (w.end - 1)
    last = part_last s w.start w.end word cut fits (omega arith)

    pub quotes_both : byte word 0 ≡ 0x22 → byte word (length word - 1) ≡ 0x22 → true ≡ is_quoted s w
    unfolding is_quoted
    quotes_both x y = rw (le-leb (w.start + 2) w.end (omega (arith, part_length s w.start w.end word cut fits)), ← first, x, ← last, y) refl

    pub quotes_unopened : (byte word 0 ≡ 0x22 → ⊥) → false ≡ is_quoted s w
    unfolding is_quoted
    quotes_unopened x = rw (ne_eqb (byte s w.start) 0x22 (λ z. x (first ∙ z)), and-false (leb (w.start + 2) w.end)) refl

    pub quotes_unclosed : (byte word (length word - 1) ≡ 0x22 → ⊥) → false ≡ is_quoted s w
    unfolding is_quoted
    quotes_unclosed y = rw (ne_eqb (byte s (w.end - 1)) 0x22 (λ z. y (last ∙ z)), and-false (eqb (byte s w.start) 0x22), and-false (leb (w.start + 2) w.end)) refl

pub ruleset quoting = (rules, quotes_short, quotes_both, quotes_unopened, quotes_unclosed)

-- ---- a name

module _ (s : List ℕ) (line : Range) (a n : ℕ) (l : List ℕ) (h : Held expected_format l n) (end : ℕ) (b : Between a line.end (find_ascii_whitespace s a line.end) end) (r : Bool)
    (q : r ≡ is_quoted s (range a end)) where
  abbrev Done : List ℕ → Result ℕ Stop → ℕ → Type 0
  Done x o m =
      Does (Held expected_format x) (declare_expected s (length l) line (range a (find_ascii_whitespace s a line.end))) (contents expected_format l n)
      (contents expected_format x) (outcome o m)

  pub expected_bad : r ≡ false → Done l (Err (Fault (error_at InvalidName line.start))) n
  unfolding declare_expected
  expected_bad t = does_bad (rw (← b.is, ← q, t)) h

  module _ (t : r ≡ true) (p : Result ℕ AreaFull) (x : List ℕ) (pushed : Pushed N.Expected expected_width most_others 1 (expected_bytes (expected (a + 1) (end - 1))) l n p x) where
    grown : Grows expected_format (append expected_format (length l) (expected (a + 1) (end - 1) ∷ [])) l n p x
    grown = held_push expected_sound h (expected (a + 1) (end - 1)) pushed

    pub expected_next : {m j : ℕ} → p ≡ Ok m → Between end line.end (skip_ascii_whitespace s end line.end) j → Done x (Ok j) m
    unfolding declare_expected
    expected_next {m} {j} z c =
        does_go (rw (← b.is, ← q, t, ← c.is) (written_next expected_format N.Expected j _ x p grown.says z)) (grown.held m z)

    pub expected_full : {full : AreaFull} (m : ℕ) → p ≡ Err full → Done x (Err (Full full.0)) m
    unfolding declare_expected
    expected_full {full} m z =
        rw (grown.names full z) (does_full (rw (← b.is, ← q, t) (written_full expected_format N.Expected (skip_ascii_whitespace s end line.end) _ x p grown.says z)))

pub quotes_one : (s : List ℕ) (a e : ℕ) (r : Bool) → r ≡ is_quoted s (range a e) → r ≡ true → 1 ≤ e
quotes_one s a e r q t = omega (arith, quotes_long s (range a e) r q t)

pub ruleset expecting = (rules, quotes_one, expected_bad, expected_next, expected_full)

-- ---- the loop over the names, up to e

-- a name leads on
expected_forward : (s : List ℕ) (c5 : ℕ) (line : Range) (a : ℕ) (xs : List Expected) {j : ℕ} {ys : List Expected}
    → declare_expected s c5 line (range a (find_ascii_whitespace s a line.end)) xs ≡ go j ys → a < j
unfolding declare_expected
expected_forward s c5 line a xs {j} {ys} q = by (is_quoted s (range a end)) refl q
  where
    end : ℕ
    end = find_ascii_whitespace s a line.end

    by : (t : Bool) → is_quoted s (range a end) ≡ t
        → cond t (written N.Expected (skip_ascii_whitespace s end line.end) (append expected_format c5 (expected (a + 1) (end - 1) ∷ []) xs)) (bad (kind_number InvalidName) line.start xs) ≡ go j ys
        → a < j
    by true z w =
        omega (
          arith,
          quotes_long s (range a end) true (sym z) refl,
          written_place N.Expected (skip_ascii_whitespace s end line.end)
              (append expected_format c5 (expected (a + 1) (end - 1) ∷ []) xs) w,
          first_from (λ k. not (is_ascii_whitespace (byte s k))) end line.end,
        )
    by false z w = absurd (bad_goes w)

-- the loop has come to the name at a, with n names held
pub record Expects (whole : Out (List Expected)) (s : List ℕ) (c5 : ℕ) (line : Range) (a : ℕ) (l : List ℕ) (n : ℕ) : Type 0 where
  pub held : Held expected_format l n
  pub loops : Loops whole (λ j. ltb j line.end) (λ c j. declare_expected s c line (range j (find_ascii_whitespace s j line.end))) line.end c5 (length l) a
      (contents expected_format l n)

pub expects_start : (s : List ℕ) (line : Range) (w n a : ℕ) (l : List ℕ) → Held expected_format l n → line.end ≤ length s
    → Between w line.end (skip_ascii_whitespace s w line.end) a
    → Expects (expected_names s (length l) line w (contents expected_format l n)) s (length l) line a l n
unfolding expected_names
expects_start s line w n a l h f b = record {
  held = h;
  loops = record {
    going = rw (← b.is) (going_start (λ j. ltb j line.end) (λ j. declare_expected s (length l) line (range j (find_ascii_whitespace s j line.end)))
        line.end a (contents expected_format l n) (length s) (omega arith));
    same = refl;
  };
}

module _ {whole : Out (List Expected)} {s : List ℕ} {c5 : ℕ} {line : Range} {a : ℕ} {l : List ℕ} {n : ℕ} (x : Expects whole s c5 line a l n) (h : a < line.end)
    {v : List ℕ} (r : Result ℕ Stop) (m : ℕ) (d : Does (Held expected_format v) (declare_expected s (length l) line (range a (find_ascii_whitespace s a line.end)))
    (contents expected_format l n) (contents expected_format v) (outcome r m)) where
  module _ {j : ℕ} (q : r ≡ Ok j) where
    forward : a < j
    forward = expected_forward s (length l) line a (contents expected_format l n) (was_ok r m d q)

    pub expects_less : line.end - j < line.end - a
    expects_less = omega (arith, forward)

    pub expects_next : length v ≡ length l → Expects whole s c5 line j v m
    expects_next k = record { held = holds_ok r m d q; loops = loops_ok x.loops (lt-ltb a line.end h) h r m d (length v) q forward k }

  pub expects_err : (f : List Expected → Out (List Expected)) (xs : List Expected) → whole ≡ f xs → (y : Stop) → r ≡ Err y
      → Does (Held expected_format v) f xs (contents expected_format v) (outcome (Err y) m)
  expects_err f xs w y q = does_err y _ (sym w ∙ loops_err x.loops (lt-ltb a line.end h) h r m d y q) (holds_err r m d y q)

pub expects_done : (f : List Expected → Out (List Expected)) (xs : List Expected) {s : List ℕ} {c5 : ℕ} {line : Range} {a : ℕ} {l : List ℕ} {n : ℕ}
    → Expects (f xs) s c5 line a l n → line.end ≤ a → Does (Held expected_format l) f xs (contents expected_format l) (go a n)
expects_done f xs {line = line} {a = a} x h = does_go (loops_stop x.loops (le-ltb a line.end h)) x.held

pub ruleset expecting_all = (rules, expects_start, expects_done, expects_less, expects_next)
