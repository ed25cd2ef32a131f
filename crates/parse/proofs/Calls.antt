-- What the parse call leaves: every area is its records and zeros behind them, and so it is what the definition lays down, field by field.
use mathlib.Core.Path.{◌≡◌, refl, sym, ap, ◌∙◌}
use mathlib.Core.Bool.{Bool, true, false, true≢false}
use mathlib.Core.List.{List, [], ◌∷◌}
use Prim.Native.Nat.{ℕ, ◌≤◌, ◌<◌}
use borrow.Author.Tests.{lt-ltb, le-ltb}
use lib.ListN.{length}
use Rattle.characters.specs.Utf8.{utf8}
use Rattle.area.specs.Bytes.{bytes, pad, zeros}
use Rattle.area.specs.Contents.{Format, list_of, contents, Held, laid}
use Rattle.area.proofs.Contents.{state_sound, rule_sound, entry_sound, text_sound, expected_sound, fault_sound, contents-length}
use Rattle.section.specs.Options.{options}
use Rattle.section.specs.Request.{known_request, asked}
use Rattle.parse.specs.declared.FileCounts.{FileCounts}
use Rattle.std.specs.Prelude.{Result, Ok, Err}
use Rattle.parse.specs.declared.ParseError.{ParseError}
use Rattle.parse.specs.declared.ParseError.TheVariants.{LongFile, UnknownFlag, InvalidUtf8, AreaFull, FaultyFile}
use Rattle.parse.specs.Parse.{Caps, Outcome, caps, file, outcome, ParseAnswer, parse_accepted, Left, left, leaves, parse_call}
use Rattle.parse.specs.Answers.{outcome_of, refused, has_faults, Parses, Zeroed, Cleared}

-- an area of c bytes that holds n records is those records and zeros
laid_is : {A : Type 0} {F : Format A} {v : List ℕ} {n c : ℕ} → Held F v n → length v ≡ c → v ≡ laid F c (contents F v n)
laid_is {F = F} {v} {n} h e = h.area.is ∙ ap (λ (m : ℕ). pad m (bytes F.write (contents F v n))) e

-- the six areas have the lengths of the capacities
pub record Long (c1 c2 c3 c4 c5 c6 : ℕ) (v1 v2 v3 v4 v5 v6 : List ℕ) : Type 0 where
  pub long1 : length v1 ≡ c1
  pub long2 : length v2 ≡ c2
  pub long3 : length v3 ≡ c3
  pub long4 : length v4 ≡ c4
  pub long5 : length v5 ≡ c5
  pub long6 : length v6 ≡ c6

module _ (c1 c2 c3 c4 c5 c6 : ℕ) (o : Outcome) (v1 v2 v3 v4 v5 v6 : List ℕ) (e : Long c1 c2 c3 c4 c5 c6 v1 v2 v3 v4 v5 v6) where
  abbrev sizes : Caps
  sizes = caps c1 c2 c3 c4 c5 c6

  module _ (p : Result FileCounts ParseError) (d : Parses o v1 v2 v3 v4 v5 v6 p) where
    pub text_clean : (q : FileCounts) → p ≡ Ok q
        → left parse_accepted (q.states ∷ q.rules ∷ q.entries ∷ q.text ∷ q.expected ∷ 0 ∷ []) v1 v2 v3 v4 v5 v6 ≡ leaves sizes o
    unfolding leaves contents list_of
    text_clean q z =
        let h = d.clean q z in
        (λ i. left parse_accepted
        (sym (contents-length state_sound h.states) i ∷ sym (contents-length rule_sound h.rules) i ∷ sym (contents-length entry_sound h.entries) i
        ∷ sym (contents-length text_sound h.text) i ∷ sym (contents-length expected_sound h.expected) i ∷ 0 ∷ [])
        (laid_is h.states e.long1 i) (laid_is h.rules e.long2 i) (laid_is h.entries e.long3 i) (laid_is h.text e.long4 i)
        (laid_is h.expected e.long5 i) (laid_is h.faults e.long6 i))
        ∙ ap (leaves sizes) (sym (d.says ∙ ap (outcome_of v1 v2 v3 v4 v5 v6) z))

    pub text_faulty : (x : ParseError) → p ≡ Err x → has_faults x ≡ true → {y1 y2 y3 y4 y5 : List ℕ} → y1 ≡ zeros (length v1) → y2 ≡ zeros (length v2)
        → y3 ≡ zeros (length v3) → y4 ≡ zeros (length v4) → y5 ≡ zeros (length v5)
        → left (Err x) (zeros 6) y1 y2 y3 y4 y5 v6 ≡ leaves sizes o
    unfolding leaves
    text_faulty (FaultyFile n) z kept z1 z2 z3 z4 z5 =
        let h = d.faults n z in
        (λ i. left (Err (FaultyFile (sym (contents-length fault_sound h) i))) (zeros 6)
        ((z1 ∙ ap zeros e.long1) i) ((z2 ∙ ap zeros e.long2) i) ((z3 ∙ ap zeros e.long3) i)
        ((z4 ∙ ap zeros e.long4) i) ((z5 ∙ ap zeros e.long5) i) (laid_is h e.long6 i))
        ∙ ap (leaves sizes) (sym (d.says ∙ ap (outcome_of v1 v2 v3 v4 v5 v6) z))
    text_faulty LongFile z kept z1 z2 z3 z4 z5 = absurd (true≢false (sym kept))
    text_faulty UnknownFlag z kept z1 z2 z3 z4 z5 = absurd (true≢false (sym kept))
    text_faulty InvalidUtf8 z kept z1 z2 z3 z4 z5 = absurd (true≢false (sym kept))
    text_faulty (AreaFull name) z kept z1 z2 z3 z4 z5 = absurd (true≢false (sym kept))

-- refused by 1 to 4: the areas are zero
zeros_left : {c1 c2 c3 c4 c5 c6 : ℕ} {v1 v2 v3 v4 v5 v6 : List ℕ} (r : ParseAnswer) → Cleared c1 c2 c3 c4 c5 c6 v1 v2 v3 v4 v5 v6
    → left r (zeros 6) v1 v2 v3 v4 v5 v6 ≡ left r (zeros 6) (zeros c1) (zeros c2) (zeros c3) (zeros c4) (zeros c5) (zeros c6)
zeros_left r z = λ i. left r (zeros 6) (z.is1 i) (z.is2 i) (z.is3 i) (z.is4 i) (z.is5 i) (z.is6 i)

-- a refusal whose faults are not kept leaves nothing
refused_leaves : (k : Caps) (l6 : List ℕ) (x : ParseError) → has_faults x ≡ false
    → left (Err x) (zeros 6) (zeros k.c1) (zeros k.c2) (zeros k.c3) (zeros k.c4) (zeros k.c5) (zeros k.c6) ≡ leaves k (refused l6 x)
unfolding leaves
refused_leaves k l6 LongFile other = refl
refused_leaves k l6 UnknownFlag other = refl
refused_leaves k l6 InvalidUtf8 other = refl
refused_leaves k l6 (AreaFull name) other = refl
refused_leaves k l6 (FaultyFile n) other = absurd (true≢false other)

pub text_refused : {c1 c2 c3 c4 c5 c6 : ℕ} {o : Outcome} {w1 w2 w3 w4 w5 w6 v1 v2 v3 v4 v5 v6 : List ℕ} → Long c1 c2 c3 c4 c5 c6 w1 w2 w3 w4 w5 w6
    → (p : Result FileCounts ParseError) → Parses o w1 w2 w3 w4 w5 w6 p
    → (x : ParseError) → p ≡ Err x → has_faults x ≡ false
    → Cleared (length w1) (length w2) (length w3) (length w4) (length w5) (length w6) v1 v2 v3 v4 v5 v6
    → left (Err x) (zeros 6) v1 v2 v3 v4 v5 v6 ≡ leaves (caps c1 c2 c3 c4 c5 c6) o
text_refused {c1} {c2} {c3} {c4} {c5} {c6} {o} {w1} {w2} {w3} {w4} {w5} {w6} {v1} {v2} {v3} {v4} {v5} {v6} e p d x q other z =
    let k = caps c1 c2 c3 c4 c5 c6 in
    zeros_left (Err x) cleared ∙ refused_leaves k w6 x other ∙ ap (leaves k) (sym (d.says ∙ ap (outcome_of w1 w2 w3 w4 w5 w6) q))
  where
    cleared : Cleared c1 c2 c3 c4 c5 c6 v1 v2 v3 v4 v5 v6
    cleared = record {
      is1 = z.is1 ∙ ap zeros e.long1;
      is2 = z.is2 ∙ ap zeros e.long2;
      is3 = z.is3 ∙ ap zeros e.long3;
      is4 = z.is4 ∙ ap zeros e.long4;
      is5 = z.is5 ∙ ap zeros e.long5;
      is6 = z.is6 ∙ ap zeros e.long6;
    }

pub zeroed_by : {c1 c2 c3 c4 c5 c6 : ℕ} {v1 v2 v3 v4 v5 v6 : List ℕ} → Cleared c1 c2 c3 c4 c5 c6 v1 v2 v3 v4 v5 v6
    → Long c1 c2 c3 c4 c5 c6 v1 v2 v3 v4 v5 v6 → Zeroed v1 v2 v3 v4 v5 v6
zeroed_by z e = record {
  is1 = z.is1 ∙ ap zeros (sym e.long1);
  is2 = z.is2 ∙ ap zeros (sym e.long2);
  is3 = z.is3 ∙ ap zeros (sym e.long3);
  is4 = z.is4 ∙ ap zeros (sym e.long4);
  is5 = z.is5 ∙ ap zeros (sym e.long5);
  is6 = z.is6 ∙ ap zeros (sym e.long6);
}

-- ---- the tests

module _ (source : List ℕ) (flags : ℕ) (verdicts : List ℕ) (c1 c2 c3 c4 c5 c6 : ℕ) where
  abbrev Leaves : ParseAnswer → Type 0
  Leaves r = (v1 v2 v3 v4 v5 v6 : List ℕ) → Cleared c1 c2 c3 c4 c5 c6 v1 v2 v3 v4 v5 v6
      → left r (zeros 6) v1 v2 v3 v4 v5 v6 ≡ parse_call (asked source flags verdicts) (caps c1 c2 c3 c4 c5 c6)

  pub call_long_file : 65535 < length source → Leaves (Err LongFile)
  unfolding parse_call leaves outcome
  call_long_file h v1 v2 v3 v4 v5 v6 z = zeros_left (Err LongFile) z ∙ rw (lt-ltb 65535 (length source) h)

  module _ (within : length source ≤ 65535) where
    pub call_unknown_flag : 3 < flags → Leaves (Err UnknownFlag)
    unfolding parse_call leaves outcome
    call_unknown_flag h v1 v2 v3 v4 v5 v6 z =
        zeros_left (Err UnknownFlag) z ∙ rw (le-ltb 65535 (length source) within, lt-ltb 3 flags h)

    module _ (known : flags ≤ 3) (t : Bool) (is : t ≡ utf8 source) where
      known_asked : asked source flags verdicts ≡ known_request source (options flags) verdicts
      known_asked = λ i. record { source = source; options = options flags; unknown_flags = le-ltb 3 flags known i; verdicts = verdicts }

      pub call_invalid_utf8 : t ≡ false → Leaves (Err InvalidUtf8)
      unfolding parse_call leaves outcome
      call_invalid_utf8 h v1 v2 v3 v4 v5 v6 z =
          zeros_left (Err InvalidUtf8) z ∙ rw (le-ltb 65535 (length source) within, le-ltb 3 flags known, ← is, h)

      -- the text is parsed, with areas of as many bytes
      pub call_text : t ≡ true → {m1 m2 m3 m4 m5 m6 : ℕ} → m1 ≡ c1 → m2 ≡ c2 → m3 ≡ c3 → m4 ≡ c4 → m5 ≡ c5 → m6 ≡ c6 → {x : Left}
          → x ≡ leaves (caps m1 m2 m3 m4 m5 m6) (file (known_request source (options flags) verdicts) (caps m1 m2 m3 m4 m5 m6)) → x ≡ parse_call (asked source flags verdicts) (caps c1 c2 c3 c4 c5 c6)
      unfolding parse_call outcome
      call_text h e1 e2 e3 e4 e5 e6 q =
          q
          ∙ (λ i. leaves (caps (e1 i) (e2 i) (e3 i) (e4 i) (e5 i) (e6 i)) (file (sym known_asked i) (caps (e1 i) (e2 i) (e3 i) (e4 i) (e5 i) (e6 i))))
          ∙ rw (le-ltb 65535 (length source) within, le-ltb 3 flags known, ← is, h)
