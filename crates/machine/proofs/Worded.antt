-- Demand 3 in words: an accepted call's word is told from the others, and the values of the machine's answers have two bytes, so that the words of
-- the step calls are those of its answers and of no others.
use Rattle.std.specs.Prelude.{Ok, Err}
use mathlib.Core.Path.{◌≡◌, refl, sym, ap, ◌∙◌}
use mathlib.Core.List.{List, [], ◌∷◌, map}
use mathlib.Core.Option.{some}
use Prim.Native.Nat.{ℕ, zero, suc, ◌%◌, ◌<◌}
use native.Mathlib.Omega.{arith}
use lib.ListN.{get_elem?}
use Rattle.answers.specs.Numbers.{row_mismatch_number, done_number, stopped_number, unlinked_number, skip_number, token_number}
use Rattle.answers.specs.Words.{TwoBytes}
use Rattle.area.specs.Bytes.{AllBytes}
use Rattle.answers.proofs.Words.{two_bytes, no_values}
use Rattle.parse.specs.declared.ParseError.TheVariants as P
use Rattle.parse.specs.Parse.{ParseAnswer, parse_accepted, parse_fields, parse_word}
use Rattle.sheet_check.specs.SheetCheck.{SheetBytes}
use Rattle.link.specs.declared.LinkArea.TheVariants as Area
use Rattle.link.specs.declared.LinkError.TheVariants as L
use Rattle.name_map.specs.Map.{Entry}
use Rattle.link.specs.Link.{LinkAnswer, linked_answer, link_fields, link_word}
use Rattle.std.specs.Prelude.{Ok, Err}
use Rattle.run.specs.declared.StartError.TheVariants as Start
use Rattle.run.specs.declared.StepError.TheVariants.{BrokenSheet, TextMismatch, BrokenRun, RowMismatch}
use Rattle.run.specs.declared.Step.TheVariants.{Done, Stopped, Unlinked, Skip, Token}
use Rattle.run.specs.Run.{StartAnswer, start_accepted, StepAnswer, Running, Input, RunLeft}
use Rattle.run.specs.Run.{step_call, start_fields, start_word, view, view_fields, step_fields, step_word}
use Rattle.run.proofs.RunWords.{step_tells}
use Rattle.run_laws.specs.Calls.{calls}
use Rattle.troymantle.specs.RunWords.{step_in_words}
use Rattle.run.proofs.Limits.{limit_low}
use Rattle.machine.specs.File.{map_of}
use Rattle.machine.specs.Machine.{Given, Machine, fresh, step}
use Rattle.machine.specs.Means.{Means}
use Rattle.machine.specs.Demand.{Follows, Session, sheet_parsed, link_left_of, linked_sheet, start_left_of, given, Accepts, DemandHolds}
use Rattle.machine.specs.Words.{AcceptsInWords, FollowsInWords, calls_in_words, InWordsHolds}
use Rattle.machine.proofs.Options.{some_is, none_some, place_inside}
use Rattle.machine.proofs.Theorem.{demand}

-- ---- the words of accepted calls

parse_zero : (x : ParseAnswer) → parse_word x ≡ 0 → x ≡ parse_accepted
unfolding parse_fields
parse_zero (Ok tt) e = refl
parse_zero (Err P.LongFile) e = absurd (omega (arith, e))
parse_zero (Err P.UnknownFlag) e = absurd (omega (arith, e))
parse_zero (Err P.InvalidUtf8) e = absurd (omega (arith, e))
parse_zero (Err (P.AreaFull name)) e = absurd (omega (arith, e))
parse_zero (Err (P.FaultyFile n)) e = absurd (omega (arith, e))

link_zero : (x : LinkAnswer) → link_word x % 65536 ≡ 0 → (a : ℕ) × (b : ℕ) × (x ≡ linked_answer a b)
unfolding link_fields
link_zero (Ok x) e = (x.unmapped_count, x.unused_count, refl)
link_zero (Err L.BrokenSheet) e = absurd (omega (arith, e))
link_zero (Err L.BrokenMap) e = absurd (omega (arith, e))
link_zero (Err (L.AreaFull Area.Unmapped)) e = absurd (omega (arith, e))
link_zero (Err (L.AreaFull Area.Unused)) e = absurd (omega (arith, e))

start_zero : (x : StartAnswer) → start_word x ≡ 0 → x ≡ start_accepted
unfolding start_fields
start_zero (Ok _) e = refl
start_zero (Err Start.UnknownCaller) e = absurd (omega (arith, e))
start_zero (Err Start.StartRefused) e = absurd (omega (arith, e))
start_zero (Err Start.TextMismatch) e = absurd (omega (arith, e))

accepts : (q : Session) → AcceptsInWords q → Accepts q
accepts q h =
    let l = link_zero (link_left_of q).answer h.linked in
    record { parsed = parse_zero _ h.parsed; unmapped = l.0; unused = l.1; linked = l.2; started = start_zero _ h.started }

-- ---- ids of a map of bytes

abbrev LowIds : List Entry → Type 0
LowIds es = (j : ℕ) (e : Entry) → get_elem? es j ≡ some e → e.id < 65536

behind_six : (a b c d e f : ℕ) (l : List ℕ) → AllBytes (a ∷ b ∷ c ∷ d ∷ e ∷ f ∷ l) → AllBytes l
behind_six a b c d e f l h = record { small = λ k. h.small (suc (suc (suc (suc (suc (suc k)))))) }

ids_low : (names entries : List ℕ) → AllBytes entries → LowIds (map_of names entries)
unfolding map_of
ids_low names [] h j x q = absurd (none_some x q)
ids_low names (a ∷ []) h j x q = absurd (none_some x q)
ids_low names (a ∷ b ∷ []) h j x q = absurd (none_some x q)
ids_low names (a ∷ b ∷ c ∷ []) h j x q = absurd (none_some x q)
ids_low names (a ∷ b ∷ c ∷ d ∷ []) h j x q = absurd (none_some x q)
ids_low names (a ∷ b ∷ c ∷ d ∷ e ∷ []) h j x q = absurd (none_some x q)
ids_low names (a ∷ b ∷ c ∷ d ∷ e ∷ f ∷ l) h zero x q = omega (arith, ap (λ (k : Entry). k.id) (some_is _ x q), h.small 4, h.small 5)
ids_low names (a ∷ b ∷ c ∷ d ∷ e ∷ f ∷ l) h (suc j) x q = ids_low names l (behind_six a b c d e f l h) j x q

-- ---- the machine's answers

means_small : (g : Given) (m : Machine) (i : Input) (a : StepAnswer) (next : Machine) → g.n < 65536 → LowIds g.map → Means g m i a next
    → TwoBytes (step_fields a)
unfolding view view_fields
means_small g m i (Err BrokenSheet) next h l e = absurd e
means_small g m i (Err TextMismatch) next h l e = absurd e
means_small g m i (Err BrokenRun) next h l e = absurd e
means_small g m i (Err RowMismatch) next h l e = no_values row_mismatch_number (omega arith)
means_small g m i (Ok Done) next h l e = no_values done_number (omega arith)
means_small g m i (Ok Stopped) next h l e = no_values stopped_number (omega arith)
means_small g m i (Ok Unlinked) next h l e = no_values unlinked_number (omega arith)
means_small g m i (Ok Skip) next h l e = no_values skip_number (omega arith)
means_small g m i (Ok (Token id start bytes)) next h l (w, won, name, named, (j, x, at, same, is), from, long, _) =
    let low = (won.fitting.each won.place (place_inside g.file.rules won.place w.rule won.rule)).low in
    two_bytes token_number id start bytes (omega arith) (omega (arith, is, l j x at))
    (omega (arith, from, low, won.has, won.some_bytes, h)) (omega (arith, long, low, won.has, h))

module _ (g : Given) (s : List ℕ) (b : SheetBytes) (small : g.n < 65536) (ids : LowIds g.map) where
  in_words_follows : (is : List Input) (x : Running) (m : Machine) (held : List (List ℕ)) → Follows g s m held is (calls b x is)
      → FollowsInWords g s m held is (calls_in_words b x is)
  unfolding Follows FollowsInWords calls calls_in_words
  in_words_follows [] x m held f = tt
  in_words_follows (i ∷ is) x m held f =
      let o : RunLeft StepAnswer = step_call b x i in
      let c = f.0 in
      let fits : TwoBytes (step_fields (step g m i).answer) = means_small g m i (step g m i).answer (step g m i).machine small ids c.means in
      let same : step_word o.answer ≡ step_word (step g m i).answer = ap step_word c.answer in (
        record { word = same; fits = fits; only = λ a h e. step_tells.same a (step g m i).answer h fits (sym e ∙ same); leaves = c.leaves },
        in_words_follows is o.after (step g m i).machine (m.stack ∷ held) f.1,
      )

same_words : (b : SheetBytes) (is : List Input) (x : Running) → calls_in_words b x is ≡ map step_in_words (calls b x is)
unfolding calls calls_in_words
same_words b [] x = refl
same_words b (i ∷ is) x = let o : RunLeft StepAnswer = step_call b x i in ap (λ (os : List (RunLeft ℕ)). step_in_words o ∷ os) (same_words b is o.after)

pub in_words : InWordsHolds
unfolding InWordsHolds DemandHolds
in_words q bytes h is over =
    let d = demand q (accepts q h) is over in
    let b : SheetBytes = linked_sheet (sheet_parsed q) (link_left_of q) in
    let ids = ids_low q.names q.entries bytes in
    record {
      same = same_words b is (start_left_of q).after;
      demand = d;
      each = in_words_follows (given q) q.running.stack b (omega (arith, d.small, limit_low q.kind (given q).limit d.limited)) ids
          is (start_left_of q).after fresh [] d.each;
    }
