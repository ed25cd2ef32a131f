-- The hypotheses of demand 3 can be met, and its machine does something: a small file with pushes, pops below the bottom, a replace, skips, an entry
-- with characters of 2, 3 and 4 bytes, and rows in between that are refused, for cutting a character or for being too long, computed, of a seller and
-- of a kiosk.
use mathlib.Core.Path.{◌≡◌, refl, ap, ◌∙◌}
use mathlib.Core.Bool.{true}
use mathlib.Core.List.{List, [], ◌∷◌, map}
use mathlib.Core.Option.{some}
use Prim.Native.Nat.{ℕ, zero, suc, ◌<◌, ◌≤◌}
use native.Mathlib.Omega.{arith}
use borrow.Author.Tests.{ltb-true}
use lib.ListN.{get_or, get_elem?, replicate}
use Rattle.std.proofs.lemmas.Bool.{and_parts}
use Rattle.area.specs.Bytes.{AllBytes}
use Rattle.section.specs.Request.{asked}
use Rattle.parse.specs.Parse.{Caps, caps}
use Rattle.area.specs.Lists.{all}
use Rattle.parsed_sheet.specs.Accepted.{is_byte}
use Rattle.std.specs.Prelude.{Ok, Err}
use Rattle.run.specs.declared.StepError.TheVariants.{RowMismatch}
use Rattle.run.specs.declared.Step.TheVariants.{Done, Stopped, Skip, Token}
use Rattle.run.specs.declared.Run.{Run}
use Rattle.run.specs.Run.{seller, kiosk, limit, running, start_accepted, start_word, StepAnswer, Input, input}
use Rattle.machine.specs.Computing.{computing}
use Rattle.machine.specs.File.{FileRule}
use Rattle.machine.specs.Machine.{Given, Machine, fresh, step}
use Rattle.machine.specs.Means.{EntryOf}
use Rattle.machine.specs.Demand.{Demand, Session, start_left_of, session_file, session_map, given, MapHolds, Accepts, session_calls, AllOver, DemandHolds}
use Rattle.machine.proofs.Options.{some_is, none_some}
use Rattle.machine.specs.Words.{AcceptsInWords, InWords, InWordsHolds}
use Rattle.machine.proofs.Theorem.{demand}
use Rattle.machine.proofs.Worded.{in_words}

-- `%x S⏎%%⏎a 'A'⏎b <+S>;⏎<S>c <-S>'C'⏎<S>d <S>;⏎e <-S>'E'⏎`
abbrev pub lex_file : List ℕ
lex_file =
    0x25 ∷ 0x78 ∷ 0x20 ∷ 0x53 ∷ 0x0a
    ∷ 0x25 ∷ 0x25 ∷ 0x0a
    ∷ 0x61 ∷ 0x20 ∷ 0x27 ∷ 0x41 ∷ 0x27 ∷ 0x0a
    ∷ 0x62 ∷ 0x20 ∷ 0x3c ∷ 0x2b ∷ 0x53 ∷ 0x3e ∷ 0x3b ∷ 0x0a
    ∷ 0x3c ∷ 0x53 ∷ 0x3e ∷ 0x63 ∷ 0x20 ∷ 0x3c ∷ 0x2d ∷ 0x53 ∷ 0x3e ∷ 0x27 ∷ 0x43 ∷ 0x27 ∷ 0x0a
    ∷ 0x3c ∷ 0x53 ∷ 0x3e ∷ 0x64 ∷ 0x20 ∷ 0x3c ∷ 0x53 ∷ 0x3e ∷ 0x3b ∷ 0x0a
    ∷ 0x65 ∷ 0x20 ∷ 0x3c ∷ 0x2d ∷ 0x53 ∷ 0x3e ∷ 0x27 ∷ 0x45 ∷ 0x27 ∷ 0x0a
    ∷ []

abbrev pub capacities : Caps
capacities = caps 12 140 4 0 0 0

-- A is 300, C is 301, E is 302
abbrev pub names_of_map : List ℕ
names_of_map = 0x41 ∷ 0x43 ∷ 0x45 ∷ []

abbrev pub entries_of_map : List ℕ
entries_of_map = 0 ∷ 0 ∷ 1 ∷ 0 ∷ 44 ∷ 1 ∷ 1 ∷ 0 ∷ 1 ∷ 0 ∷ 45 ∷ 1 ∷ 2 ∷ 0 ∷ 1 ∷ 0 ∷ 46 ∷ 1 ∷ []

-- `éb€c😀ae`: its edges are 0, 2, 3, 6, 7, 11, 12 and 13
abbrev pub entry_text : List ℕ
entry_text =
    0xc3 ∷ 0xa9
    ∷ 0x62
    ∷ 0xe2 ∷ 0x82 ∷ 0xac
    ∷ 0x63
    ∷ 0xf0 ∷ 0x9f ∷ 0x98 ∷ 0x80
    ∷ 0x61
    ∷ 0x65
    ∷ []

abbrev pub row : ℕ → ℕ → ℕ → ℕ → ℕ → List ℕ
row a b c d e = a ∷ 0 ∷ b ∷ 0 ∷ c ∷ 0 ∷ d ∷ 0 ∷ e ∷ 0 ∷ []

-- four are refused: the winner of the first cuts `é`, and in the second a rule that is not live does; the fifth is too long; and in the eighth a live
-- rule that would not win cuts `😀`
abbrev pub rows : List (List ℕ)
rows =
    row 1 0 0 0 0
    ∷ row 2 0 1 0 0
    ∷ row 2 2 0 0 0
    ∷ row 0 1 0 0 0
    ∷ row 11 0 0 3 0
    ∷ row 10 0 0 3 0
    ∷ row 1 5 1 0 0
    ∷ row 0 2 0 0 4
    ∷ row 0 0 0 0 4
    ∷ row 1 1 0 0 1
    ∷ row 0 0 1 1 0
    ∷ row 0 0 0 0 1
    ∷ []
    ∷ []

-- each given with the text
abbrev pub entry_rows : List Input
entry_rows = map (input entry_text) rows

-- the file and the map, and the start of that entry of 13 bytes by a caller of that kind, over a stack of 28 bytes 7
abbrev pub session : ℕ → Run → Session
session kind r = record {
  request = asked lex_file 0 [];
  capacities = capacities;
  names = names_of_map;
  entries = entries_of_map;
  area7 = [];
  area8 = [];
  kind = kind;
  n = 13;
  text = entry_text;
  running = running r (replicate 28 7);
}

-- the machine's answers
unfoldable pub answers : Given → Machine → List Input → List StepAnswer
answers g m [] = []
answers g m (i ∷ is) = (step g m i).answer ∷ answers g (step g m i).machine is

-- ---- by computing

-- the map holds the name of each named rule
pub met_names : (kind : ℕ) (r : Run) → MapHolds (session_file (session kind r)) (session_map (session kind r))
unfolding computing
met_names kind r = record { holds = by }
  where
    by : (k : ℕ) (x : FileRule) (name : List ℕ) → get_elem? (session_file (session kind r)).rules k ≡ some x → x.name ≡ some name
        → (id : ℕ) × EntryOf (session_map (session kind r)) name id
    by zero x name e q = (300, (0, _, refl, some_is _ name (ap (λ (y : FileRule). y.name) (some_is _ x e) ∙ q), refl))
    by (suc zero) x name e q = absurd (none_some name (ap (λ (y : FileRule). y.name) (some_is _ x e) ∙ q))
    by (suc (suc zero)) x name e q = (301, (1, _, refl, some_is _ name (ap (λ (y : FileRule). y.name) (some_is _ x e) ∙ q), refl))
    by (suc (suc (suc zero))) x name e q = absurd (none_some name (ap (λ (y : FileRule). y.name) (some_is _ x e) ∙ q))
    by (suc (suc (suc (suc zero)))) x name e q = (302, (2, _, refl, some_is _ name (ap (λ (y : FileRule). y.name) (some_is _ x e) ∙ q), refl))
    by (suc (suc (suc (suc (suc k))))) x name e q = absurd (none_some x e)

-- the start is accepted of a seller and of a kiosk
met_start : (kind : ℕ) → kind ≤ kiosk → (r : Run) → (start_left_of (session kind r)).answer ≡ start_accepted
unfolding computing
met_start zero h r = refl
met_start (suc zero) h r = refl
met_start (suc (suc kind)) h r = absurd (omega (arith, h))

-- and so are the file and the link
pub met : (kind : ℕ) → kind ≤ kiosk → (r : Run) → Accepts (session kind r)
unfolding computing
met kind h r = record { parsed = refl; unmapped = 0; unused = 0; linked = refl; started = met_start kind h r }

-- these are the answers to both
pub met_answers : (kind : ℕ) (r : Run) → answers (given (session kind r)) fresh entry_rows
    ≡ Err RowMismatch ∷ Err RowMismatch ∷ Ok (Token 300 0 2) ∷ Ok Skip ∷ Err RowMismatch ∷ Ok Skip ∷ Ok (Token 301 6 1) ∷ Err RowMismatch
    ∷ Ok (Token 302 7 4) ∷ Ok (Token 300 11 1) ∷ Ok Stopped ∷ Ok (Token 302 12 1) ∷ Ok Done ∷ []
unfolding computing answers
met_answers kind r = refl

all_over : (text : List ℕ) (ls : List (List ℕ)) → AllOver text (map (input text) ls)
unfolding AllOver
all_over text [] = tt
all_over text (l ∷ ls) = (refl, all_over text ls)

-- demand 3, of the calls with these rows
abbrev DemandMet : Session → Type 0
DemandMet q = Demand (given q) q.running.stack (start_left_of q) entry_rows (session_calls q entry_rows)

-- so it holds, of either kind
pub met_demand : (kind : ℕ) → kind ≤ kiosk → (r : Run) → DemandMet (session kind r)
unfolding DemandHolds
met_demand kind h r = demand (session kind r) (met kind h r) entry_rows (all_over entry_text rows)

-- of a seller, whose limit is 4,096, and of a kiosk, whose limit is 512
pub met_by_seller : (r : Run) → ((given (session seller r)).limit ≡ 4096) × DemandMet (session seller r)
unfolding limit
met_by_seller r = (refl, met_demand seller (omega arith) r)

pub met_by_kiosk : (r : Run) → ((given (session kiosk r)).limit ≡ 512) × DemandMet (session kiosk r)
unfolding limit
met_by_kiosk r = (refl, met_demand kiosk (omega arith) r)

-- ---- the same in words

all_small : (l : List ℕ) (k : ℕ) → all is_byte l ≡ true → get_or l k 0 < 256
unfolding all
all_small [] k e = omega arith
all_small (x ∷ l) zero e = ltb-true x 256 (and_parts (is_byte x) (all is_byte l) e).0
all_small (x ∷ l) (suc k) e = all_small l k (and_parts (is_byte x) (all is_byte l) e).1

entries_are_bytes : AllBytes entries_of_map
unfolding all
entries_are_bytes = record { small = λ k. all_small entries_of_map k refl }

met_words : (kind : ℕ) → kind ≤ kiosk → (r : Run) → AcceptsInWords (session kind r)
unfolding computing
met_words kind h r = record { parsed = refl; linked = refl; started = ap start_word (met_start kind h r) }

pub met_in_words : (kind : ℕ) → kind ≤ kiosk → (r : Run) → InWords (session kind r) entry_rows
unfolding InWordsHolds
met_in_words kind h r = in_words (session kind r) entries_are_bytes (met_words kind h r) entry_rows (all_over entry_text rows)
