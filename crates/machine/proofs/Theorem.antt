-- Demand 3. An accepted parse leaves a sheet that decodes to the file's contents and passes the check, and these are what the file means; a
-- link keeps it so and gives each named rule the map's id; an accepted start leaves the machine's first run. So every call is a step of the
-- machine (`Whole`); what the calls cover and how many move is said of any sheet that passes the check (`always`).
use mathlib.Core.Path.{◌≡◌, refl, sym, ap, subst, subst⁻¹, ◌∙◌}
use mathlib.Core.List.{List, []}
use Prim.Native.Nat.{ℕ, ◌≤◌}
use native.Mathlib.Omega.{arith}
use lib.ListN.{length, length-map}
use Rattle.area.specs.declared.Rule.{Rule}
use Rattle.names.specs.Names.{name_of}
use Rattle.section.specs.Request.{Request}
use Rattle.parse.specs.Parse.{Contents, Caps, outcome, accepted}
use Rattle.sheet_check.specs.SheetCheck.{SheetBytes, name_in, decoded}
use Rattle.parsed_sheet.proofs.Accepting.{accepted_holds}
use Rattle.parsed_sheet.proofs.Decoding.{accepted_decodes, accepted_checks, answer_accepted}
use Rattle.parsed_sheet.proofs.Growing.{accepted_meaning}
use Rattle.name_map.specs.Map.{Entry, entries_of}
use Rattle.winner.specs.Winner.{Lexer}
use Rattle.characters.proofs.Decoding.{utf8_judges}
use Rattle.input_check.specs.InputCheck.{EdgeOf}
use Rattle.input_check.proofs.Edges.{edges_judged, start_edge, text_formed}
use Rattle.run.specs.Run.{StartAnswer, start_accepted, Running, limit, put_state, stack_bytes, Input, RunLeft, leaving, run_left, first_run, start_call}
use Rattle.run.proofs.Limits.{within_is}
use Rattle.run_laws.specs.Calls.{calls, EachCall}
use Rattle.run_laws.specs.Always.{SoundRun, SoundCall, AlwaysHolds}
use Rattle.run_laws.proofs.Started.{start_text, start_limited, start_long, start_left}
use Rattle.run_laws.proofs.Always.{always}
use Rattle.machine.specs.File.{File, file_state, name_at, file_in, file_by, file_of}
use Rattle.machine.specs.Machine.{Given, fresh}
use Rattle.machine.specs.Demand.{AsMachine, Follows, sheet_parsed, link_left_of, linked_sheet, start_left_of, session_file, session_map, given, AllOver, session_calls, DemandHolds}
use Rattle.machine.proofs.Laid.{stack_as, running_as}
use Rattle.machine.proofs.Stacks.{Begins, laid_bottom, laid_begins}
use Rattle.machine.proofs.Relinking.{relink}
use Rattle.machine.proofs.Mapping.{map_same}
use Rattle.machine.proofs.Only.{Distinct}
use Rattle.machine.proofs.Keeping.{SoundAs, Runs}
use Rattle.machine.proofs.Places.{place_next, place_first}
use Rattle.machine.proofs.Operations.{linked_lexer}
use Rattle.machine.proofs.Reading.{Sound}
use Rattle.machine.proofs.Whole.{Sheet, as_machine, sheet_calls, AllSound, follows}
use Rattle.machine.proofs.Characters.{whole_characters}

-- ---- the start

module _ (g : Given) (x : Running) (started : (start_call g.kind g.n g.text x).answer ≡ start_accepted) where
  long : stack_bytes g.n ≤ length x.stack
  long = start_long g.kind g.n g.text x started

  -- state 0 alone at the bottom
  first_as : put_state x.stack 0 0 ≡ stack_as x.stack fresh
  first_as = laid_bottom x.stack 0 (omega (arith, long))

  -- it leaves the machine's first run
  start_as : start_call g.kind g.n g.text x ≡ leaving start_accepted (running_as g x.stack fresh)
  start_as = start_left g.kind g.n g.text x started ∙ ap (run_left start_accepted (first_run g.kind g.n)) first_as

  start_begins : Begins fresh.stack (stack_as x.stack fresh)
  start_begins = laid_begins x.stack fresh.stack (omega (arith, long))

-- ---- the calls

-- the calls on a sheet with the linked rules follow the machine, from an accepted start on
module _ (name : Rule → List ℕ) (c : Contents) (es : List Entry) (kind limit : ℕ) (sound : Sound c) (differ : Distinct es)
    (b : SheetBytes) (sheet : Sheet name c es b) (n : ℕ) (text : List ℕ) (x : Running) (started : (start_call kind n text x).answer ≡ start_accepted)
    (is : List Input) (over : AllOver text is) where
  abbrev Followed : File → List Entry → RunLeft StartAnswer → Type 0
  Followed f map left =
      let g : Given = record { file = f; map = map; kind = kind; limit = limit; n = n; text = text } in
      AsMachine g fresh [] x.stack left.after × Follows g x.stack fresh [] is (calls b left.after is)

  followed : Followed (file_in name c) es (start_call kind n text x)
  unfolding AlwaysHolds
  followed =
      let g : Given = record { file = file_in name c; map = es; kind = kind; limit = limit; n = n; text = text } in
      let after : Running = (start_call kind n text x).after in
      let size : ℕ = length x.stack in
      let first : List ℕ = stack_as x.stack fresh in
      let states : length (decoded b).states ≡ length g.file.states =
      ap (λ (l : Lexer). length l.states) sheet.reads ∙ sym (length-map c.states file_state) in
      let w = always b sheet.checks kind n text x started is in
      let sound-first = subst (λ (k : ℕ). SoundRun k kind n size after) states w.first in
      let sound-each = subst (λ (k : ℕ). EachCall (SoundCall k kind n size) after (calls b after is)) states w.each in
      let left = start_as g x started in
      let formed = start_text kind n text x started in
      let judged = edges_judged text (text_formed n text formed) in
      let edge : EdgeOf text 0 = start_edge text ((utf8_judges text).sound (text_formed n text formed)) in
      let runs : Runs g size fresh first = record {
        sound = subst (λ (z : RunLeft StartAnswer). SoundAs g size z.after) left sound-first;
        begins = start_begins g x started;
      } in
      let each = subst (λ (z : RunLeft StartAnswer). AllSound g size z.after (calls b z.after is)) left sound-each in
      let places = place_next [] fresh.stack x.stack x.stack (place_first x.stack) in
      subst⁻¹ (Followed (file_in name c) es) left (
        as_machine g fresh [] x.stack first runs places edge,
        follows g judged differ b (sheet_calls name c es kind limit n text formed sound b sheet) x.stack is over fresh [] first runs places edge each,
      )

-- ---- the demand

-- the machine's names are the sheet's
name_same : (b : SheetBytes) → name_in b ≡ name_at b.source
unfolding name_of name_at
name_same b = refl

-- the file's meaning has these states and rules
file_is : (asked : Request) (k : Caps) (c : Contents) → outcome asked k ≡ accepted c → file_of asked ≡ file_in (name_at asked.source) c
unfolding file_of
file_is asked k c e = ap (file_by asked.source) (accepted_meaning asked k c e)

pub demand : DemandHolds
unfolding DemandHolds AlwaysHolds
demand q ok is over =
    let name : Rule → List ℕ = name_at q.request.source in
    let got = answer_accepted q.request q.capacities ok.parsed in
    let c : Contents = got.0 in
    let accepts : outcome q.request q.capacities ≡ accepted c = got.1 in
    let same : session_file q ≡ file_in name c = file_is q.request q.capacities c accepts in
    let h = accepted_holds q.request q.capacities c accepts in
    let sound : Sound c = record { exclusive = λ j l. (h.states.each.at j l).exclusive; lists = λ j l. (h.rules.each.at j l).list } in
    let passed = accepted_checks q.request q.capacities c accepts in
    let link = relink (sheet_parsed q) q.names q.entries q.area7 q.area8 ok.unmapped ok.unused ok.linked passed in
    let es : List Entry = entries_of q.names q.entries in
    let maps : es ≡ session_map q = map_same q.names q.entries link.whole in
    let b : SheetBytes = linked_sheet (sheet_parsed q) (link_left_of q) in
    let sheet : Sheet name c es b = record {
      checks = link.checks;
      reads =
          link.reads ∙ ap (linked_lexer (name_in (sheet_parsed q)) es) (accepted_decodes q.request q.capacities c accepts)
          ∙ ap (λ (f : Rule → List ℕ). linked_lexer f es c) (name_same (sheet_parsed q));
    } in
    let most : ℕ = (given q).limit in
    let Met : File → List Entry → Type 0 =
    λ f map. Followed name c es q.kind most sound link.differ b sheet q.n q.text q.running ok.started is over f map (start_left_of q) in
    let by-file : Met (file_in name c) es = followed name c es q.kind most sound link.differ b sheet q.n q.text q.running ok.started is over in
    let met : Met (session_file q) (session_map q) = subst (Met (session_file q)) maps (subst⁻¹ (λ (f : File). Met f es) same by-file) in
    let w = always b link.checks q.kind q.n q.text q.running ok.started is in
    let inside = within_is (limit q.kind) q.n (start_limited q.kind q.n q.text q.running ok.started) in
    record {
      limited = inside.0;
      small = inside.1;
      first = met.0;
      each = met.1;
      cover = w.cover;
      once = w.once;
      whole = whole_characters (given q) q.running.stack is (session_calls q is) fresh [] met.1 met.0.edge;
      few = w.few;
      few_of_kiosk = w.few_of_kiosk;
    }
