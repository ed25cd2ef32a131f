-- A record that compares as equal agrees with the parse call: what the call left is what was recorded, and it is what the definition says.
use Prim.Native.Nat.{ℕ, ◌≤◌, ◌<◌}
use mathlib.Core.Path.{◌≡◌, sym, ap, subst, ◌∙◌}
use mathlib.Core.Bool.{Bool}
use mathlib.Core.List.{List, [], ◌∷◌}
use native.Mathlib.Omega.{arith}
use lib.ListN.{length, take}
use Rattle.std.specs.Borrow.{MutBor}
use Rattle.area.proofs.Contents.{list_of_is}
use Rattle.output.specs.declared.Text.{Text}
use Rattle.output.specs.Output.{appended}
use Rattle.output.specs.Text.{Holds, Appends, text_in, room_in}
use Rattle.output.proofs.Appending.{appended_first}
use Rattle.section.specs.Request.{Request, asked}
use Rattle.parse.specs.Parse.{parse_call}
use Rattle.troymantle.specs.Words.{left_in_words, in_words}
use Rattle.recorded.specs.declared.reader.Cursor.{Cursor}
use Rattle.recorded.specs.Records.{long_at, skip_to, bytes_end, bytes_at, area_start, areas_at}
use Rattle.recorded.specs.Records.{word_at, counts_from, fourth_at, areas_end, source_at, source_end}
use Rattle.recorded.specs.Comparison.{WhenTrue, NumbersAre, LeftIs, Compares}
use Rattle.recorded.specs.Cursor.{behind, GoesTo, Reads}
use Rattle.recorded.proofs.Reading.{skip_on, skip_within, bytes_on, bytes_within}
use Rattle.recorded.proofs.Pieces.{source_behind}
use Rattle.replay.specs.Records.{buffers, sizes, recorded_caps, recorded_request, Called, lengths_at, counts_at, recorded, Agrees, record_end}

-- ---- what the call left

counts_listed : (l : List ℕ) (lengths word : ℕ) (counts : List ℕ) → length counts ≡ 6 → NumbersAre l lengths word counts
    → counts_at l lengths ≡ counts
counts_listed l lengths word counts h n = list_of_is _ 0 counts 6 (sym h) (λ k g. sym (n.counts_are.are k (omega (arith, h))))

module _ (asked : Request) (l : List ℕ) (lengths word : ℕ) (counts e1 e2 e3 e4 e5 e6 : List ℕ) where
  left_agrees : Called asked l lengths word counts e1 e2 e3 e4 e5 e6 → LeftIs l lengths word counts (e1 ∷ e2 ∷ e3 ∷ e4 ∷ e5 ∷ e6 ∷ [])
      → recorded l lengths (sizes e1 e2 e3 e4 e5 e6)
      ≡ in_words (parse_call asked (recorded_caps l lengths (sizes e1 e2 e3 e4 e5 e6)))
  unfolding area_start
  left_agrees d q =
      let listed = counts_listed l lengths word counts d.six q.numbers in
      let area = q.areas_are.are in
      sym (λ i. left_in_words (q.numbers.word_is i) (sym listed i)
      ((area 0 (omega arith)).is i) ((area 1 (omega arith)).is i) ((area 2 (omega arith)).is i)
      ((area 3 (omega arith)).is i) ((area 4 (omega arith)).is i) ((area 5 (omega arith)).is i))
      ∙ d.left_is

module _ (src : List ℕ) (p p1 p2 p3 : Cursor) (flags word : ℕ) (verdicts counts e1 e2 e3 e4 e5 e6 : List ℕ) (r : Bool) where
  pub record_compared : Reads long_at (behind 8) p p1 flags → Reads bytes_at bytes_end p1 p2 verdicts
      → Called (asked src flags verdicts) p2.answers.now p2.at word counts e1 e2 e3 e4 e5 e6
      → sizes e1 e2 e3 e4 e5 e6 ≡ buffers
      → Compares (LeftIs p2.answers.now p2.at word counts (e1 ∷ e2 ∷ e3 ∷ e4 ∷ e5 ∷ e6 ∷ [])) areas_end p2 p3 r
      → Compares (Agrees src p.answers.now p.at buffers) record_end p p3 r
  record_compared qf qv d long x =
      let l : List ℕ = p.answers.now in
      let same1 : p1.answers.now ≡ l = qf.goes.same in
      let same2 : p2.answers.now ≡ l = qv.goes.same ∙ same1 in
      let at1 : p1.at ≡ skip_to l p.at 8 = qf.goes.at_is in
      let at2 : p2.at ≡ lengths_at l p.at = qv.goes.at_is ∙ (λ i. bytes_end (same1 i) (at1 i)) in
      let same_asked : asked src flags verdicts ≡ recorded_request src l p.at =
      λ i. asked src (qf.is i) ((qv.is ∙ (λ j. bytes_at (same1 j) (at1 j))) i) in
      let left = left_agrees (asked src flags verdicts) p2.answers.now p2.at word counts e1 e2 e3 e4 e5 e6 d in
      record {
        equal = record {
          holds = λ t. record {
            is = sym (λ i. recorded (same2 i) (at2 i) (long i))
                ∙ left (x.equal.holds t)
                ∙ (λ i. in_words (parse_call (same_asked i) (recorded_caps (same2 i) (at2 i) (long i))));
          };
        };
        goes = record {
          at_is = x.goes.at_is ∙ (λ i. areas_end (same2 i) (at2 i));
          same = x.goes.same ∙ same2;
          on = omega (arith, x.goes.on, qv.goes.on, qf.goes.on);
        };
      }

-- ---- the source

-- a new text in a buffer of n bytes, and the source in it
pub source_read : (v : List ℕ) (n : ℕ) {lent : MutBor (List ℕ)} {a b : Text} {t : List ℕ} → length lent.now ≡ n
    → Holds lent a [] → Appends a b v → t ≡ text_in b → t ≡ take n v
source_read v n {lent} {a} long h p e =
    let room : room_in a ≡ n = h.area.long ∙ long in
    e ∙ p.is ∙ (λ i. appended (room i) (h.is i) v) ∙ appended_first n v

module _ (p p1 p2 : Cursor) (t : List ℕ) (n : ℕ) (r : Bool) where
  pub record_read : GoesTo source_end p p1 → t ≡ take n (source_at p.answers.now p.at)
      → Compares (Agrees t p1.answers.now p1.at buffers) record_end p1 p2 r
      → Compares (Agrees (take n (source_at p.answers.now p.at)) p.answers.now (source_end p.answers.now p.at) buffers)
      (λ l at. record_end l (source_end l at)) p p2 r
  record_read goes q x = record {
    equal = subst (λ (P : Type 0). WhenTrue P r) (λ i. Agrees (q i) (goes.same i) (goes.at_is i) buffers) x.equal;
    goes = record {
      at_is = x.goes.at_is ∙ (λ i. record_end (goes.same i) (goes.at_is i));
      same = x.goes.same ∙ goes.same;
      on = omega (arith, x.goes.on, goes.on);
    };
  }

-- ---- the next record

areas_behind : (l : List ℕ) (at : ℕ) → at ≤ length l → at ≤ fourth_at l at
areas_behind l at h =
    let behind : ℕ = bytes_end l at in
    omega (arith, bytes_on l at h, bytes_on l behind (bytes_within l at), bytes_on l (bytes_end l behind) (bytes_within l behind))

-- a record ends behind its start
pub record_behind : (l : List ℕ) (at : ℕ) → at < length l → at < record_end l (source_end l at)
record_behind l at h =
    let s = source_end l at in
    let lengths = lengths_at l s in
    let areas = areas_at l lengths in
    let read = source_behind l at h in
    let e1 = skip_on l s 8 read.1 in
    let e2 = bytes_on l (skip_to l s 8) (skip_within l s 8) in
    let e3 = skip_on l lengths 24 (bytes_within l (skip_to l s 8)) in
    let e4 = skip_on l (word_at l lengths) 4 (skip_within l lengths 24) in
    let e5 = skip_on l (counts_from l lengths) 12 (skip_within l (word_at l lengths) 4) in
    let e6 = areas_behind l areas (skip_within l (counts_from l lengths) 12) in
    let e7 = areas_behind l (fourth_at l areas) (bytes_within l (bytes_end l (bytes_end l areas))) in
    omega (arith, read.0)

pub goes_behind : (p q : Cursor) (answers : List ℕ) → p.answers.now ≡ answers → p.at < length answers
    → GoesTo (λ l at. record_end l (source_end l at)) p q → p.at < q.at
goes_behind p q answers same h goes = omega (arith, ap length same, goes.at_is, record_behind p.answers.now p.at)
