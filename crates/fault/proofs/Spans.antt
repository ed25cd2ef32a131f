-- The spans of the fault area, read back from its bytes. Each law turns what the code reads and writes into what the definitions say of the
-- list that the area holds; that numbers stay low goes along.
use mathlib.Core.Path.{◌≡◌, refl, sym, ap, subst, ◌∙◌}
use mathlib.Core.Bool.{Bool, true, false, cond, true≢false}
use mathlib.Core.List.{List, [], ◌∷◌, ◌++◌, append_assoc}
use mathlib.Core.Logic.{⊎_elim}
use mathlib.Core.Option.{none, some}
use mathlib.Core.Option as Math
use Prim.Native.Nat.{ℕ, zero, suc, ◌+◌, ◌*◌, ◌-◌, ◌≤◌, ◌<◌}
use native.Mathlib.Omega.{arith}
use borrow.Author.Rules.{rules}
use borrow.Author.Tests.{eq-eqb, eqb-false, lt-ltb, le-ltb}
use lib.Dec.{eqb}
use mir.Syntax.{w16}
use mir.Val.{Fits}
use lib.ListN.{length, take, drop, length-append, length-drop, get_or-append}
use lib.Seq.{get_or-append-add, get_or-take, get_or-drop, length-take-le}
use Rattle.std.specs.Prelude.{Option, Some, None, Result, Ok, Err}
use Rattle.characters.specs.Walk.{last, Between, Below, FindsLast}
use Rattle.characters.proofs.Asking.{Answers, finds_last}
use Rattle.characters.proofs.Walks.{last_passed}
use Rattle.characters.proofs.Tests.{le_or_lt}
use Rattle.area.specs.declared.Fault.{Fault}
use Rattle.area.specs.declared.AreaFull.{AreaFull}
use Rattle.area.specs.declared.AreaName.TheVariants.{Faults}
use Rattle.area.specs.Areas.{Pushed, room, insert_at, inserted, full}
use Rattle.area.specs.Records.{fault_bytes, fault_width, most_others, nth_fault}
use Rattle.area.specs.Contents.{append, contents, fault_format, Grows, left_by}
use Rattle.area.proofs.Rooms.{room_few, room_fits, room_fewer, room_later}
use Rattle.area.proofs.Areas.{full_says, next_says}
use Rattle.area.proofs.Contents.{contents-length, fault_sound, held_insert, held_push}
use Rattle.fault.specs.Faults.{fault, Numbered, HeldFaults, GrowsFaults, next_number, add_fault, find_fault, behind, fault_end, add_span, add_pair, repeat_at, add_repeat}

abbrev spans : List ℕ → ℕ → List Fault
spans l n = contents fault_format l n

module _ {l : List ℕ} {n : ℕ} (h : HeldFaults l n) where
  pub span_count : length (spans l n) ≡ n
  span_count = contents-length fault_sound h.held

-- ---- the next number

module _ (fs : List Fault) (few : length fs ≤ 65535) (h : Numbered fs) (x : Fault) (is : x ≡ nth_fault fs (length fs - 1))
    (some : length fs ≡ 0 → ⊥) where
  pub number_fits : Fits w16 (x.number + 1)
  number_fits = record { fits = omega (arith, ap (λ (y : Fault). y.number) is, h.low (length fs - 1) (omega arith)) }

-- ---- numbers stay low

abbrev LowFrom : ℕ → List Fault → Type 0
LowFrom m fs = (k : ℕ) → k < length fs → (nth_fault fs k).number ≤ m + k

numbered_join : (fs gs : List Fault) → Numbered fs → LowFrom (length fs) gs → Numbered (fs ++ gs)
numbered_join fs gs h low = record {
  low = λ j g.
      ⊎_elim (λ b. subst (λ (m : ℕ). (nth_fault (fs ++ gs) m).number ≤ m) (place j b) (behind_fs (j - length fs) (omega (arith, length-append fs gs))))
      (λ b. rw (get_or-append fs gs _ j b) (h.low j b))
      (le_or_lt (length fs) j);
}
  where
    place : (j : ℕ) → length fs ≤ j → length fs + (j - length fs) ≡ j
    place j b = omega arith

    behind_fs : (k : ℕ) → k < length gs → (nth_fault (fs ++ gs) (length fs + k)).number ≤ length fs + k
    behind_fs k g = rw (get_or-append-add fs gs k _) (low k g)

numbered-take : (p : ℕ) (fs : List Fault) → p ≤ length fs → Numbered fs → Numbered (take p fs)
numbered-take p fs g h = record {
  low = λ j b.
      let q : j < p = omega (arith, length-take-le p fs g) in
      rw (get_or-take p fs j _ q) (h.low j (omega arith));
}

low-drop : (p : ℕ) (fs : List Fault) → Numbered fs → LowFrom p (drop p fs)
low-drop p fs h k b = rw (get_or-drop p fs k _) (h.low (p + k) (omega (arith, length-drop p fs)))

numbered_insert : (p : ℕ) (x : Fault) (fs : List Fault) → p ≤ length fs → x.number ≤ p → Numbered fs → Numbered (insert_at p x fs)
unfolding insert_at
numbered_insert p x fs g l h =
    numbered_join (take p fs) (x ∷ drop p fs) (numbered-take p fs g h) (rw (length-take-le p fs g) low)
  where
    low : LowFrom p (x ∷ drop p fs)
    low zero b = omega arith
    low (suc k) b = omega (arith, low-drop p fs h k (omega arith))

-- the next number is low, so that it and the records with it can be appended
next_low : (fs : List Fault) → Numbered fs → next_number fs ≤ length fs
unfolding next_number
next_low fs h = go (eqb (length fs) 0) refl
  where
    go : (t : Bool) → eqb (length fs) 0 ≡ t → cond t 0 ((nth_fault fs (length fs - 1)).number + 1) ≤ length fs
    go true e = omega arith
    go false e =
        let z : length fs ≡ 0 → ⊥ = eqb-false (length fs) 0 e in
        omega (arith, h.low (length fs - 1) (omega arith))

-- ---- faults appended

was_appended : (cap : ℕ) (fs gs ys : List Fault) → append fault_format cap gs fs ≡ some ys → fs ++ gs ≡ ys
unfolding append
was_appended cap fs gs ys = go (room fault_width most_others cap (length fs) (length gs))
  where
    go : (t : Bool) → cond t (some (fs ++ gs)) none ≡ some ys → fs ++ gs ≡ ys
    go true e = cc
    go false e = cc

-- a step that does the same to the spans held
grows_as : {f g : List Fault → Math.Option (List Fault)} {l : List ℕ} {n : ℕ} {r : Result ℕ AreaFull} {e : List ℕ} → f (spans l n) ≡ g (spans l n)
    → GrowsFaults g l n r e → GrowsFaults f l n r e
grows_as q d = record { says = q ∙ d.says; held = d.held; names = d.names; long = d.long }

module _ {l : List ℕ} {n : ℕ} (h : HeldFaults l n) where
  -- records with low numbers
  low_appended : (gs : List Fault) {r : Result ℕ AreaFull} {e : List ℕ} → LowFrom n gs → Grows fault_format (append fault_format (length l) gs) l n r e
      → GrowsFaults (append fault_format (length l) gs) l n r e
  low_appended gs {r} {e} low g = record {
    says = g.says;
    held = λ m q. record { held = g.held m q; numbered = numbers m q };
    names = g.names;
    long = g.long;
  }
    where
      numbers : (m : ℕ) → r ≡ Ok m → Numbered (spans e m)
      numbers m q =
          subst Numbered (was_appended (length l) (spans l n) gs (spans e m) (g.says ∙ ap (left_by fault_format e) q))
          (numbered_join (spans l n) gs h.numbered (rw (span_count h) low))

  module _ (number kind : ℕ) (is : number ≡ next_number (spans l n)) where
    number_low : number ≤ n
    number_low = omega (arith, is, span_count h, next_low (spans l n) h.numbered)

    pub fault_added : (a e : ℕ) (r : Result ℕ AreaFull) (x : List ℕ) → Pushed Faults fault_width most_others 1 (fault_bytes (fault number kind a e)) l n r x
        → GrowsFaults (add_fault (length l) kind a e) l n r x
    unfolding add_fault
    fault_added a e r x p =
        grows_as (rw (← is))
        (low_appended (fault number kind a e ∷ []) low (held_push fault_sound h.held (fault number kind a e) p))
      where
        low : LowFrom n (fault number kind a e ∷ [])
        low zero b = omega (arith, number_low)
        low (suc k) b = absurd (omega arith)

-- ---- the end of a fault

abbrev numbers : List Fault → ℕ → ℕ → Bool
numbers fs number j = eqb (nth_fault fs j).number number

module _ (fs : List Fault) (number : ℕ) where
  ends_behind_last : (f : Option ℕ) → f ≡ last (numbers fs number) 0 (length fs) → behind f ≡ fault_end fs number
  unfolding fault_end
  ends_behind_last f q = ap behind q

  -- the last span that a search from the end finds, by a closure that answers whether a span has the number
  module _ {answers : ℕ → Bool → Type 0} {n : ℕ} (all : n ≡ length fs) where
    pub end_as : {o : Option ℕ} (f : Option ℕ) → o ≡ f → FindsLast answers 0 n o → Answers answers (numbers fs number) 0 n
        → Between 0 (length fs) (fault_end fs number) (behind f)
    end_as None q d is =
        record {
          is = ends_behind_last None (sym q ∙ finds_last answers (numbers fs number) 0 n _ is d ∙ ap (last (numbers fs number) 0) all);
          from = omega arith;
          to = omega arith;
        }
    end_as (Some k) q d is =
        record {
          is = ends_behind_last (Some k) (sym q ∙ finds_last answers (numbers fs number) 0 n _ is d ∙ ap (last (numbers fs number) 0) all);
          from = omega arith;
          to = omega (arith, all, (subst (FindsLast answers 0 n) q d).is.to);
        }

-- ---- a span more

module _ {l : List ℕ} {n : ℕ} (h : HeldFaults l n) (t : Bool) (m : ℕ) (tested : t ≡ room fault_width most_others (length l) n m) where
  -- the test for room on the count is one on the list
  room_of : {b : Bool} → t ≡ b → room fault_width most_others (length l) (length (spans l n)) m ≡ b
  room_of q = ap (λ (k : ℕ). room fault_width most_others (length l) k m) (span_count h) ∙ sym tested ∙ q

unchanged : {f : List Fault → Math.Option (List Fault)} {l : List ℕ} {n : ℕ} → f (spans l n) ≡ none → GrowsFaults f l n (Err (full Faults)) l
unchanged q = record { says = q; held = λ m z. absurd (never z); names = λ x z. cc; long = refl }
  where
    never : {m : ℕ} → Err (full Faults) ≡ Ok m → ⊥
    never z =
        let q : ◌≡◌ {A = ℕ} 0 1 = cc in
        omega arith

never_full : {m : ℕ} {x : AreaFull} → ◌≡◌ {A = Result ℕ AreaFull} (Ok m) (Err x) → ⊥
never_full z =
    let q : ◌≡◌ {A = ℕ} 0 1 = cc in
    omega arith

same_count : {k m : ℕ} → ◌≡◌ {A = Result ℕ AreaFull} (Ok k) (Ok m) → k ≡ m
same_count z = cc

module _ {l : List ℕ} {n : ℕ} (h : HeldFaults l n) (t : Bool) (tested : t ≡ room fault_width most_others (length l) n 1) (j a e : ℕ) (g : j < n) where
  pub span_refused : t ≡ false → GrowsFaults (add_span (length l) j a e) l n (Err (full Faults)) l
  unfolding add_span
  span_refused q = unchanged (rw (room_of h t 1 tested q))

  module _ (fs : List Fault) (made : fs ≡ spans l n) (x : Fault) (is : x ≡ nth_fault fs j) where
    the_fault : nth_fault (spans l n) j ≡ x
    the_fault = ap (λ (ys : List Fault). nth_fault ys j) (sym made) ∙ sym is

    -- the span is inserted behind the span j, whose number is low
    ends_behind : x.number ≤ fault_end (spans l n) x.number
    unfolding fault_end
    ends_behind =
        let low : (nth_fault (spans l n) j).number ≤ j = h.numbered.low j (rw (span_count h) g) in
        let found = last_passed (numbers (spans l n) x.number) 0 j (length (spans l n)) (omega arith) (rw (span_count h) g) (eq-eqb _ _ (ap (λ (y : Fault). y.number) the_fault)) in
        rw found.is (omega (arith, found.from, low, ap (λ (y : Fault). y.number) the_fault))

    pub span_inserted : (p : ℕ) (v : List ℕ) → t ≡ true → Between 0 (length fs) (fault_end fs x.number) p
        → v ≡ inserted fault_width p n (fault_bytes (fault x.number x.kind a e)) l → GrowsFaults (add_span (length l) j a e) l n (Ok (n + 1)) v
    unfolding add_span
    span_inserted p v q found is-v =
        let r = room_of h t 1 tested q in
        let more = fault x.number x.kind a e in
        let b : Between 0 n (fault_end (spans l n) x.number) p =
        record {
          is = found.is ∙ ap (λ (ys : List Fault). fault_end ys x.number) made;
          from = found.from;
          to = omega (arith, found.to, ap length made, span_count h);
        } in
        let made = held_insert fault_sound h.held p more v b.to r is-v in
        let low : x.number ≤ p = omega (arith, b.is, ends_behind) in
        record {
          says = rw (r, the_fault, ← b.is) (ap some (sym made.0));
          held = λ m z. subst (HeldFaults v) (same_count z) (record {
            held = made.1;
            numbered = subst Numbered (sym made.0) (numbered_insert p more (spans l n) (rw (span_count h) b.to) low h.numbered);
          });
          names = λ x z. absurd (never_full z);
          long = made.2;
        }

pub room_count : (l : List ℕ) (n : ℕ) (t : Bool) → t ≡ room fault_width most_others (length l) n 1 → t ≡ true → Fits w16 (n + 1)
room_count l n t e q = record { fits = omega (arith, room_few fault_width most_others (length l) n 1 (sym e ∙ q)) }

pub room_bytes : (l : List ℕ) (n : ℕ) (t : Bool) → t ≡ room fault_width most_others (length l) n 1 → t ≡ true → n * fault_width + fault_width ≤ length l
room_bytes l n t e q = omega (arith, room_fits fault_width most_others (length l) n 1 (sym e ∙ q))

pub ruleset inserting = (rules, room_count, room_bytes, span_refused)

-- ---- a fault of two spans

-- where there is room for two, the second is appended behind the first
append_two : (cap : ℕ) (x y : Fault) (fs : List Fault) → room fault_width most_others cap (length fs) 2 ≡ true
    → append fault_format cap (x ∷ y ∷ []) fs ≡ append fault_format cap (y ∷ []) (fs ++ (x ∷ []))
unfolding append
append_two cap x y fs t =
    let later : room fault_width most_others cap (length (fs ++ (x ∷ []))) 1 ≡ true =
    ap (λ (k : ℕ). room fault_width most_others cap k 1) (length-append fs (x ∷ [])) ∙ room_later fault_width most_others cap (length fs) 1 1 ∙ t in
    rw (t, later, append_assoc fs (x ∷ []) (y ∷ []))

module _ {l : List ℕ} {n : ℕ} (h : HeldFaults l n) (t : Bool) (tested : t ≡ room fault_width most_others (length l) n 2) (kind c d a e : ℕ) where
  pub pair_refused : t ≡ false → GrowsFaults (add_pair (length l) kind c d a e) l n (Err (full Faults)) l
  unfolding add_pair append
  pair_refused q = unchanged (rw (room_of h t 2 tested q))

  module _ (q : t ≡ true) (number : ℕ) (is : number ≡ next_number (spans l n)) (r : Result ℕ AreaFull) (v : List ℕ) (pushed : Pushed Faults fault_width most_others 1 (fault_bytes (fault number kind c d)) l n r v) where
    -- there was room for both, so the first fits
    pub pair_fits : {x : AreaFull} → r ≡ Err x → GrowsFaults (add_pair (length l) kind c d a e) l n (Err x) v
    pair_fits z =
        absurd (true≢false (sym (room_fewer fault_width most_others (length l) n 2 1 (omega arith) (sym tested ∙ q)) ∙ (full_says pushed z).0))

    module _ (m : ℕ) (z : r ≡ Ok m) where
      first_pushed : GrowsFaults (append fault_format (length l) (fault number kind c d ∷ [])) l n r v
      first_pushed = low_appended h (fault number kind c d ∷ []) low (held_push fault_sound h.held (fault number kind c d) pushed)
        where
          low : LowFrom n (fault number kind c d ∷ [])
          low zero b = omega (arith, number_low h number kind is)
          low (suc k) b = absurd (omega arith)

      held_first : HeldFaults v m
      held_first = first_pushed.held m z

      spans_first : spans l n ++ (fault number kind c d ∷ []) ≡ spans v m
      spans_first = was_appended (length l) (spans l n) (fault number kind c d ∷ []) (spans v m) (first_pushed.says ∙ ap (left_by fault_format v) z)

      pub pair_added : (s : Result ℕ AreaFull) (w : List ℕ) → Pushed Faults fault_width most_others 1 (fault_bytes (fault number kind a e)) v m s w
          → GrowsFaults (add_pair (length l) kind c d a e) l n s w
      unfolding add_pair
      pair_added s w p =
          let second = low_appended held_first (fault number kind a e ∷ []) low (held_push fault_sound held_first.held (fault number kind a e) p) in
          record {
            says = rw (← is, append_two (length l) (fault number kind c d) (fault number kind a e) (spans l n) (room_of h t 2 tested q), spans_first, ← first_pushed.long) second.says;
            held = second.held;
            names = second.names;
            long = second.long ∙ first_pushed.long;
          }
        where
          grown : m ≡ n + 1
          grown = (next_says pushed z).1

          low : LowFrom m (fault number kind a e ∷ [])
          low zero b = omega (arith, number_low h number kind is, grown)
          low (suc k) b = absurd (omega arith)

-- ---- a name repeated

module _ {l : List ℕ} {n : ℕ} (h : HeldFaults l n) (kind c d a e : ℕ) (fs : List Fault) (made : fs ≡ spans l n) {o : Option ℕ}
    (found : Below (length fs) (find_fault fs kind c d) o) where
  found_below : (is : Option ℕ) → o ≡ is → Below n (find_fault (spans l n) kind c d) is
  found_below is q =
      subst (Below n (find_fault (spans l n) kind c d)) q
      (subst (λ (m : ℕ). Below m (find_fault (spans l n) kind c d) o) (span_count h)
      (subst (λ (ys : List Fault). Below (length ys) (find_fault ys kind c d) o) made found))

  pub repeat_within : {j : ℕ} → o ≡ Some j → j < n
  repeat_within {j} q = (found_below (Some j) q).0

  pub repeat_again : {j : ℕ} {r : Result ℕ AreaFull} {v : List ℕ} → o ≡ Some j
      → GrowsFaults (add_span (length l) j a e) l n r v → GrowsFaults (add_repeat (length l) kind c d a e) l n r v
  unfolding add_repeat repeat_at
  repeat_again {j} q p =
      let b = found_below (Some j) q in
      grows_as (rw (← b.1, lt-ltb j (length (spans l n)) (rw (span_count h) b.0))) p

  pub repeat_first : {r : Result ℕ AreaFull} {v : List ℕ} → o ≡ None
      → GrowsFaults (add_pair (length l) kind c d a e) l n r v → GrowsFaults (add_repeat (length l) kind c d a e) l n r v
  unfolding add_repeat repeat_at
  repeat_first q p =
      let b = found_below None q in
      grows_as (rw (← b, le-ltb n (length (spans l n)) (rw (span_count h) (omega arith)))) p
