-- A good run by its numbers and ids, and what a rule's operation leaves of one: the numbers but the depth, a stack of as many bytes, at most one id
-- more, and no id that is not declared.
use mathlib.Core.Path.{◌≡◌, refl, sym, ap, ◌∙◌}
use mathlib.Core.Bool.{Bool, true}
use mathlib.Core.List.{List}
use mathlib.Core.Logic.{⊎_elim}
use Prim.Native.Nat.{ℕ, zero, suc, ◌+◌, ◌*◌, ◌-◌, ◌≤◌, ◌<◌}
use native.Mathlib.Numerals.{add-one}
use native.Mathlib.Omega.{arith}
use borrow.Author.Tests.{le-leb, lt-ltb, ltb-true, eqb-false}
use lib.Dec.{eqb}
use lib.ListN.{length}
use Rattle.std.proofs.lemmas.Bool.{cond_both, and_parts}
use Rattle.characters.proofs.Tests.{le_or_lt}
use Rattle.area.specs.declared.Rule.{Rule}
use Rattle.area.specs.Lists.{all}
use Rattle.area.specs.Records.{entry_at, entry_width}
use Rattle.area.specs.Contents.{Format, contents, entry_format}
use Rattle.sheet_check.specs.SheetCheck.{declared}
use Rattle.area.proofs.Contents.{contents_count, contents_read}
use Rattle.area.proofs.All.{all_none, all_next, all-at}
use Rattle.run.specs.Run.{Running, running, moves_of, stack_bytes, put_state, good_numbers, good_run, with_depth, popped, operated}
use Rattle.run.proofs.Fitting.{GoodNumbers, run_is}
use Rattle.run_laws.proofs.Stacks.{put_length, put_same, put_other}

-- ---- a good run

-- the records of an area pass a test where each does
contents_pass : {A : Type 0} (F : Format A) (test : A → Bool) (l : List ℕ) (n : ℕ) → ((k : ℕ) → k < n → test (F.read l k) ≡ true)
    → all test (contents F l n) ≡ true
contents_pass F test l zero h = sym (all_none F test l)
contents_pass F test l (suc n) h =
    ap (λ (m : ℕ). all test (contents F l m)) (sym (add-one n))
    ∙ sym (all_next F test l n true true (F.read l n) (sym (contents_pass F test l n (λ k g. h k (omega arith)))) refl (sym (h n (omega arith))))

-- each id in use is declared
abbrev pub Declared : ℕ → Running → Type 0
Declared states x = (k : ℕ) → k < x.run.depth → entry_at x.stack k < states

module _ (states : ℕ) (x : Running) where
  pub ids_declared : good_run states x ≡ true → Declared states x
  unfolding good_run
  ids_declared good k h =
      let d : ℕ = x.run.depth in
      let ids : List ℕ = contents entry_format x.stack d in
      let pass : all (declared states) ids ≡ true = (and_parts (good_numbers x) (all (declared states) ids) good).1 in
      let inside : k < length ids = omega (arith, contents_count entry_format x.stack d, h) in
      ltb-true (entry_at x.stack k) states
      (ap (declared states) (sym (contents_read entry_format x.stack d k h)) ∙ all-at (declared states) ids 0 k pass inside)

  pub run_good : GoodNumbers x.run (length x.stack) → Declared states x → good_run states x ≡ true
  unfolding good_run good_numbers
  run_good g ids =
      let r = x.run in
      let inside = le-leb r.position r.n g.inside in
      let some_depth = le-leb 1 r.depth g.some_depth in
      let low_depth = le-leb r.depth (r.position + 1) g.low_depth in
      let few_moves = le-leb (moves_of r) r.position g.few_moves in
      let long = le-leb (stack_bytes r.n) (length x.stack) g.long in
      rw (g.limited, inside, some_depth, low_depth, few_moves, long)
      (contents_pass entry_format (declared states) x.stack r.depth (λ k h. lt-ltb (entry_at x.stack k) states (ids k h)))

-- ---- an operation

pub record Operated (states : ℕ) (x o : Running) : Type 0 where
  pub same_kind : o.run.kind ≡ x.run.kind
  pub same_n : o.run.n ≡ x.run.n
  pub same_position : o.run.position ≡ x.run.position
  pub same_moves : moves_of o.run ≡ moves_of x.run
  pub some_depth : 1 ≤ o.run.depth
  pub low_depth : o.run.depth ≤ x.run.depth + 1
  pub same_bytes : length o.stack ≡ length x.stack
  pub ids : Declared states o

-- there is room for one id more
module _ (states : ℕ) (x : Running) (good : good_run states x ≡ true) (room : x.run.depth * entry_width + entry_width ≤ length x.stack) where
  -- one id alone
  alone : (id : ℕ) → id < states → Operated states x (running (with_depth x.run 1) (put_state x.stack 0 id))
  alone id h = record {
    same_kind = refl;
    same_n = refl;
    same_position = refl;
    same_moves = refl;
    some_depth = omega arith;
    low_depth = omega arith;
    same_bytes = put_length x.stack 0 id;
    ids = λ k l.
        let z : k ≡ 0 = omega arith in
        omega (arith, h, ap (entry_at (put_state x.stack 0 id)) z, put_same x.stack 0 id (omega (arith, room)));
  }

  -- one id more
  more : (id : ℕ) → id < states → Operated states x (running (with_depth x.run (x.run.depth + 1)) (put_state x.stack x.run.depth id))
  more id h = record {
    same_kind = refl;
    same_n = refl;
    same_position = refl;
    same_moves = refl;
    some_depth = omega arith;
    low_depth = omega arith;
    same_bytes = put_length x.stack x.run.depth id;
    ids = λ k l. ⊎_elim
        (λ q.
        let z : k ≡ x.run.depth = omega arith in
        omega (arith, h, ap (entry_at (put_state x.stack x.run.depth id)) z, put_same x.stack x.run.depth id room))
        (λ q. omega (arith, put_other x.stack x.run.depth id k (λ e. omega (arith, e, q)), ids_declared states x good k q))
        (le_or_lt x.run.depth k);
  }

  -- some of the ids, or all
  fewer : (d : ℕ) → 1 ≤ d → d ≤ x.run.depth → Operated states x (running (with_depth x.run d) x.stack)
  fewer d some h = record {
    same_kind = refl;
    same_n = refl;
    same_position = refl;
    same_moves = refl;
    some_depth = some;
    low_depth = omega (arith, h);
    same_bytes = refl;
    ids = λ k l. ids_declared states x good k (omega (arith, l, h));
  }

  pub operated_good : (r : Rule) → r.target < states → Operated states x (operated x r)
  unfolding operated popped
  operated_good r h =
      let some : 1 ≤ x.run.depth = (run_is states x.run x.stack good).some_depth in
      cond_both (eqb r.operation 1) _ _ (Operated states x) (λ _. alone r.target h)
      (λ _. cond_both (eqb r.operation 2) _ _ (Operated states x) (λ _. more r.target h)
      (λ _. cond_both (eqb r.operation 3) _ _ (Operated states x)
      (λ _. cond_both (eqb x.run.depth 1) _ _ (Operated states x) (λ _. alone 0 (omega (arith, h)))
      (λ e. fewer (x.run.depth - 1) (omega (arith, some, eqb-false x.run.depth 1 e)) (omega arith)))
      (λ _. fewer x.run.depth some (omega arith))))
