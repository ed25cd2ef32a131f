-- Whether a run fits: the tests are joined as the definitions join them, and what they say as plain facts.
use mathlib.Core.Path.{◌≡◌, sym, ap, ◌∙◌}
use mathlib.Core.Bool.{Bool, true, false, ◌&&◌}
use mathlib.Core.List.{List}
use Prim.Native.Nat.{ℕ, ◌+◌, ◌*◌, ◌-◌, ◌≤◌, ◌<◌}
use native.Mathlib.Omega.{arith}
use borrow.Author.Rules.{rules}
use borrow.Author.Tests.{leb-true, ltb-true}
use lib.Dec.{leb}
use lib.ListN.{length}
use Rattle.std.proofs.lemmas.Bool.{and_parts}
use Rattle.area.specs.Records.{entry_at, entry_width}
use Rattle.area.specs.Contents.{contents, entry_format}
use Rattle.sheet_check.specs.SheetCheck.{declared}
use Rattle.area.specs.Lists.{all}
use Rattle.area.proofs.Contents.{contents_count, contents_read}
use Rattle.area.proofs.All.{all-at}
use Rattle.run.specs.declared.Run.{Run}
use Rattle.run.specs.Run.{limit, within_limit, running, moves_of, stack_bytes, current, good_numbers, good_run}

-- the numbers of a run fit each other and a stack of so many bytes
pub record GoodNumbers (r : Run) (space : ℕ) : Type 0 where
  pub limited : within_limit (limit r.kind) r.n ≡ true
  pub inside : r.position ≤ r.n
  pub some_depth : 1 ≤ r.depth
  pub low_depth : r.depth ≤ r.position + 1
  pub few_moves : moves_of r ≤ r.position
  pub long : stack_bytes r.n ≤ space

pub good_numbers_lem : (r : Run) (s : List ℕ) → good_numbers (running r s) ≡ true → GoodNumbers r (length s)
unfolding good_numbers
good_numbers_lem r s e =
    let a1 : Bool = within_limit (limit r.kind) r.n in
    let a2 : Bool = leb r.position r.n in
    let a3 : Bool = leb 1 r.depth in
    let a4 : Bool = leb r.depth (r.position + 1) in
    let a5 : Bool = leb (moves_of r) r.position in
    let a6 : Bool = leb (stack_bytes r.n) (length s) in
    let t5 = (and_parts (a1 && a2 && a3 && a4 && a5) a6 e).0 in
    let t4 = (and_parts (a1 && a2 && a3 && a4) a5 t5).0 in
    let t3 = (and_parts (a1 && a2 && a3) a4 t4).0 in
    let t2 = (and_parts (a1 && a2) a3 t3).0 in
    record {
      limited = (and_parts a1 a2 t2).0;
      inside = leb-true r.position r.n (and_parts a1 a2 t2).1;
      some_depth = leb-true 1 r.depth (and_parts (a1 && a2) a3 t3).1;
      low_depth = leb-true r.depth (r.position + 1) (and_parts (a1 && a2 && a3) a4 t4).1;
      few_moves = leb-true (moves_of r) r.position (and_parts (a1 && a2 && a3 && a4) a5 t5).1;
      long = leb-true (stack_bytes r.n) (length s) (and_parts (a1 && a2 && a3 && a4 && a5) a6 e).1;
    }

-- the entries in use lie within the stack
pub depth_inside : (r : Run) (space : ℕ) → GoodNumbers r space → r.depth * entry_width ≤ space
depth_inside r space g = omega (arith, g.inside, g.low_depth, g.long)

module _ (states : ℕ) (r : Run) (s : List ℕ) (t : Bool) (is : t ≡ good_numbers (running r s)) where
  pub run_numbers : (q : Bool) → t ≡ true → q ≡ all (declared states) (contents entry_format s r.depth) → q ≡ good_run states (running r s)
  unfolding good_run
  run_numbers q e a = rw (← is, e) a

  pub run_broken : t ≡ false → false ≡ good_run states (running r s)
  unfolding good_run
  run_broken e = rw (← is, e)

  pub run_readable : t ≡ true → r.depth * entry_width ≤ length s
  run_readable e = depth_inside r (length s) (good_numbers_lem r s (sym is ∙ e))

pub ruleset run_fits = (rules, run_numbers, run_broken, run_readable)

-- a run that fits
module _ (states : ℕ) (r : Run) (s : List ℕ) (fits : good_run states (running r s) ≡ true) where
  pub run_is : GoodNumbers r (length s)
  unfolding good_run
  run_is = good_numbers_lem r s (and_parts (good_numbers (running r s)) (all (declared states) (contents entry_format s r.depth)) fits).0

  pub current_declared : current (running r s) < states
  unfolding good_run
  current_declared =
      let d : ℕ = r.depth in
      let h : d - 1 < d = omega (arith, run_is.some_depth) in
      let a : all (declared states) (contents entry_format s d) ≡ true =
      (and_parts (good_numbers (running r s)) (all (declared states) (contents entry_format s d)) fits).1 in
      let m : d - 1 < length (contents entry_format s d) = omega (arith, contents_count entry_format s d, h) in
      let b : declared states (entry_at s (d - 1)) ≡ true =
      ap (declared states) (sym (contents_read entry_format s d (d - 1) h)) ∙ all-at (declared states) (contents entry_format s d) 0 (d - 1) a m in
      ltb-true (entry_at s (d - 1)) states b
