-- What the winner does: a law for each branch of the operation and of the answer.
use mathlib.Core.Path.{◌≡◌, ap, subst, ◌∙◌}
use mathlib.Core.Bool.{Bool, true, false}
use mathlib.Core.List.{List}
use Prim.Native.Nat.{ℕ, ◌+◌, ◌-◌}
use borrow.Author.Tests.{eq-eqb, ne_eqb}
use lib.Dec.{eqb}
use Rattle.std.specs.Prelude.{Option, Some, Ok}
use Rattle.area.specs.declared.Rule.{Rule}
use Rattle.run.specs.declared.Run.{Run}
use Rattle.area.specs.declared.StartStateOperation.{StartStateOperation}
use Rattle.run.specs.declared.Step.TheVariants.{Unlinked, Skip, Token}
use Rattle.run.specs.Run.{Running, running, leaving, run_left, put_state, with_depth, advanced, popped, operated, move_by, won_by}
use Rattle.area.specs.Operation.{OperationIs}

-- what a match on the name of an operation tells of the field
pub operation_told : (field : ℕ) (o : Option StartStateOperation) (w v : StartStateOperation) → OperationIs field o → o ≡ Some w → w ≡ v
    → OperationIs field (Some v)
operation_told field o w v is e q = subst (OperationIs field) (e ∙ ap Some q) is

module _ (x : Rule) (r : Run) (s : List ℕ) where
  abbrev result : Running
  result = operated (running r s) x

  module _ (e : List ℕ) where
    pub operated_replace : x.operation ≡ 1 → e ≡ put_state s 0 x.target → running (with_depth r 1) e ≡ result
    unfolding operated
    operated_replace h q = rw (h, q)

    pub operated_push : x.operation ≡ 2 → e ≡ put_state s r.depth x.target → running (with_depth r (r.depth + 1)) e ≡ result
    unfolding operated
    operated_push h q = rw (h, q)

    pub operated_empty : x.operation ≡ 3 → r.depth ≡ 1 → e ≡ put_state s 0 0 → running (with_depth r 1) e ≡ result
    unfolding operated popped
    operated_empty h z q = rw (h, eq-eqb r.depth 1 z, q)

  pub operated_pop : x.operation ≡ 3 → (r.depth ≡ 1 → ⊥) → running (with_depth r (r.depth - 1)) s ≡ result
  unfolding operated popped
  operated_pop h z = rw (h, ne_eqb r.depth 1 z)

  pub operated_none : (x.operation ≡ 1 → ⊥) → (x.operation ≡ 2 → ⊥) → (x.operation ≡ 3 → ⊥) → running (with_depth r r.depth) s ≡ result
  unfolding operated
  operated_none a b h = rw (ne_eqb x.operation 1 a, ne_eqb x.operation 2 b, ne_eqb x.operation 3 h)

-- the numbers of a move, and the stack
module _ (x : Rule) (bytes : ℕ) (r : Run) (s e : List ℕ) where
  pub move_made : (d : ℕ) → running (with_depth r d) e ≡ operated (running r s) x → running (advanced (with_depth r d) bytes) e ≡ move_by (running r s) x bytes
  unfolding move_by
  move_made d q = ap (λ (z : Running). running (advanced z.run bytes) z.stack) q

  module _ (q : Run) (is : running q e ≡ move_by (running r s) x bytes) where
    pub won_token : {t : Bool} → t ≡ eqb x.named 1 → t ≡ true → x.has_id ≡ 1 → run_left (Ok (Token x.id r.position bytes)) q e ≡ won_by (running r s) x bytes
    unfolding won_by
    won_token named h g = rw (← named, h, eq-eqb x.has_id 1 g) (ap (leaving (Ok (Token x.id r.position bytes))) is)

    pub won_skip : {t : Bool} → t ≡ eqb x.named 1 → t ≡ false → run_left (Ok Skip) q e ≡ won_by (running r s) x bytes
    unfolding won_by
    won_skip named h = rw (← named, h) (ap (leaving (Ok Skip)) is)

module _ (x : Rule) (bytes : ℕ) (r : Run) (s : List ℕ) where
  pub won_unlinked : {t : Bool} → t ≡ eqb x.named 1 → t ≡ true → (x.has_id ≡ 1 → ⊥) → run_left (Ok Unlinked) r s ≡ won_by (running r s) x bytes
  unfolding won_by
  won_unlinked named h g = rw (← named, h, ne_eqb x.has_id 1 g)
