-- `run::Run::operate` meets its contract: each branch is one of the definition.
use Rattle.run.proofs.Moving.{operation_told, operated_replace, operated_push, operated_empty, operated_pop, operated_none}
use Rattle.run.proofs.Run.operate.Goals as goal

pub returns-in-Some-ReplaceStack : goal.returns-in-Some-ReplaceStack
returns-in-Some-ReplaceStack c =
    let is = operation_told _ _ _ _ c.from_field.ensures c.in-Some-ReplaceStack.is c.in-Some-ReplaceStack.field-0-is in
    operated_replace _ _ _ _ is c.put_state.ensures

pub returns-in-Some-Push : goal.returns-in-Some-Push
returns-in-Some-Push c =
    let is = operation_told _ _ _ _ c.from_field.ensures c.in-Some-Push.is c.in-Some-Push.field-0-is in
    operated_push _ _ _ _ is c.put_state-in-Some-Push.ensures

pub returns-then-self-eq1 : goal.returns-then-self-eq1
returns-then-self-eq1 c =
    let is = operation_told _ _ _ _ c.from_field.ensures c.in-Some-Pop.is c.in-Some-Pop.field-0-is in
    operated_empty _ _ _ _ is c.if-self-eq1.true c.put_state-then-self-eq1.ensures

pub returns-else-self-eq1 : goal.returns-else-self-eq1
returns-else-self-eq1 c =
    let is = operation_told _ _ _ _ c.from_field.ensures c.in-Some-Pop.is c.in-Some-Pop.field-0-is in
    operated_pop _ _ _ is c.if-self-eq1.false

pub returns-in-None : goal.returns-in-None
returns-in-None c = let none = c.in-None.ensures in operated_none _ _ _ none.0 none.1 none.2
