-- `names::has_name` meets its contract where bytes are compared. `auto` with the same law does not close it (tried).
use Rattle.names.proofs.Finds.{rule_compared}
use Rattle.names.proofs.has_name.Goals as goal

pub returns-then-is_named : goal.returns-then-is_named
returns-then-is_named c = rule_compared _ _ _ _ c.is_named.ensures c.if-is_named.true _ _ c.name_end.ensures c.same_bytes.ensures
