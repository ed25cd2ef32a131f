-- `escape::Pattern::text_end` meets its contract: behind the last whole escape a backslash can only be the last byte.
use Rattle.std.proofs.Common.{arith}
use Rattle.escape.proofs.Passed.{lone_dropped, none_dropped}
use Rattle.escape.proofs.Pattern.text_end.Goals.{else-p-self-via-then-p-self+else-self-eq-BACKSLASH, else-p-self-via-else-p-self}
use Rattle.escape.proofs.Pattern.text_end.Goals as goal

pub returns-then-self-eq-BACKSLASH : goal.returns-then-self-eq-BACKSLASH
returns-then-self-eq-BACKSLASH c = lone_dropped _ _ _ c.requires.none_left c.if-p-self.true c.if-self-eq-BACKSLASH.true

pub returns : goal.returns
returns c =
    none_dropped _ _ _ c.requires.none_left c.requires.p_le_end
    (λ l b. elim c.else-p-self.branch [
      | else-p-self-via-then-p-self+else-self-eq-BACKSLASH w ↦ w.if-self-eq-BACKSLASH.false b
      | else-p-self-via-else-p-self w ↦ omega (arith, w.if-p-self.false)
    ])
