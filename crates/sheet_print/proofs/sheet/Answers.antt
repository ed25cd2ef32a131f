-- `sheet_print::sheet` meets its contract: the call leaves what the outcome of the file has, the lines are those of what it left, and there is room
-- for all of them.
use Prim.Native.Nat.{ℕ}
use lib.ListN.{length-replicate}
use Rattle.std.proofs.Common.{rules}
use Rattle.parse.specs.Answers.{answered, counts_left}
use Rattle.sheet_print.proofs.Answering.{sheet_written}
use Rattle.sheet_print.proofs.Lengths.{lines_written}
use Rattle.sheet_print.proofs.sheet.Goals as goal

pub returns : goal.returns
returns c =
    let src = c.args.src.now in
    let call = c.parse-answer in
    let printed = sheet_written src (answered call.result) (counts_left call.result) _ _ _ _ _ _ _ _ _ _ _ _
    call.ensures
    (length-replicate {A = ℕ} 384 0)
    (length-replicate {A = ℕ} 57344 0)
    (length-replicate {A = ℕ} 32768 0)
    (length-replicate {A = ℕ} 32768 0)
    (length-replicate {A = ℕ} 32768 0)
    (length-replicate {A = ℕ} 32768 0)
    call.auto.area1
    call.auto.area2
    call.auto.area6 in
    lines_written src (search rules) c.new-text.ensures c.put_answer.ensures printed c.requires
