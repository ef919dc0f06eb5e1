use Rattle.std.proofs.Common.{arith}
use Rattle.columns.proofs.Written.{has-room, part-put, none-left, first-fits, numbers-left, numbers-end}
use Rattle.columns.proofs.writer.ColumnWriter.numbers.Goals as goal

pub loop-v-preserved : goal.loop-v-preserved
loop-v-preserved c =
    let l = c.loop-v in
    let left = rw (numbers-left c.args.values.now l.v-index c.loop-v-test.true) at l.invariant in
    part-put _ _ _ _ l.self _ left (has-room _ _ _ (first-fits _ _ _ _ l.self c.requires left) c.field.ensures.written)

pub returns : goal.returns
returns c = let l = c.loop-v in none-left _ _ l.self (rw (numbers-end c.args.values.now l.v-index (omega arith)) at l.invariant)
