use Rattle.std.proofs.Common.{arith}
use Rattle.columns.proofs.Written.{part-put, none-left, first-fits}
use Rattle.writing.proofs.Parts.{fields-next, fields-end}
use Rattle.writing.proofs.lines.put_numbers.Goals as goal

pub put_number-requires : goal.put_number-requires
put_number-requires c =
    let l = c.loop-j in
    let left = rw (fields-next c.args.kind c.args.values.now l.j c.loop-j-test.true) at l.invariant in
    rw c.is_force.ensures (first-fits _ _ _ _ l.writer c.requires left)

pub loop-j-preserved : goal.loop-j-preserved
loop-j-preserved c =
    let l = c.loop-j in
    let left = rw (fields-next c.args.kind c.args.values.now l.j c.loop-j-test.true) at l.invariant in
    part-put _ _ _ _ l.writer _ left (rw c.is_force.ensures at c.put_number.ensures)

pub returns : goal.returns
returns c = let l = c.loop-j in none-left _ _ l.writer (rw (fields-end c.args.kind c.args.values.now l.j (omega arith)) at l.invariant)
