use Rattle.std.proofs.Common.{arith}
use Rattle.columns.proofs.Written.{part-put, none-left, first-fits}
use Rattle.writing.proofs.Parts.{cases_next, cases_end}
use Rattle.writing.proofs.lines.put_cases.Goals as goal

pub put_line-requires : goal.put_line-requires
put_line-requires c =
    let l = c.loop-c in
    let left = rw (cases_next c.args.m.now 4 l.c c.loop-c-test.true) at l.invariant in
    rw (c.values.ensures, c.in_case.ensures) (first-fits _ _ _ _ l.writer c.requires left)

pub loop-c-preserved : goal.loop-c-preserved
loop-c-preserved c =
    let l = c.loop-c in
    let left = rw (cases_next c.args.m.now 4 l.c c.loop-c-test.true) at l.invariant in
    part-put _ _ _ _ l.writer _ left (rw (c.values.ensures, c.in_case.ensures) at c.put_line.ensures)

pub returns : goal.returns
returns c = let l = c.loop-c in none-left _ _ l.writer (rw (cases_end c.args.m.now 4 l.c (omega arith)) at l.invariant)
