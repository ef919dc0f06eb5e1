use Rattle.std.proofs.Common.{arith}
use Rattle.std.proofs.lemmas.List.{get_or_default}
use Rattle.records.specs.Blank.{no_member}
use Rattle.columns.proofs.Written.{part-put, none-left, first-fits}
use Rattle.writing.proofs.Parts.{members-next, members-end}
use Rattle.writing.proofs.lines.put_members.Goals as goal

pub put_member-requires : goal.put_member-requires
put_member-requires c =
    let l = c.loop-m in
    let left = rw (members-next _ c.args.rows.now l.m-index c.loop-m-test.true) at l.invariant in
    rw (get_or_default c.args.rows.now l.m-index _ no_member c.loop-m-test.true) (first-fits _ _ _ _ l.writer c.requires left)

pub loop-m-preserved : goal.loop-m-preserved
loop-m-preserved c =
    let l = c.loop-m in
    let left = rw (members-next _ c.args.rows.now l.m-index c.loop-m-test.true) at l.invariant in
    part-put _ _ _ _ l.writer _ left (rw (get_or_default c.args.rows.now l.m-index _ no_member c.loop-m-test.true) at c.put_member.ensures)

pub returns : goal.returns
returns c = let l = c.loop-m in none-left _ _ l.writer (rw (members-end _ c.args.rows.now l.m-index (omega arith)) at l.invariant)
