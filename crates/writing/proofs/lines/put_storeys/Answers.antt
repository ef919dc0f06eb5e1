use Rattle.columns.proofs.Written.{none-left}
use Rattle.writing.proofs.Parts.{storey-fits, members-fit, storey-put, storeys-end}
use Rattle.writing.proofs.lines.put_storeys.Goals as goal

pub put_storey-requires : goal.put_storey-requires
put_storey-requires c = storey-fits _ c.loop-storey.storey-iterator c.next.new.self (c.in-Some.storey, c.in-Some.own) c.in-Some.ensures.steps _ _ c.loop-storey.writer c.requires c.loop-storey.invariant

pub put_members-requires : goal.put_members-requires
put_members-requires c =
    members-fit _ c.loop-storey.storey-iterator c.next.new.self (c.in-Some.storey, c.in-Some.own) c.in-Some.ensures.steps _ _ c.loop-storey.writer c.requires c.loop-storey.invariant _ c.put_storey.ensures

pub loop-storey-preserved : goal.loop-storey-preserved
loop-storey-preserved c =
    storey-put _ c.loop-storey.storey-iterator c.next.new.self (c.in-Some.storey, c.in-Some.own) c.in-Some.ensures.steps _ _ c.loop-storey.writer c.requires c.loop-storey.invariant _ c.put_storey.ensures _ c.put_members.ensures

pub returns : goal.returns
returns c = none-left _ _ c.loop-storey.writer (rw (storeys-end _ c.loop-storey.storey-iterator c.in-None.ensures.steps.0) at c.loop-storey.invariant)
