use Rattle.std.proofs.Common.{ap, ◌∙◌}
use Rattle.records.specs.Records.{in_case}
use Rattle.records.specs.declared.Member.{Member}
use Rattle.totals.specs.Totals.{added_wall}
use Rattle.checks.proofs.RowLoops.{member-at}
use Rattle.storeys.proofs.Loops.{wall-next, wall-all, suffice-is}
use Rattle.storeys.proofs.storey.walls_suffice.Goals as goal

pub loop-m-preserved : goal.loop-m-preserved
loop-m-preserved c =
    let l = c.loop-m in
    let a = c.args in
    wall-next a.c a.rows.now l.walls l.m-index l.invariant _ c.loop-m-test.true
    (c.add_wall-walls.ensures ∙ ap (λ (x : Member). added_wall l.walls (in_case a.c x)) (member-at a.rows.now l.m-index _ c.loop-m-test.true))

pub returns : goal.returns
returns c =
    let l = c.loop-m in
    let a = c.args in
    suffice-is a.c a.rows.now a.shear l.walls c.meets.result (wall-all a.c a.rows.now l.walls l.m-index l.invariant c.loop-m-test.false) c.meets.ensures
