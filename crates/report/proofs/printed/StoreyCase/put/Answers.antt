use Rattle.std.proofs.Common.{ap}
use Rattle.records.specs.Forms.{form_number}
use Rattle.storeys.specs.Storey.{storey_finding}
use Rattle.storeys.proofs.Called.{found-is}
use Rattle.totals.specs.declared.StoreyFinding.{StoreyFinding}
use Rattle.columns.proofs.Written.{both-written}
use Rattle.report.proofs.Rows.{members-room, storey-room, case-parts}
use Rattle.report.proofs.printed.StoreyCase.put.Goals as goal

pub put_members-tally-requires : goal.put_members-tally-requires
put_members-tally-requires c =
    let s = c.args.self.now in
    members-room (form_number s.good.form) s.good.level.hundredths s.good.storey.now s.good.members.now _ s.case c.args.writer.now c.requires

pub put_storey_line-requires : goal.put_storey_line-requires
put_storey_line-requires c =
    let s = c.args.self.now in
    storey-room (form_number s.good.form) s.good.level.hundredths s.good.storey.now s.good.members.now _ s.case c.args.writer.now c.requires _ _ _ c.put_members-tally.ensures.written

pub returns : goal.returns
unfolding storey_finding
returns c =
    let s = c.args.self.now in
    let g = s.good in
    let f = form_number g.form in
    let k = g.level.hundredths in
    let parts = case-parts f k g.storey.now g.members.now s.case _ _ g.good g.rows s.in_form c.shear-shear.ensures c.walls_suffice-met.ensures in
    let found = found-is f s.case s.in_form g.members.now g.rows g.storey.now g.good k _ _ _ _ c.shear-shear.ensures c.walls_suffice-met.ensures c.put_members-tally.ensures.tally c.of-finding.ensures in
    record {
      risky = ap (λ (x : StoreyFinding). x.risky) found;
      written = rw parts (both-written _ _ _ _ _ c.put_members-tally.ensures.written (rw found at c.put_storey_line.ensures));
    }
