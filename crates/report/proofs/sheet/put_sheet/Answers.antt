use Rattle.std.proofs.Common.{refl}
use Rattle.checks.specs.RowChecks.{records_of}
use Rattle.columns.proofs.Written.{part-fits, after-fits, both-written}
use Rattle.report.proofs.Called.{sheet-parts}
use Rattle.report.proofs.sheet.put_sheet.Goals as goal

pub put_storeys-some_risky-requires : goal.put_storeys-some_risky-requires
put_storeys-some_risky-requires c = part-fits _ _ c.args.writer.now (rw (sheet-parts (records_of c.args.good.now.survey) _ refl) at c.requires)

pub put_building-requires : goal.put_building-requires
put_building-requires c =
    let p = c.put_storeys-some_risky in
    after-fits _ _ _ _ (rw (sheet-parts (records_of c.args.good.now.survey) p.result p.ensures.risky) at c.requires) p.ensures.written

pub returns : goal.returns
returns c =
    let p = c.put_storeys-some_risky in
    rw (sheet-parts (records_of c.args.good.now.survey) p.result p.ensures.risky) (both-written _ _ _ _ _ p.ensures.written c.put_building.ensures)
