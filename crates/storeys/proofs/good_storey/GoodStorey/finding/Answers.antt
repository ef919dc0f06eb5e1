use Rattle.records.specs.Forms.{form_number}
use Rattle.storeys.proofs.Called.{found-is}
use Rattle.storeys.proofs.good_storey.GoodStorey.finding.Goals as goal

pub returns : goal.returns
returns c =
    let s = c.args.self.now in
    found-is (form_number s.form) c.args.c c.requires s.members.now s.rows s.storey.now s.good s.level.hundredths c.shear-shear.result c.walls_suffice-met.result c.tally.result c.of.result
    c.shear-shear.ensures c.walls_suffice-met.ensures c.tally.ensures c.of.ensures
