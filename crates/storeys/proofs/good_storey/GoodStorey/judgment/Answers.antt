use Rattle.storeys.proofs.Called.{judged-one, judged-four}
use Rattle.storeys.proofs.good_storey.GoodStorey.judgment.Goals as goal

pub returns-in-Old : goal.returns-in-Old
returns-in-Old c =
    let s = c.args.self.now in
    rw c.in-Old.is (judged-one s.level.hundredths s.storey.now s.members.now c.finding-case1.result c.finding-case1.ensures)

pub returns-in-FourCases : goal.returns-in-FourCases
returns-in-FourCases c =
    let s = c.args.self.now in
    rw c.in-FourCases.is (judged-four s.level.hundredths s.storey.now s.members.now _ _ _ _ c.finding-case1.ensures c.finding-case2.ensures c.finding-case3.ensures c.finding-case4.ensures)
