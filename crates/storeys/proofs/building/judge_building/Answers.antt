use Rattle.std.proofs.Common.{◌≡◌}
use Rattle.checks.specs.RowChecks.{records_of}
use Rattle.storeys.proofs.Answered.{judged}
use Rattle.storeys.proofs.building.judge_building.Goals as goal

pub returns : goal.returns
returns c =
    let s = c.in_ok-good.good.survey in
    let same : s ≡ c.args.survey.now = c.in_ok-good.ensures in
    let f = c.first_risky-first.ensures in
    rw (c.is_some.ensures, c.is_tilted-tilted.ensures, ← same) (judged (records_of s) _ c.in_ok-good.good.good f.place f.case_number)
