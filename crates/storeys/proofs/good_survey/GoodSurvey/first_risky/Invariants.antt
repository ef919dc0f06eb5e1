use Rattle.std.proofs.Common.{◌≡◌}
use Rattle.std.specs.Iterator.Adapters.{enumerate_count}
use Rattle.checks.specs.RowChecks.{records_of}
use Rattle.storeys.specs.Storey.{published_rules}
use Rattle.storeys.specs.FirstRisky.{risky_in}
use Rattle.storeys.proofs.FirstRisky.{first_of}
use Rattle.storeys.proofs.good_survey.GoodSurvey.first_risky.Given as goal

abbrev pub invariant-loop-i : goal.invariant-loop-i
invariant-loop-i l = first_of (risky_in published_rules (records_of l.self.survey)) (enumerate_count l.i-iterator) ≡ 0
