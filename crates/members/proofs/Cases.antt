-- A member that its check lets pass is good in each of its load cases.
use Rattle.records.proofs.Validity.{case-good}

pub ruleset good_in_each = (case-good)
