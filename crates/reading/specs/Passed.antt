-- "An accepted file's records pass the checks" that the calls on records make (document 02, N10).
use Rattle.std.specs.Prelude.{ℕ, List, ◌≡◌}
use Rattle.checks.specs.Rows.{Survey, records_fault}
use Rattle.reading.specs.Survey.{accepted, survey}

-- of every file, whatever rows it is read into
abbrev pub AcceptedPass : Type 0
AcceptedPass = (s : List ℕ) (srows mrows : ℕ) (a : Survey) → survey s srows mrows ≡ accepted a → records_fault a ≡ 0
