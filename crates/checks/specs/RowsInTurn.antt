-- The storeys of a survey in turn, each with its own members: what is left of both, and what a call gives.
use Rattle.std.specs.Prelude.{◌≡◌, List, [], ◌∷◌, take, drop, Option, None, Some}
use denote.Ref.{Bor}
use Rattle.records.specs.declared.{Storey.Storey, Member.Member}
use Rattle.checks.specs.declared.storey_rows.StoreyRows.{StoreyRows}

-- the storeys that are left
abbrev pub storeys_left : StoreyRows → List Storey
storeys_left rows = rows.storeys.now

-- the members that are left
abbrev pub members_left : StoreyRows → List Member
members_left rows = rows.members.now

-- the first storey is given with as many members as it counts, and the later storeys and members are left; or no storey is left, now or later
abbrev pub GivesStorey : StoreyRows → Option (Bor Storey × Bor (List Member)) → StoreyRows → Type 0
GivesStorey old None new = (storeys_left old ≡ []) × (storeys_left new ≡ [])
GivesStorey old (Some (storey, own)) new =
    (storeys_left old ≡ storey.now ∷ storeys_left new)
    × (own.now ≡ take storey.now.count (members_left old))
    × (members_left new ≡ drop storey.now.count (members_left old))
