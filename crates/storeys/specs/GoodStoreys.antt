-- The storeys of a good survey in turn: what is left of it, and what a call gives.
use Rattle.std.specs.Prelude.{◌≡◌, Option, None, Some}
use Rattle.records.specs.declared.form.Form.{Form}
use Rattle.checks.specs.RowsInTurn.{GivesStorey}
use Rattle.checks.specs.declared.storey_rows.StoreyRows.{StoreyRows}
use Rattle.members.specs.declared.knowledge.Knowledge.{Knowledge}
use Rattle.storeys.specs.declared.good_storey.GoodStorey.{GoodStorey}
use Rattle.storeys.specs.declared.good_storeys.GoodStoreys.{GoodStoreys}

-- the storeys and members that are left, and the survey's form and knowledge level
abbrev pub rows_left : GoodStoreys → StoreyRows
rows_left good = good.rows

abbrev pub form_of : GoodStoreys → Form
form_of good = good.form

abbrev pub level_of : GoodStoreys → Knowledge
level_of good = good.level

-- the first storey is given with its members, in the survey's form and at its level, which stay; or no storey is left, now or later
abbrev pub GivesGoodStorey : GoodStoreys → Option GoodStorey → GoodStoreys → Type 0
GivesGoodStorey old None new = GivesStorey (rows_left old) None (rows_left new)
GivesGoodStorey old (Some good) new =
    GivesStorey (rows_left old) (Some (good.storey, good.members)) (rows_left new)
    × (good.form ≡ form_of old)
    × (good.level ≡ level_of old)
    × (form_of new ≡ form_of old)
    × (level_of new ≡ level_of old)
