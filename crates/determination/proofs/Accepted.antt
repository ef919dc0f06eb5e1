-- An accepted file is judged and printed.
use mathlib.Core.Path.{sym, ◌∙◌}
use borrow.Author.Tests.{eq-eqb}
use Rattle.reading.proofs.Passed.{accepted-pass}
use Rattle.storeys.specs.Building.{building_returned}
use Rattle.determination.specs.Determination.{storey_rows, member_rows, text}
use Rattle.determination.specs.Accepted.{AcceptedJudged, AcceptedPrinted}
use Rattle.determination.proofs.Outcomes.{not-too-long}
use Rattle.determination.proofs.Room.{never-nine}

pub accepted-judged : AcceptedJudged
unfolding building_returned
accepted-judged s srows mrows a e rules = rw (eq-eqb _ 0 (accepted-pass s srows mrows a e))

pub accepted-printed : AcceptedPrinted
unfolding text
accepted-printed input a room few e enough =
    let none = never-nine input a room e enough ∙ accepted-pass input storey_rows member_rows a e in
    sym (not-too-long input room few) ∙ rw (e, eq-eqb _ 0 none)
