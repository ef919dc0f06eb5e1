-- What stands past the rows: a record of zeros, the cases that it lacks with the force 0.
use Rattle.records.specs.declared.{Storey.Storey, Member.Member}
use Rattle.records.specs.Records.{storey_by, old_member}

unfoldable pub no_member : Member
no_member = old_member (λ j. 0)

abbrev pub no_storey : Storey
no_storey = storey_by 1 (λ j. 0)
