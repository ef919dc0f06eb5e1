use Rattle.std.proofs.Common.{ap, ◌∙◌}
use Rattle.records.specs.Records.{allows, between, never, case_ranges}
use Rattle.ranges.proofs.Fields.{after_first}
use Rattle.ranges.proofs.case_allows.Goals as goal

pub returns : goal.returns
returns c = c.field_allows.ensures ∙ ap (λ r. allows r c.args.v) (after_first (between 1 4) case_ranges c.args.j never c.if-j-eq0.false)
