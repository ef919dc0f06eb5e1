use Rattle.std.proofs.Common.{◌∙◌, rules, tests, arith}
use Rattle.std.proofs.lemmas.Iterator.{YieldsList-from_range}
use Rattle.std.proofs.lemmas.Iterator.Search.{all_from_yields_List}
use Rattle.records.specs.Records.{fields, in_range}
use Rattle.records.proofs.Below.{every-listed}
use Rattle.ranges.proofs.line_in_ranges.Goals as goal

pub returns : goal.returns
returns c =
    let a = c.args in
    let test = in_range a.kind a.vs.now in
    all_from_yields_List test _ _ c.all.result c.all.ensures.ran (YieldsList-from_range 0 (fields a.kind) (fields a.kind) (cc) (omega arith)) (λ x b q k. search (rules, tests)) ∙ every-listed test (fields a.kind)
