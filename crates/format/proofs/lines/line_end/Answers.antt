use Rattle.std.proofs.Common.{eqb, rules, tests}
use Rattle.std.proofs.lemmas.Iterator.{YieldsList-from_slice}
use Rattle.std.proofs.lemmas.Iterator.Search.{position_from_yields_List}
use Rattle.format.proofs.Shape.{end-found}
use Rattle.format.proofs.lines.line_end.Goals as goal

pub returns : goal.returns
returns c =
    let s = c.args.s.now in
    let p = position_from_yields_List (λ b. eqb b 10) _ _ c.position.result c.position.ensures.ran (YieldsList-from_slice s cc) (λ x b q k. search (rules, tests)) in
    end-found s c.position.result c.unwrap_or.result p cc
