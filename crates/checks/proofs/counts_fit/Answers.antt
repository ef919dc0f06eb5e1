use Rattle.std.proofs.Common.{◌∙◌, refl, rules}
use Rattle.checks.proofs.Counts.{left, fits}
use Rattle.checks.proofs.counts_fit.Goals as goal

pub returns : goal.returns
returns c =
    let ss = c.args.storeys.now in
    let ran = c.try_fold-left.ensures.ran in
    c.eq.ensures ∙ fits ss c.args.rows c.try_fold-left.result (rw c.iter.ensures.rest at (left _ _ _ (λ b x v q k. search rules) ran.0 _ ran.4.0 _ ran.1 _ (ran.2, ran.3) _ refl ran.4.1 ran.4.2 ran.5 ran.6))
