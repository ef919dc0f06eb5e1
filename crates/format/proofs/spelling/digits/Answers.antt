use mathlib.Core.Path.{sym, ◌∙◌}
use native.Mathlib.Omega.{arith}
use lib.ListN.{get_or}
use Rattle.format.proofs.Columns.{value-more, value-all, pushed-small}
use Rattle.format.proofs.spelling.digits.Goals as goal

pub loop-column-preserved : goal.loop-column-preserved
loop-column-preserved c =
    let l = c.loop-column in (
      rw c.push-number.ensures (pushed-small l.number (get_or c.args.columns.now l.column-index 0) l.column-index l.invariant.0),
      rw c.push-number.ensures (sym (value-more c.args.columns.now l.number l.column-index (omega arith)) ∙ l.invariant.1),
    )

pub returns-clause-value : goal.returns-clause-value
returns-clause-value c = let l = c.loop-column in sym (value-all c.args.columns.now l.number l.column-index (omega arith)) ∙ l.invariant.1
