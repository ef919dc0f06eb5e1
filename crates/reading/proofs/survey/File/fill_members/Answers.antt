use native.Mathlib.Omega.{arith}
use lib.ListN.{length}
use mathlib.Core.Path.{◌≡◌, ◌∙◌}
use Rattle.records.specs.Blank.{no_member}
use Rattle.reading.proofs.Placed.{placed-none, placed-step, placed-all}
use Rattle.reading.proofs.survey.File.fill_members.Goals as goal

pub loop-j-init : goal.loop-j-init
loop-j-init c = placed-none _ _ _

pub loop-j-preserved : goal.loop-j-preserved
loop-j-preserved c = placed-step _ _ _ c.loop-j.j _ _ _ c.loop-j.invariant c.member_at.ensures (omega arith)

pub returns : goal.returns
returns c = let e : c.loop-j.j ≡ length c.args.rows.now = omega arith in rw (← e) (c.loop-j.invariant ∙ placed-all _ no_member c.loop-j.j c.args.rows.now e)
