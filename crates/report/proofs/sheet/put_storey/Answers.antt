use Rattle.std.proofs.Common.{arith, sym, ◌≡◌, ◌<◌, ◌≤◌, ◌-◌}
use Rattle.records.specs.Forms.{form_number}
use Rattle.records.specs.Records.{case_count}
use Rattle.records.proofs.Below.{any_none}
use Rattle.storeys.specs.Storey.{storey_risky}
use Rattle.storeys.proofs.Called.{risky-in}
use Rattle.columns.proofs.Written.{all-left, part-put, none-left, rest-fits, part-fits}
use Rattle.report.proofs.Cases.{any-next, cases-left, cases-end}
use Rattle.report.proofs.sheet.put_storey.Goals as goal

pub loop-case-init : goal.loop-case-init
loop-case-init c =
    let g = c.args.good.now in
    let e : case_count (form_number g.form) - 0 ≡ case_count (form_number g.form) = omega arith in
    record { risky = sym (any_none (risky-in g.level.hundredths g.storey.now g.members.now)); left = rw e (all-left _ c.args.writer.now) }

pub put-risky-requires : goal.put-risky-requires
put-risky-requires c =
    let g = c.args.good.now in
    let l = c.loop-case in
    let h : l.case < case_count (form_number g.form) = omega arith in
    let left = rw (cases-left (form_number g.form) g.level.hundredths g.storey.now g.members.now l.case (case_count (form_number g.form)) h) at l.invariant.left in
    part-fits _ _ l.writer (rest-fits _ _ _ l.writer c.requires left)

pub loop-case-preserved : goal.loop-case-preserved
loop-case-preserved c =
    let g = c.args.good.now in
    let l = c.loop-case in
    let h : l.case < case_count (form_number g.form) = omega arith in
    let left = rw (cases-left (form_number g.form) g.level.hundredths g.storey.now g.members.now l.case (case_count (form_number g.form)) h) at l.invariant.left in
    record {
      risky = any-next (risky-in g.level.hundredths g.storey.now g.members.now) l.case _ _ l.invariant.risky c.put-risky.ensures.risky;
      left = part-put _ _ _ _ l.writer _ left c.put-risky.ensures.written;
    }

pub returns-clause-risky : goal.returns-clause-risky
unfolding storey_risky
returns-clause-risky c =
    let l = c.loop-case in
    let e : l.case ≡ case_count (form_number c.args.good.now.form) = omega arith in
    rw e at l.invariant.risky

pub returns-clause-written : goal.returns-clause-written
returns-clause-written c =
    let g = c.args.good.now in
    let l = c.loop-case in
    let h : case_count (form_number g.form) ≤ l.case = omega arith in
    none-left _ _ l.writer (rw (cases-end (form_number g.form) g.level.hundredths g.storey.now g.members.now l.case (case_count (form_number g.form)) h) at l.invariant.left)
