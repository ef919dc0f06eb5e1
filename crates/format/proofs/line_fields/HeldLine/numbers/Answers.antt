use Rattle.std.proofs.Common.{◌≡◌, refl, arith}
use Rattle.std.proofs.lemmas.Grind.{common_steps}
use Rattle.records.proofs.Allowing.{fields-most}
use Rattle.format.proofs.Fields.{at_first, unwritten, after}
use Rattle.format.proofs.line_fields.HeldLine.numbers.Goals as goal

pub loop-j-init : goal.loop-j-init
loop-j-init c =
    let a = c.args.self.now.line in
    let e : c.into_iter-j-iterator.result.j ≡ 0 = cc in (tt, tt, cc, rw e (at_first a.kind a.file.now a.at _ refl))

pub returns-in_err-values-clause-fault : goal.returns-in_err-values-clause-fault
returns-in_err-values-clause-fault c =
    let a = c.args.self.now.line in
    let l = c.loop-j in
    let s = rw l.invariant.2 at c.in-Some.ensures.steps in
    let q = unwritten a.kind a.file.now a.at l.values l.j-iterator.j l.invariant.3 s.0 c.in-Some.field s.2 _ c.in_err-values.was in
    grind (arith, common_steps)

pub loop-j-preserved : goal.loop-j-preserved
loop-j-preserved c =
    let a = c.args.self.now.line in
    let l = c.loop-j in
    let s = rw l.invariant.2 at c.in-Some.ensures.steps in (
      tt,
      tt,
      s.3,
      rw (s.1, s.4) (after a.kind a.file.now a.at l.values l.j-iterator.j l.invariant.3 s.0 c.in-Some.field s.2 _ c.in_ok-values.was (fields-most a.kind)),
    )
