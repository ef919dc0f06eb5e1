use Rattle.std.proofs.Common.{◌≡◌, arith}
use Rattle.std.proofs.lemmas.Grind.{common_steps}
use Rattle.format.proofs.Fields.{looks-first, unwritten-stops, outside-stops, looks_on}
use Rattle.format.proofs.line_fields.HeldLine.check.Goals as goal

pub loop-j-init : goal.loop-j-init
loop-j-init c =
    let a = c.args.self.now.line in
    let e : c.into_iter-j-iterator.result.j ≡ 0 = cc in (tt, tt, cc, rw e (looks-first a.kind a.file.now a.at))

pub returns-in_err-field : goal.returns-in_err-field
returns-in_err-field c =
    let a = c.args.self.now.line in
    let l = c.loop-j in
    let s = rw l.invariant.2 at c.in-Some.ensures.steps in
    let q = unwritten-stops a.kind a.file.now a.at l.j-iterator.j c.third-storeys.result l.invariant.3 s.0 c.in-Some.field s.2 c.third-storeys.ensures _ c.in_err-field.was in
    grind (arith, common_steps)

pub returns-then-not-range_allows : goal.returns-then-not-range_allows
returns-then-not-range_allows c =
    let a = c.args.self.now.line in
    let l = c.loop-j in
    let s = rw l.invariant.2 at c.in-Some.ensures.steps in
    outside-stops a.kind a.file.now a.at l.j-iterator.j c.third-storeys.result l.invariant.3 s.0 c.in-Some.field s.2 c.third-storeys.ensures _ c.in_ok-field.was _ (rw s.1 at c.range_allows.ensures) c.if-not-range_allows.true

pub loop-j-preserved : goal.loop-j-preserved
loop-j-preserved c =
    let a = c.args.self.now.line in
    let l = c.loop-j in
    let s = rw l.invariant.2 at c.in-Some.ensures.steps in (
      tt,
      tt,
      s.3,
      rw s.4 (looks_on a.kind a.file.now a.at l.j-iterator.j c.third-storeys.result l.invariant.3 s.0 c.in-Some.field s.2 c.third-storeys.ensures _ c.in_ok-field.was _ (rw s.1 at c.range_allows.ensures) c.if-not-range_allows.false),
    )
