use Rattle.std.proofs.Common.{◌≡◌, refl, arith}
use Rattle.records.specs.Records.{fields}
use Rattle.records.proofs.Allowing.{fields-most}
use Rattle.format.proofs.Fields.{told-first, told-next, told-all}
use Rattle.format.proofs.lines.Line.field_numbers.Goals as goal

pub loop-j-init : goal.loop-j-init
loop-j-init c = let a = c.args.self.now in told-first a.kind a.file.now a.at _ refl

pub loop-j-preserved : goal.loop-j-preserved
loop-j-preserved c =
    let a = c.args.self.now in
    let l = c.loop-j in
    rw (c.unwrap_or.ensures, c.is_some-written.ensures)
    (told-next a.kind a.file.now a.at l.values l.written l.j l.invariant (omega (arith, c.loop-j-test.true, fields-most a.kind)) _ c.number-number.ensures)

pub returns : goal.returns
returns c =
    let a = c.args.self.now in
    let l = c.loop-j in
    let e : l.j ≡ fields a.kind = omega arith in
    told-all a.kind a.file.now a.at l.values l.written (rw e at l.invariant)
