use Rattle.std.proofs.Common.{◌≡◌, ◌∙◌, ◌+◌, ◌*◌, ◌-◌, drop, sym, arith}
use Rattle.format.specs.Lines.{line_size}
use Rattle.records.specs.Records.{fields}
use Rattle.format.proofs.Shape.{framed_first}
use Rattle.format.proofs.lines.Line.is_shaped.Goals as goal

pub returns-then-is_framed : goal.returns-then-is_framed
returns-then-is_framed c =
    let a = c.args.self.now in
    let e : line_size a.kind - 1 ≡ 8 * fields a.kind + 1 = omega arith in
    rw (c.line_length.ensures, c.line_size.ensures, e) (rw (sym c.is_framed.ensures ∙ c.if-is_framed.true) at (framed_first a.kind (drop a.at a.file.now)))

pub returns-else-is_framed : goal.returns-else-is_framed
returns-else-is_framed c =
    let a = c.args.self.now in
    c.if-is_framed.false ∙ rw (sym c.is_framed.ensures ∙ c.if-is_framed.false) at (framed_first a.kind (drop a.at a.file.now))
