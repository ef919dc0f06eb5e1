use Rattle.std.proofs.Common.{arith, sym, ◌∙◌}
use borrow.Author.Tests.{leb-true}
use Rattle.columns.specs.Line.{line}
use Rattle.columns.proofs.Stamps.{length-line, length-printed-numbers}
use Rattle.columns.proofs.Written.{no-room, has-room, written-if-room, same_room, line-written}
use Rattle.columns.proofs.writer.ColumnWriter.line.Goals as goal

pub returns-then-not-has_line_room : goal.returns-then-not-has_line_room
returns-then-not-has_line_room c =
    let a = c.args in
    no-room (line a.tag.now a.values.now) a.self.now a.self.now (rw length-line (sym c.has_line_room.ensures ∙ c.if-not-has_line_room.true))

pub numbers-requires : goal.numbers-requires
numbers-requires c =
    let room = leb-true _ _ (sym c.has_line_room.ensures ∙ c.if-not-has_line_room.false) in
    let tag = has-room _ _ _ (omega (arith, room)) c.text.ensures in
    omega (arith, room, tag.at, same_room _ _ _ tag, length-printed-numbers c.args.values.now)

pub returns : goal.returns
returns c =
    let a = c.args in
    let room = leb-true _ _ (sym c.has_line_room.ensures ∙ c.if-not-has_line_room.false) in
    written-if-room (line a.tag.now a.values.now) _ _ (rw length-line room)
    (line-written a.tag.now a.values.now _ _ _ _ room c.text.ensures c.numbers.ensures c.text-2.ensures)
