use Rattle.std.proofs.Common.{sym, ◌∙◌}
use borrow.Author.Tests.{leb-true}
use Rattle.format.specs.Spelling.{spelled}
use Rattle.format.proofs.Typed.{length-spelled}
use Rattle.columns.proofs.Written.{no-room, written-if-room, part-written, length-part, kept-outside}
use Rattle.columns.proofs.writer.ColumnWriter.field.Goals as goal

pub returns-then-not-has_room-clause-written : goal.returns-then-not-has_room-clause-written
returns-then-not-has_room-clause-written c =
    let a = c.args in
    no-room (spelled a.width a.sign a.n) a.self.now a.self.now (rw length-spelled (sym c.has_room.ensures ∙ c.if-not-has_room.true))

pub returns-clause-written : goal.returns-clause-written
returns-clause-written c =
    let a = c.args in
    let room = leb-true _ _ (sym c.has_room.ensures ∙ c.if-not-has_room.false) in
    let l = length-spelled a.width a.sign a.n in
    written-if-room (spelled a.width a.sign a.n) _ _ (rw l room) (part-written _ _ a.self.now a.width (rw (length-part a.self.now a.width room) at c.put_number.ensures) l room)

pub returns-clause-kept_outside : goal.returns-clause-kept_outside
returns-clause-kept_outside c =
    let a = c.args in
    let room = leb-true _ _ (sym c.has_room.ensures ∙ c.if-not-has_room.false) in
    let l = length-spelled a.width a.sign a.n in
    kept-outside _ _ _ a.width l (part-written _ _ a.self.now a.width (rw (length-part a.self.now a.width room) at c.put_number.ensures) l room)
