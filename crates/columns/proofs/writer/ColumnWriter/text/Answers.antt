use Rattle.std.proofs.Common.{refl, sym, ◌∙◌}
use borrow.Author.Tests.{leb-true}
use Rattle.columns.proofs.Written.{written-if-room, part-written}
use Rattle.columns.proofs.writer.ColumnWriter.text.Goals as goal

pub returns : goal.returns
returns c =
    let room = leb-true _ _ (sym c.has_room.ensures ∙ c.if-not-has_room.false) in
    written-if-room _ _ _ room (part-written _ _ c.args.self.now _ c.copy_from_slice.ensures.after refl room)
