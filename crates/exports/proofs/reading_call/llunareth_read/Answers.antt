use Rattle.std.proofs.Common.{ap, length}
use Rattle.exports.specs.Calls.{reading_returned}
use Rattle.exports.proofs.Lines.{line-most}
use Rattle.exports.proofs.reading_call.llunareth_read.Goals as goal

pub put_reading-requires : goal.put_reading-requires
put_reading-requires c =
    let a = c.args in
    rw (ap reading_returned c.read.ensures.answer_value) (line-most a.s.now (length a.storeys.now) (length a.members.now))
