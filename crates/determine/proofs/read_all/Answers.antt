use Rattle.std.proofs.Common.{rules}
use Rattle.determine.proofs.Moves.{moving, read_more}
use Rattle.determine.proofs.read_all.Goals as goal

pub loop-done-preserved : goal.loop-done-preserved
loop-done-preserved g c = (
  search rules,
  read_more c.read.result c.in-Some.n c.loop-done.done _ _ _ _ c.loop-done.buffer c.read.new.buffer (cc) c.read.ensures.bound (search rules) c.loop-done.invariant.1 c.read.ensures.bytes,
  moving c.read.result _ c.in-Some.n (cc) c.read.ensures.last,
)
