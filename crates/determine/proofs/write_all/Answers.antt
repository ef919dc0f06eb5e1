use Rattle.std.proofs.Common.{rules}
use Rattle.determine.proofs.Moves.{moving, written_more}
use Rattle.determine.proofs.write_all.Goals as goal

pub loop-done-preserved : goal.loop-done-preserved
loop-done-preserved g c = (
  search rules,
  written_more c.write.result c.in-Some.n c.loop-done.done _ _ _ c.args.bytes.now (cc) c.write.ensures.bound c.loop-done.invariant.1 c.write.ensures.bytes,
  moving c.write.result _ c.in-Some.n (cc) c.write.ensures.last,
)
