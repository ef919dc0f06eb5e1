use Rattle.std.proofs.Common.{arith}
use Rattle.hazard.proofs.Sites.{is_site}
use Rattle.hazard.proofs.site.SiteClass.site.Goals as goal

pub overflow_mul-result : goal.overflow_mul-result
overflow_mul-result c =
    let s = is_site c.args.self c.args.motion.motion _ _ c.args.motion.in_range c.factor-fs.ensures c.factor-f1.ensures in
    omega (arith, s.sized.sds-most)

pub overflow_mul-result-2 : goal.overflow_mul-result-2
overflow_mul-result-2 c =
    let s = is_site c.args.self c.args.motion.motion _ _ c.args.motion.in_range c.factor-fs.ensures c.factor-f1.ensures in
    omega (arith, s.sized.sd1-most)

pub returns-clause-value : goal.returns-clause-value
returns-clause-value c = (is_site c.args.self c.args.motion.motion _ _ c.args.motion.in_range c.factor-fs.ensures c.factor-f1.ensures).value

pub returns-clause-sized : goal.returns-clause-sized
returns-clause-sized c = (is_site c.args.self c.args.motion.motion _ _ c.args.motion.in_range c.factor-fs.ensures c.factor-f1.ensures).sized
