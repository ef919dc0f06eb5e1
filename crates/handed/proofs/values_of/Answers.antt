use Rattle.std.proofs.Common.{rules, tests}
use Rattle.handed.specs.Handed.{handed}
use Rattle.records.proofs.Made.{made_list}
use Rattle.handed.proofs.values_of.Goals as goal

pub returns : goal.returns
returns c = made_list _ _ (handed c.args.values.now) c.from_fn.result 27 c.from_fn.ensures.items (λ x y q w. search (rules, tests))
