use Rattle.storeys.proofs.Loops.{Going}
use Rattle.storeys.proofs.good_storey.GoodStorey.tally.Given as goal

abbrev pub invariant-loop-m : goal.invariant-loop-m
invariant-loop-m l = Going l.self.level.hundredths l.met l.c l.self.members.now l.tally l.m-index
