use Rattle.std.proofs.Common.{arith}
use Rattle.format.proofs.Digits.{blanks-left, digits-more, last-signed, last-unsigned, digits-end}
use Rattle.format.proofs.spelling.put_digits.Goals as goal

pub returns-then-i-gt0 : goal.returns-then-i-gt0
returns-then-i-gt0 c = let l = c.loop-i in last-signed l.rest _ l.i l.columns _ c.if-i-gt0.true c.if-rest-lt10.true l.invariant.blanks l.invariant.digits

pub returns-else-i-gt0 : goal.returns-else-i-gt0
returns-else-i-gt0 c = let l = c.loop-i in last-unsigned l.rest _ l.i l.columns _ c.loop-i-test.true c.if-i-gt0.false c.if-rest-lt10.true l.invariant.blanks l.invariant.digits

pub loop-i-preserved : goal.loop-i-preserved
loop-i-preserved c =
    let l = c.loop-i in record {
      blanks = blanks-left l.rest l.i l.columns c.loop-i-test.true l.invariant.blanks;
      digits = digits-more l.rest _ l.i l.columns _ c.loop-i-test.true c.if-rest-lt10.false l.invariant.blanks l.invariant.digits;
    }

pub returns : goal.returns
returns c = let l = c.loop-i in digits-end l.columns _ l.i _ l.rest (omega arith) l.invariant.digits
