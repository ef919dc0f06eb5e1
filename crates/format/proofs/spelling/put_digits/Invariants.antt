use Rattle.std.proofs.Common.{◌≡◌, ◌++◌, length, drop, replicate}
use Rattle.format.specs.Spelling.{spelled}
use Rattle.format.proofs.spelling.put_digits.Given as goal

abbrev pub invariant-loop-i : goal.invariant-loop-i
invariant-loop-i l = record {
  blanks : l.columns ≡ replicate l.i 32 ++ drop l.i l.columns;
  digits : spelled (length l.initial.columns) l.sign l.n ≡ spelled l.i l.sign l.rest ++ drop l.i l.columns;
}
