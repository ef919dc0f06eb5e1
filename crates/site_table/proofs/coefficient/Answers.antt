use Rattle.std.proofs.Common.{arith}
use Rattle.site_table.proofs.Computed.{listed, short-entry, long-entry}
use Rattle.site_table.proofs.coefficient.Goals as goal

pub returns-then-k-lt-SHORT_NUMBERS : goal.returns-then-k-lt-SHORT_NUMBERS
unfolding listed
returns-then-k-lt-SHORT_NUMBERS c = short-entry _ _ (omega arith) c.number.ensures

pub returns-else-k-lt-SHORT_NUMBERS : goal.returns-else-k-lt-SHORT_NUMBERS
unfolding listed
returns-else-k-lt-SHORT_NUMBERS c = long-entry _ _ (omega arith) (omega arith) c.number-else-k-lt-SHORT_NUMBERS.ensures
