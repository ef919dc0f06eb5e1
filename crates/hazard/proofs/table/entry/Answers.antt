use Rattle.members.specs.Limits.{interp}
use Rattle.hazard.specs.Site.{between, entry_exact}
use Rattle.hazard.proofs.Entries.{numbers, entry-is}
use borrow.Author.Rules.{rules}
use Rattle.hazard.proofs.table.entry.Goals as goal

-- one test over the table: it is the list of the linear values
pub returns : goal.returns
unfolding numbers interp between entry_exact
returns c = entry-is c.args.k c.from.result (search rules) c.from.ensures
