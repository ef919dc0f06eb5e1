use mathlib.Core.Path.{◌≡◌}
use lib.ListN.{length}
use denote.RattleType.{Valss, owns}
use denote.Shadow.{shadow}
use denote.Struct.Declared.{fields}
use Rattle.records.specs.declared.Member.{Member}
use Rattle.records.specs.declared.Storey.{Storey}
use Rattle.records.specs.contracts.Member as M
use Rattle.records.specs.contracts.Storey as T

-- a record that a function is passed by value has four cases, four shears: the record's part of `.good` says so
pub four-cases : (m : Member) (vs : Valss (fields M.the_type)) → shadow (owns (fields M.the_type) ((M.the_type).to m) vs) → length m.cases ≡ 4
four-cases m vs g = g.1.1.1.1.1.1.1.1.1.1.1.1.1.1.1.1.1.1.1.0.1.0.1

pub four-shears : (s : Storey) (vs : Valss (fields T.the_type)) → shadow (owns (fields T.the_type) ((T.the_type).to s) vs) → length s.shears ≡ 4
four-shears s vs g = g.1.0.1.0.1
