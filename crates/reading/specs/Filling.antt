-- The lent rows while they are filled: for the proofs of inner functions.
use Rattle.std.specs.Prelude.{ℕ, zero, suc, ◌+◌, List, set}
use Rattle.records.specs.declared.Member.{Member}
use Rattle.reading.specs.Survey.{members_before, storey, member}

-- rows k, k + 1, .. of a list are f 0, f 1, ..: n of them
unfoldable pub placed : {A : Type 0} → (ℕ → A) → ℕ → ℕ → List A → List A
placed f k zero rows = rows
placed f k (suc n) rows = set (placed f k n rows) (k + n) (f n)

-- the rows with the members of the first n storeys in front
unfoldable pub filled_members : ℕ → List ℕ → ℕ → List Member → List Member
filled_members form s zero rows = rows
filled_members form s (suc i) rows = placed (member form s i) (members_before form s i) (storey form s i).count (filled_members form s i rows)
