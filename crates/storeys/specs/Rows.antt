-- The rows that the calls judge.
use Rattle.std.specs.Prelude.{ℕ, ◌≤◌, ◌<◌, List, ◌≡◌, length}
use Rattle.records.specs.Records.{storey_fault}
use Rattle.records.specs.declared.{Storey.Storey, Member.Member}
use Rattle.checks.specs.Rows.{member_rows_fault, storey_in, members_of}

-- the members of a storey: good ones of a form, 200 at most
pub record Rows (form : ℕ) (ms : List Member) : Type 0 where
  pub good : member_rows_fault form ms ≡ 0
  pub most : length ms ≤ 200

-- storeys of a form with the members of all of them: each storey is good, and so are its own members
pub record GoodRows (form : ℕ) (ss : List Storey) (ms : List Member) : Type 0 where
  pub storeys : (i : ℕ) → i < length ss → storey_fault form (storey_in ss i) ≡ 0
  pub members : (i : ℕ) → i < length ss → Rows form (members_of ss ms i)
