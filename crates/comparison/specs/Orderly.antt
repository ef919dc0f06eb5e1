-- The rules, and the conditions on walls, for which demand 3 is proved.
use Rattle.std.specs.Prelude.{ℕ, ◌≤◌, ◌<◌, Bool, true, ◌&&◌, ◌≡◌, leb, ltb}
use Rattle.records.specs.Valid.{Valid}
use Rattle.records.specs.declared.MemberCase.{MemberCase}
use Rattle.members.specs.declared.tables.LimitSet.{LimitSet}
use Rattle.members.specs.Class.{is_wall}
use Rattle.members.specs.Finding.{m_limit_of, rotation_limit_of}
use Rattle.members.specs.Ordered.{ordered_set}
use Rattle.storeys.specs.Storey.{Rules}
use Rattle.comparison.specs.Demand3.{WallCondition, AtLeastAsSevereIn}

-- rules that keep the order of the load: limits in order, and rows of the share that rise while their shares do not
abbrev pub orderly : Rules → Bool
orderly rules = ordered_set rules.limits && (ltb rules.share.first.at rules.share.second.at && leb rules.share.second.limit rules.share.first.limit)

-- a condition under which, by a set, no wall has a limit above its partner's
abbrev pub LimitsFall : WallCondition → LimitSet → Type 0
LimitsFall walls set =
    (k : ℕ) (m n : MemberCase) → 0 < k → Valid m → Valid n → AtLeastAsSevereIn walls k m n → is_wall m ≡ true → ((m_limit_of set k n).0 ≤ (m_limit_of set k m).0) × ((rotation_limit_of set k n).0 ≤ (rotation_limit_of set k m).0)
