-- The records of a survey over rows of any length (document 01, "Refusals as returned": "Calls on records check 1 over all, then records in survey order: 3, 4, 5, 7").
use Rattle.std.specs.Prelude.{◌+◌, ◌∷◌}
use Rattle.records.specs.Notation.{ℕ, zero, suc, List, [], eqb, length, get_or, take, drop, pick, in_order, first, total}
pub use Rattle.records.specs.{declared.Header.Header, declared.Storey.Storey, declared.Member.Member, Records.Survey}
use Rattle.records.specs.{Blank.no_storey, Blank.no_member, Records.header_fault, Records.storey_fault, Records.member_fault, Records.repeated}

-- row j of some members, counted from 0
abbrev pub member_in : List Member → ℕ → Member
member_in ms j = get_or ms j no_member

-- a member's 3 and 4 in its form, then its 5: its number is one of those before it in the storey
unfoldable pub row_fault : ℕ → List Member → ℕ → ℕ
row_fault form ms j = in_order (member_fault form (member_in ms j) ∷ repeated (λ e. (member_in ms e).number) j ∷ [])

-- the first refusal of the members of a storey, in their order
unfoldable pub member_rows_fault : ℕ → List Member → ℕ
member_rows_fault form ms = first 0 (λ n. n) (row_fault form ms) (length ms)

-- storey i, counted from 0
abbrev pub storey_in : List Storey → ℕ → Storey
storey_in ss i = get_or ss i no_storey

-- how many members the storeys before storey i have
unfoldable pub members_before : List Storey → ℕ → ℕ
members_before ss zero = 0
members_before ss (suc i) = members_before ss i + (storey_in ss i).count

-- the members of storey i: after those of the storeys before it, as many as it counts
unfoldable pub members_of : List Storey → List Member → ℕ → List Member
members_of ss ms i = take (storey_in ss i).count (drop (members_before ss i) ms)

-- 1, a count that isn't the rows given
abbrev pub count_fault : ℕ → ℕ → ℕ
count_fault count rows = pick (eqb count rows) 0 1

-- 1: "a count or total of counts that isn't the rows given"
unfoldable pub counts_fault : Survey → ℕ
counts_fault a =
    in_order (count_fault a.header.count (length a.storeys) ∷ count_fault (total (λ s. s.count) a.storeys) (length a.members) ∷ [])

-- storey i: its 3, its 5 (its number is one of those before it), then its members' 3, 4 and 5
unfoldable pub storey_rows_fault : ℕ → List Storey → List Member → ℕ → ℕ
storey_rows_fault form ss ms i =
    in_order (storey_fault form (storey_in ss i) ∷ repeated (λ e. (storey_in ss e).number) i ∷ member_rows_fault form (members_of ss ms i) ∷ [])

-- the first refusal of a survey's records: "1 over all, then records in survey order: 3, 4, 5, 7"
unfoldable pub records_fault : Survey → ℕ
records_fault a =
    in_order
    (counts_fault a ∷ header_fault a.header ∷ first 0 (λ n. n) (storey_rows_fault a.header.form a.storeys a.members) (length a.storeys) ∷ [])
