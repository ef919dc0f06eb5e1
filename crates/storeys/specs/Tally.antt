-- The totals of some members taken together, and what the functions that add them up need: for the proofs of inner functions, and for passes over a storey's members.
use Rattle.std.specs.Prelude.{ℕ, ◌+◌, ◌*◌, ◌≤◌, ◌<◌, Bool, true, List, [], ◌∷◌, ◌≡◌, length}
use Rattle.records.specs.Records.{in_case, member_case_fault}
use Rattle.records.specs.declared.Member.{Member}
use Rattle.records.specs.declared.MemberCase.{MemberCase}
use Rattle.members.specs.Finding.{axial_ratio_d, finding, knowledge}
use Rattle.storeys.specs.Storey.{published_rules, axial_total_of, over_shear_of, some_over, damaged}
use Rattle.totals.specs.{declared.Tally.Tally, Totals.members_most, Totals.total_most, Totals.added_by, Totals.added_wall, Totals.met_by}

-- the totals with one good member more
unfoldable pub with_member : Tally → ℕ → Bool → MemberCase → Tally
with_member t k met m = added_by t (finding k met m).over (axial_ratio_d m).0 m

-- the totals of some members in case l
unfoldable pub tally_of : ℕ → Bool → ℕ → List Member → Tally
tally_of k met l ms =
    record {
      members = length ms;
      axial_total = axial_total_of ms;
      over_shear = over_shear_of published_rules k met l ms;
      some = some_over published_rules k met l ms;
      damage = 20 * damaged 1 ms + 28 * damaged 2 ms + 35 * damaged 3 ms + 140 * damaged 4 ms;
    }

-- totals that leave room for one good member more
pub record AddsUp (t : Tally) (k : ℕ) (m : MemberCase) : Type 0 where
  pub knowledge-level : knowledge k ≡ true
  pub good : member_case_fault m ≡ 0
  pub fewer : t.members < members_most
  pub axial-total : t.axial_total ≤ total_most
  pub over-shear : t.over_shear ≤ total_most
  pub damage : t.damage ≤ total_most

-- the walls' V of some members in case l, from t on
unfoldable pub walls_from : ℕ → ℕ → List Member → ℕ
walls_from t l [] = t
walls_from t l (m ∷ ms) = walls_from (added_wall t (in_case l m)) l ms

-- the 0.40 condition by them
unfoldable pub walls_suffice_of : ℕ → ℕ → List Member → Bool
walls_suffice_of l w ms = met_by w (walls_from 0 l ms)
