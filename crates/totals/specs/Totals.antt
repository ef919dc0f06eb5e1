-- A storey's finding from the totals of its members, added up one member after another (document 01, "Storey and building"): for a pass that judges each member
-- once. Any numbers may be handed in. Numbers past what good records give are not added, so that no sum wraps; of good records the finding is `storey_finding`.
use Rattle.std.specs.Prelude.{◌+◌, ◌*◌, ◌≤◌, ◌<◌, ◌&&◌, ◌||◌}
use Rattle.records.specs.Notation.{ℕ, Bool, true, false, leb, ltb, eqb, pick}
use Rattle.records.specs.declared.MemberCase.{MemberCase}
use Rattle.members.specs.{declared.finding.Finding.Finding, declared.tables.Share.Share, Units.ratio_cap, Class.is_wall, Tables.published_share, Finding.flag}
use Rattle.totals.specs.{declared.StoreyFinding.StoreyFinding, declared.Tally.Tally, Share.exceeds_share, Share.share_of}

-- the most members of a storey, the most that the field of a shear holds, and what no total of so many members passes
abbrev pub members_most : ℕ
members_most = 200

abbrev pub shear_most : ℕ
shear_most = 9_999_999

abbrev pub total_most : ℕ
total_most = 2_000_000_000

-- "20 × h1 + 28 × h2 + 35 × h3 + 140 × h4": what a member with damage of a kind adds
abbrev pub weight_of : ℕ → ℕ
weight_of kind = 20 * flag (eqb kind 1) + 28 * flag (eqb kind 2) + 35 * flag (eqb kind 3) + 140 * flag (eqb kind 4)

-- the totals of no member
abbrev pub no_tally : Tally
no_tally = record { members = 0; axial_total = 0; over_shear = 0; some = false; damage = 0 }

-- the totals with one member more: whether it is over, and its n_D
abbrev pub added_by : Tally → Bool → ℕ → MemberCase → Tally
added_by t o nd m =
    record {
      members = t.members + 1;
      axial_total = t.axial_total + nd;
      over_shear = t.over_shear + pick o m.case.shear 0;
      some = t.some || o;
      damage = t.damage + weight_of m.damage;
    }

-- the totals take a member with this n_D and V: they are of fewer than 200, and no number is past its most
abbrev pub takes_one : Tally → ℕ → ℕ → Bool
takes_one t nd shear =
    ltb t.members members_most
    && (leb t.axial_total total_most && (leb t.over_shear total_most && (leb t.damage total_most && (leb nd ratio_cap && leb shear shear_most))))

-- totals that leave room for one member more
pub record AddsNumbers (t : Tally) (nd : ℕ) (m : MemberCase) : Type 0 where
  pub fewer : t.members < members_most
  pub axial-total : t.axial_total ≤ total_most
  pub over-shear : t.over_shear ≤ total_most
  pub damage : t.damage ≤ total_most
  pub ratio : nd ≤ ratio_cap
  pub shear : m.case.shear ≤ shear_most

-- the totals with the finding of a member; a 201st changes nothing
unfoldable pub with_finding : Tally → Finding → MemberCase → Tally
with_finding t f m = pick (takes_one t f.nd.0 m.case.shear) (added_by t f.over f.nd.0 m) t

-- "Σ > 65,000 × c and some member is over"
abbrev pub one_over : Share → Tally → Bool
one_over share t = ltb (share.second.at * t.members) t.axial_total && t.some

-- a number is past its most
abbrev pub past_most : ℕ → Tally → Bool
past_most w t = ltb members_most t.members || (ltb total_most t.over_shear || ltb shear_most w)

-- the finding in a case with the storey shear w, from the totals of the members, by a share
abbrev pub within_most : Share → ℕ → Bool → Tally → StoreyFinding
within_most share w met t =
    let over_share = exceeds_share share t.axial_total t.members t.over_shear w in
    let damage_high = leb (7 * t.members) t.damage in
    record {
      axial_total = t.axial_total;
      members = t.members;
      over_shear = t.over_shear;
      shear = w;
      risky = over_share || (one_over share t || damage_high);
      walls_suffice = met;
      by_share = over_share;
      by_one_over = one_over share t;
      by_damage = damage_high;
      allowed = share_of share t.axial_total t.members;
    }

-- where a number is past its most: Risky, by none of the rules, and no share is allowed
abbrev pub beyond_most : ℕ → Bool → Tally → StoreyFinding
beyond_most w met t =
    record {
      axial_total = t.axial_total;
      members = t.members;
      over_shear = t.over_shear;
      shear = w;
      risky = true;
      walls_suffice = met;
      by_share = false;
      by_one_over = false;
      by_damage = false;
      allowed = record { num = 0; den = 1 };
    }

-- by the published share
unfoldable pub found_by : ℕ → Bool → Tally → StoreyFinding
found_by w met t = pick (past_most w t) (beyond_most w met t) (within_most published_share w met t)

-- the V of a wall, and of a column nothing
abbrev pub wall_shear : MemberCase → ℕ
wall_shear m = pick (is_wall m) m.case.shear 0

-- the walls' V so far, with one member more; past its most nothing is added
abbrev pub added_wall : ℕ → MemberCase → ℕ
added_wall t m = pick (leb t total_most && leb m.case.shear shear_most) (t + wall_shear m) t

-- "walls' V total ≥ 0.40 × storey shear"; never of a shear past its most
abbrev pub met_by : ℕ → ℕ → Bool
met_by w walls = leb w shear_most && leb (2 * w) (5 * walls)
