-- The edges of document 01 as one table, over records of the old form. Each value is one of the answer that the contract of its call cites.
use Rattle.std.specs.Prelude.{ℕ, ◌+◌, Bool, false, List, [], ◌∷◌, map, ◌≡◌, eqb, length, get_or, take}
use Rattle.records.specs.Notation.{pick, listed}
use Rattle.records.specs.Records.{zero_force, no_case, survey_of}
use Rattle.records.specs.declared.Header.{Header}
use Rattle.records.specs.declared.Storey.{Storey}
use Rattle.records.specs.declared.Member.{Member}
use Rattle.records.specs.declared.by_case.FourCases.{FourCases}
use Rattle.members.specs.Finding.{member_returned}
use Rattle.storeys.specs.Storey.{published_rules, storey_returned}
use Rattle.storeys.specs.Building.{building_returned}

-- a member whose n is N_K and whose n_D is N_D, ρ 25 × A_sh, and with a short side of 100 v 10 × V_e
pub record Numbers : Type 0 where
  pub number : ℕ
  pub long : ℕ
  pub short : ℕ
  pub hoops : ℕ
  pub hooks : ℕ
  pub strengthened : ℕ
  pub damage : ℕ
  pub nd : ℕ
  pub nk : ℕ
  pub me : ℕ
  pub ve : ℕ
  pub vr : ℕ
  pub shear : ℕ

abbrev pub edge_member : Numbers → Member
edge_member v =
    record {
      number = v.number;
      long = v.long;
      short = v.short;
      area = 1_000_000;
      fcm = 100;
      fctm = 100;
      fyw = 2_200;
      depth = 1_000;
      height = 3_000;
      spacing = 100;
      core = 400;
      hoops = v.hoops;
      hooks = v.hooks;
      zone = 1;
      strengthened = v.strengthened;
      factor = 100;
      damage = v.damage;
      nd = zero_force + v.nd;
      annex_e = 0;
      cases =
          record { nk = zero_force + v.nk; me = v.me; mp = 100; ve = v.ve; vr = v.vr; shear = v.shear; rotation = 0; drift = 0 }
          ∷ no_case ∷ no_case ∷ no_case ∷ [];
    }

-- columns with n, hooks, the mark, V_e and V_r; a wall with n and V_e
abbrev pub edge_column : ℕ → ℕ → ℕ → ℕ → ℕ → Member
edge_column n hooks strengthened ve vr =
    edge_member (record { number = 1; long = 400; short = 250; hoops = 130; hooks = hooks; strengthened = strengthened; damage = 0; nd = 0; nk = n; me = 0; ve = ve; vr = vr; shear = 0 })

abbrev pub edge_wall : ℕ → ℕ → Member
edge_wall n ve =
    edge_member (record { number = 1; long = 1_000; short = 100; hoops = 130; hooks = 1; strengthened = 0; damage = 0; nd = 0; nk = n; me = 0; ve = ve; vr = 9_999; shear = 0 })

-- column i of a storey with its n_D, moment demand, V and damage kind; with 1,000 it is over, with 0 not
abbrev pub loaded : ℕ → ℕ → ℕ → ℕ → ℕ → Member
loaded i nd me shear damage =
    edge_member (record { number = i; long = 400; short = 250; hoops = 130; hooks = 1; strengthened = 0; damage = damage; nd = nd; nk = 0; me = me; ve = 0; vr = 1; shear = shear })

-- in a storey that does not meet the 0.40 condition
abbrev pub not_met : FourCases Bool
not_met = record { case1 = false; case2 = false; case3 = false; case4 = false }

-- class and limits that a member with k 100 or 90 is answered
abbrev pub limits : ℕ → Member → List ℕ
limits k m =
    let vs = (member_returned k 1 not_met m).values in
    get_or vs 0 0 ∷ get_or vs 2 0 ∷ get_or vs 4 0 ∷ []

abbrev pub class : ℕ → Member → List ℕ
class k m = get_or (member_returned k 1 not_met m).values 0 0 ∷ []

-- Risky, then Σ, c, P, W and Risky in its load case, of a storey with the shear 1,000
abbrev pub edge_storey : List Member → Storey
edge_storey ms = record { number = 1; shears = 1_000 ∷ 0 ∷ 0 ∷ 0 ∷ []; count = length ms }

abbrev pub verdict : List Member → List ℕ
verdict ms = take 6 (storey_returned 100 1 (edge_storey ms) ms).values

-- tilt and Risky of a building with one storey of one member; the place that it names is not asked for
abbrev pub tilt : ℕ → ℕ → List ℕ
tilt t1 t2 =
    let h : Header = record { knowledge = 100; height = 9_000; storeys = 3; tilt1 = t1; tilt2 = t2; count = 1; form = 1 } in
    let ms : List Member = loaded 1 0 0 0 0 ∷ [] in
    take 2 (building_returned published_rules (survey_of h (edge_storey ms ∷ []) ms)).values

-- members 1 to n, the first with damage kind 4
abbrev pub one_damaged : ℕ → List Member
one_damaged n = listed (λ i. loaded (i + 1) 0 0 0 (pick (eqb i 0) 4 0)) n

-- what is answered, beside what document 01 states, on the grid of document 02 (N2)
pub record Edge : Type 0 where
  pub found : List ℕ
  pub stated : List ℕ

abbrev edge : List ℕ → List ℕ → Edge
edge found stated = record { found = found; stated = stated }

unfoldable pub edges : List Edge
edges =
    -- (a) column A, n 35,000
    edge (limits 100 (edge_column 35_000 1 0 60 100)) (1 ∷ 450_000 ∷ 27_500 ∷ [])
    -- (b) column B, n 35,000, ρ 3,250
    ∷ edge (limits 100 (edge_column 35_000 0 0 60 100)) (2 ∷ 318_750 ∷ 15_625 ∷ [])
    -- (c) same, strengthened, factor 100
    ∷ edge (limits 100 (edge_column 35_000 0 1 60 100)) (2 ∷ 239_062 ∷ 11_718 ∷ [])
    -- (d) column C, n 85,000
    ∷ edge (limits 100 (edge_column 85_000 0 0 200 100)) (3 ∷ 100_000 ∷ 2_500 ∷ [])
    -- (e) wall A with zone, n 17,500, v 110,000
    ∷ edge (limits 100 (edge_wall 17_500 1_100)) (4 ∷ 437_500 ∷ 18_750 ∷ [])
    -- (f) k 90, V_r 100, detailed: V_e 63 is A, 64 B
    ∷ edge (class 90 (edge_column 0 1 0 63 100)) (1 ∷ [])
    ∷ edge (class 90 (edge_column 0 1 0 64 100)) (2 ∷ [])
    -- (g) Σ 75,000, c 2: P 175 of 1,000 passes, 176 is Risky
    ∷ edge (verdict (loaded 1 35_000 1_000 175 0 ∷ loaded 2 40_000 0 500 0 ∷ [])) (0 ∷ 75_000 ∷ 2 ∷ 175 ∷ 1_000 ∷ 0 ∷ [])
    ∷ edge (verdict (loaded 1 35_000 1_000 176 0 ∷ loaded 2 40_000 0 500 0 ∷ [])) (1 ∷ 75_000 ∷ 2 ∷ 176 ∷ 1_000 ∷ 1 ∷ [])
    -- (h) Σ = 65,000 × c with one member over of V 0 passes; Σ one more is Risky
    ∷ edge (verdict (loaded 1 65_000 1_000 0 0 ∷ loaded 2 65_000 0 500 0 ∷ [])) (0 ∷ 130_000 ∷ 2 ∷ 0 ∷ 1_000 ∷ 0 ∷ [])
    ∷ edge (verdict (loaded 1 65_001 1_000 0 0 ∷ loaded 2 65_000 0 500 0 ∷ [])) (1 ∷ 130_001 ∷ 2 ∷ 0 ∷ 1_000 ∷ 1 ∷ [])
    -- (i) one damage 4 among 20 is Risky, among 21 not
    ∷ edge (verdict (one_damaged 20)) (1 ∷ 0 ∷ 20 ∷ 0 ∷ 1_000 ∷ 1 ∷ [])
    ∷ edge (verdict (one_damaged 21)) (0 ∷ 0 ∷ 21 ∷ 0 ∷ 1_000 ∷ 0 ∷ [])
    -- (j) tilt 25,000 passes, 25,001 doesn't
    ∷ edge (tilt 25_000 0) (0 ∷ 0 ∷ [])
    ∷ edge (tilt 0 25_001) (1 ∷ 1 ∷ [])
    ∷ []

-- every edge is as document 01 states it
abbrev pub EdgesMet : Type 0
EdgesMet = map (λ e. e.found) edges ≡ map (λ e. e.stated) edges
