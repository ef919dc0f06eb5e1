-- Conditions of demand 3 (document 00) that it cannot do without: for each of these, two surveys that break it alone, the first building Risky and the
-- second not.
use Rattle.std.specs.Prelude.{ℕ, ◌+◌, List, [], ◌∷◌, ◌++◌, map, ◌≡◌, take}
use Rattle.records.specs.Records.{zero_force, no_case}
use Rattle.storeys.specs.Storey.{published_rules}
use Rattle.storeys.specs.Building.{building_returned}
use Rattle.comparison.specs.Demand3.{Survey}

-- what the surveys below differ in
pub record Given : Type 0 where
  pub k : ℕ
  pub storey_shear : ℕ
  pub long : ℕ
  pub short : ℕ
  pub fcm : ℕ
  pub fyw : ℕ
  pub hooks : ℕ
  pub strengthened : ℕ
  pub annex_e : ℕ
  pub nk : ℕ
  pub me : ℕ
  pub ve : ℕ
  pub vr : ℕ
  pub shear : ℕ
  pub rotation : ℕ
  pub drift : ℕ

-- a building of one storey with one member
abbrev pub needed_survey : Given → Survey
needed_survey g =
    record {
      header = record { knowledge = g.k; height = 9_000; storeys = 3; tilt1 = 0; tilt2 = 0; count = 1; form = 1 };
      storeys = record { number = 1; shears = g.storey_shear ∷ 0 ∷ 0 ∷ 0 ∷ []; count = 1 } ∷ [];
      members =
          record {
            number = 1;
            long = g.long;
            short = g.short;
            area = 100_000;
            fcm = g.fcm;
            fctm = 100;
            fyw = g.fyw;
            depth = 1_000;
            height = 3_000;
            spacing = 100;
            core = 400;
            hoops = 130;
            hooks = g.hooks;
            zone = 0;
            strengthened = g.strengthened;
            factor = 100;
            damage = 0;
            nd = zero_force;
            annex_e = g.annex_e;
            cases =
                record {
                  nk = zero_force + g.nk;
                  me = g.me;
                  mp = 100;
                  ve = g.ve;
                  vr = g.vr;
                  shear = g.shear;
                  rotation = g.rotation;
                  drift = g.drift;
                }
                ∷ no_case ∷ no_case ∷ no_case ∷ [];
          }
          ∷ [];
    }

-- columns with k, W, f_cm, hooks, strengthened, N_K, M_e, V_r and rotation; walls with N_K, M_e, V_r, V and drift; with k 100 m is 1,000 × M_e
abbrev pub needed_column : ℕ → ℕ → ℕ → ℕ → ℕ → ℕ → ℕ → ℕ → ℕ → Given
needed_column k w fcm hooks strengthened nk me vr rotation =
    record {
      k = k;
      storey_shear = w;
      long = 400;
      short = 250;
      fcm = fcm;
      fyw = 1_846;
      hooks = hooks;
      strengthened = strengthened;
      annex_e = 0;
      nk = nk;
      me = me;
      ve = 100;
      vr = vr;
      shear = 351;
      rotation = rotation;
      drift = 0;
    }

abbrev pub needed_wall : ℕ → ℕ → ℕ → ℕ → ℕ → Given
needed_wall nk me vr shear drift =
    record {
      k = 100;
      storey_shear = 1_000;
      long = 1_000;
      short = 100;
      fcm = 100;
      fyw = 1_846;
      hooks = 0;
      strengthened = 0;
      annex_e = 0;
      nk = nk;
      me = me;
      ve = 900;
      vr = vr;
      shear = shear;
      rotation = 0;
      drift = drift;
    }

-- a strengthened wall of class B, detailed to annex E or not
abbrev pub needed_strengthened : ℕ → Given
needed_strengthened annex_e =
    record {
      k = 100;
      storey_shear = 1_000;
      long = 1_000;
      short = 100;
      fcm = 100;
      fyw = 1_846;
      hooks = 0;
      strengthened = 1;
      annex_e = annex_e;
      nk = 0;
      me = 300;
      ve = 900;
      vr = 900;
      shear = 1_000;
      rotation = 0;
      drift = 7_500;
    }

-- two surveys, the second worse but for one condition
pub record Pair : Type 0 where
  pub one : Given
  pub other : Given

abbrev pair : Given → Given → Pair
pair one other = record { one = one; other = other }

unfoldable pub needed : List Pair
needed =
    -- equal knowledge level: a higher one lowers m, here of a column C with the limit 100,000
    pair (needed_column 90 1_000 100 0 0 0 95 60 0) (needed_column 100 1_000 100 0 0 0 95 60 0)
    -- equal storey shears: more of it lowers the share, 351 of 1,000
    ∷ pair (needed_column 100 1_000 100 0 0 0 999 60 0) (needed_column 100 2_000 100 0 0 0 999 60 0)
    -- equal strengths: with f_cm 99 the hoops suffice, and the column is A and no longer B
    ∷ pair (needed_column 100 1_000 100 1 0 0 500 1_000 0) (needed_column 100 1_000 99 1 0 0 500 1_000 0)
    -- no strengthened column C unless its partner is: B is cut to 75,000, C stands at 100,000
    ∷ pair (needed_column 100 1_000 100 0 1 7_000 80 100 0) (needed_column 100 1_000 100 0 1 7_000 80 90 0)
    -- no rotation lower
    ∷ pair (needed_column 100 1_000 100 0 0 0 0 60 99_999) (needed_column 100 1_000 100 0 0 0 0 60 0)
    -- every wall its partner's class: without boundary zone B is milder than A, 500,000 and 450,000
    ∷ pair (needed_wall 1_000 470 901 1_000 7_500) (needed_wall 1_000 470 900 1_000 7_500)
    -- equal wall shears: with 400 of 1,000 the m test is dropped
    ∷ pair (needed_wall 0 999 901 399 0) (needed_wall 0 999 901 400 0)
    -- "the new field counts among the equal marks" (document 02, N6): 250,000 where the wall is not detailed to annex E, 500,000 where it is
    ∷ pair (needed_strengthened 0) (needed_strengthened 1)
    ∷ []

-- the refusal, tilt and Risky that the call on a building answers
abbrev pub answer : Given → List ℕ
answer g =
    let a : Survey = needed_survey g in
    let r = building_returned published_rules a in
    r.refusal ∷ take 2 r.values

-- all are accepted, and each time the first building is Risky and the second not
abbrev pub AllNeeded : Type 0
AllNeeded = map (λ p. answer p.one ++ answer p.other) needed ≡ map (λ p. 0 ∷ 0 ∷ 1 ∷ 0 ∷ 0 ∷ 0 ∷ []) needed
