-- The judgment of a storey (document 01, "Storey and building", "Refusals as returned"; document 02, N3): any storey record with any rows of members. What goes by
-- load case takes the case l, counted from 0.
use Rattle.std.specs.Prelude.{◌+◌, ◌*◌, ◌&&◌, ◌||◌, ◌∷◌, ◌++◌}
use Rattle.records.specs.Notation.{ℕ, Bool, List, [], leb, ltb, eqb, length, pick, in_order, total, any_of, any_below, first}
use Rattle.records.specs.{declared.Storey.Storey, declared.Member.Member, Records.in_cases, Records.known_form, Records.case_count, Records.shear_of, Records.case_of, Records.in_case, Records.storey_fault}
use Rattle.checks.specs.Rows.{count_fault, member_rows_fault}
use Rattle.members.specs.{declared.tables.Share.Share, declared.tables.LimitSet.LimitSet, Tables.published, Tables.published_share}
use Rattle.members.specs.Finding.{axial, finding_by, knowledge, flag, Returned, found, refused}
use Rattle.totals.specs.{declared.StoreyFinding.StoreyFinding, Share.exceeds_share, Share.share_of, Totals.wall_shear}
use Rattle.std.specs.Prelude.{Result, Ok, Err}
use Rattle.records.specs.declared.by_case.{FourCases.FourCases, ByForm.ByForm, ByForm.TheVariants.One, ByForm.TheVariants.Four}
use Rattle.storeys.specs.declared.StoreyJudgment.{StoreyJudgment}

-- what a survey is judged by: the limits of the members, and the allowed share of a storey
pub record Rules : Type 0 where
  pub limits : LimitSet
  pub share : Share

-- the rules that documents 01 and 02 publish
abbrev pub published_rules : Rules
published_rules = record { limits = published; share = published_share }

-- "a storey whose walls' V total ≥ 0.40 × storey shear": all walls count, over or not
unfoldable pub meets_wall_share : ℕ → ℕ → List Member → Bool
meets_wall_share l w ms = leb (2 * w) (5 * total (λ m. wall_shear (in_case l m)) ms)

-- "Σ the total of n_D": "N_D enter[s] once", the same in every case
abbrev pub member_axial : Member → ℕ
member_axial m = (axial m.nd m.fcm m.area).0

unfoldable pub axial_total_of : List Member → ℕ
axial_total_of ms = total member_axial ms

-- a member is over, judged with k and the 0.40 condition of its storey
abbrev pub over : Rules → ℕ → Bool → ℕ → Member → Bool
over rules k met l m = (finding_by rules.limits k met (in_case l m)).over

-- the V of a member that is over, and of another nothing
abbrev pub shear_if_over : Rules → ℕ → Bool → ℕ → Member → ℕ
shear_if_over rules k met l m = pick (over rules k met l m) (case_of l m).shear 0

-- "P the total of V over members that are over"
unfoldable pub over_shear_of : Rules → ℕ → Bool → ℕ → List Member → ℕ
over_shear_of rules k met l ms = total (shear_if_over rules k met l) ms

-- "some member is over"
unfoldable pub some_over : Rules → ℕ → Bool → ℕ → List Member → Bool
some_over rules k met l ms = any_of (over rules k met l) ms

-- "h being the numbers of members with each damage kind"
unfoldable pub damaged : ℕ → List Member → ℕ
damaged kind ms = total (λ m. flag (eqb m.damage kind)) ms

-- "20 × h1 + 28 × h2 + 35 × h3 + 140 × h4 ≥ 7 × c"
unfoldable pub risky_by_damage : List Member → Bool
risky_by_damage ms = leb (7 * length ms) (20 * damaged 1 ms + 28 * damaged 2 ms + 35 * damaged 3 ms + 140 * damaged 4 ms)

-- the three rules by which a storey is Risky in case l with the storey shear w: "P / W exceeds it; or Σ > 65,000 × c and some member is over; or" by its damage
abbrev pub risky_by_share : Rules → ℕ → ℕ → ℕ → List Member → Bool
risky_by_share rules k l w ms = exceeds_share rules.share (axial_total_of ms) (length ms) (over_shear_of rules k (meets_wall_share l w ms) l ms) w

abbrev pub risky_by_one_over : Rules → ℕ → ℕ → ℕ → List Member → Bool
risky_by_one_over rules k l w ms = ltb (rules.share.second.at * length ms) (axial_total_of ms) && some_over rules k (meets_wall_share l w ms) l ms

-- Risky in case l: "One Risky by damage is so in every case" (document 02, N3)
unfoldable pub case_risky : Rules → ℕ → ℕ → ℕ → List Member → Bool
case_risky rules k l w ms = risky_by_share rules k l w ms || (risky_by_one_over rules k l w ms || risky_by_damage ms)

-- "A storey is Risky when it is in some case" (document 02, N3)
unfoldable pub storey_risky : Rules → ℕ → ℕ → Storey → List Member → Bool
storey_risky rules form k s ms = any_below (λ l. case_risky rules k l (shear_of l s) ms) (case_count form)

-- "that storey's lowest numbered Risky case, 1 in the old form" (document 02, N7); 0 where none is Risky
unfoldable pub lowest_risky_case : Rules → ℕ → ℕ → Storey → List Member → ℕ
lowest_risky_case rules form k s ms = first 0 (λ n. n) (λ l. pick (case_risky rules k l (shear_of l s) ms) (l + 1) 0) (case_count form)

-- what a storey is found to be in case l
unfoldable pub storey_finding : Rules → ℕ → ℕ → ℕ → List Member → StoreyFinding
storey_finding rules k l w ms =
    record {
      axial_total = axial_total_of ms;
      members = length ms;
      over_shear = over_shear_of rules k (meets_wall_share l w ms) l ms;
      shear = w;
      risky = case_risky rules k l w ms;
      walls_suffice = meets_wall_share l w ms;
      by_share = risky_by_share rules k l w ms;
      by_one_over = risky_by_one_over rules k l w ms;
      by_damage = risky_by_damage ms;
      allowed = share_of rules.share (axial_total_of ms) (length ms);
    }

-- in case l, with that case's storey shear
abbrev pub finding_in : Rules → ℕ → Storey → List Member → ℕ → StoreyFinding
finding_in rules k s ms l = storey_finding rules k l (shear_of l s) ms

-- in each of four cases
abbrev pub storey_findings : Rules → ℕ → Storey → List Member → FourCases StoreyFinding
storey_findings rules k s ms =
    record {
      case1 = finding_in rules k s ms 0;
      case2 = finding_in rules k s ms 1;
      case3 = finding_in rules k s ms 2;
      case4 = finding_in rules k s ms 3;
    }

-- 3, k not one of the two levels, or a form that is not known
abbrev pub level_fault : ℕ → ℕ → ℕ
level_fault k form = pick (knowledge k && known_form form) 0 3

-- the first refusal of the call on a storey: 1, k's and the form's 3, the storey's 3, its members' 3, 4 and 5
unfoldable pub storey_call_fault : ℕ → ℕ → Storey → List Member → ℕ
storey_call_fault k form s ms = in_order (count_fault s.count (length ms) ∷ level_fault k form ∷ storey_fault form s ∷ member_rows_fault form ms ∷ [])

-- what is found of a good storey of a form: whether it is Risky, and in each case of the form
abbrev pub judged_by : Rules → ℕ → ℕ → Storey → List Member → StoreyJudgment
judged_by rules k form s ms =
    record {
      risky = storey_risky rules form k s ms;
      findings = pick (in_cases form) (Four (storey_findings rules k s ms)) (One (finding_in rules k s ms 0));
    }

-- the finding, or the number of the first refusal
unfoldable pub storey_answer_by : Rules → ℕ → ℕ → Storey → List Member → Result StoreyJudgment ℕ
storey_answer_by rules k form s ms =
    pick (eqb (storey_call_fault k form s ms) 0) (Ok (judged_by rules k form s ms)) (Err (storey_call_fault k form s ms))

-- the values of a finding: those of a printed storey after its number, the 0.40 condition, by which of the three rules it is Risky, and the allowed share's two numbers
abbrev pub finding_values : StoreyFinding → List ℕ
finding_values f =
    f.axial_total ∷ f.members ∷ f.over_shear ∷ f.shear ∷ flag f.risky ∷ flag f.walls_suffice
    ∷ flag f.by_share ∷ flag f.by_one_over ∷ flag f.by_damage ∷ f.allowed.num ∷ f.allowed.den ∷ []

-- in each case of the form
abbrev pub findings_values : ByForm StoreyFinding → List ℕ
findings_values (One f) = finding_values f
findings_values (Four f) = finding_values f.case1 ++ (finding_values f.case2 ++ (finding_values f.case3 ++ finding_values f.case4))

-- what each case of the answer says: whether the storey is Risky, and the values in each case of the form
abbrev pub returned_storey : Result StoreyJudgment ℕ → Returned
returned_storey (Ok j) = found (flag j.risky ∷ findings_values j.findings)
returned_storey (Err n) = refused n

-- what the paper returns, by the published rules
abbrev pub storey_returned : ℕ → ℕ → Storey → List Member → Returned
storey_returned k form s ms = returned_storey (storey_answer_by published_rules k form s ms)
