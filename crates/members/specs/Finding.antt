-- What a member is found to be (document 01, "Member", "Refusals as returned").
use Rattle.std.specs.Prelude.{◌-◌, ◌*◌, ◌&&◌, ◌||◌, ◌∷◌, ◌++◌, Result, Ok, Err}
use Rattle.records.specs.Notation.{ℕ, Bool, true, false, not, List, [], ltb, eqb, pick}
use Rattle.records.specs.{declared.Member.Member, declared.MemberCase.MemberCase, Records.zero_force, Records.in_cases, Records.known_form, Records.in_case, Records.member_case_fault, Records.member_fault}
use Rattle.members.specs.Units.{Ratio, HoopRatio, Microradians, ratio_up, hoop_down}
use Rattle.members.specs.Class.{code, is_wall, shear_below, class_of}
use Rattle.members.specs.{Tables.LimitSet, Tables.published, Limits.m_limit_at, Limits.rotation_limit_at}
use Rattle.records.specs.declared.by_case.{FourCases.FourCases, ByForm.ByForm, ByForm.TheVariants.One, ByForm.TheVariants.Four}
use Rattle.members.specs.declared.finding.Finding.{Finding}

-- "0 where N_K ≤ 0": the compression of a force counted from zero_force
abbrev pub compression : ℕ → ℕ
compression force = force - zero_force

-- "axial n = 10,000,000 × N_K / (f_cm × A_c), up": 1,000 × N_K / (f_cm × A_c) in steps of the grid, ten-thousandths there, hundred-thousandths from N2 on; m and v likewise
unfoldable pub axial : ℕ → ℕ → ℕ → Ratio
axial force fcm area = ratio_up (compression force * 1_000) (fcm * area)

-- "m = 1,000,000 × M_e / (k × M_p), up"
unfoldable pub moment : ℕ → ℕ → ℕ → Ratio
moment k me mp = ratio_up (me * 100) (k * mp)

-- "wall stress v = 100,000,000 × V_e / (short side × d × f_ctm), up"
unfoldable pub stress : ℕ → ℕ → ℕ → ℕ → Ratio
stress ve short depth fctm = ratio_up (ve * 10_000) (short * depth * fctm)

-- "hoop ratio ρ = 1,000,000 × A_sh / (s × b_k), down"
unfoldable pub hoops : ℕ → ℕ → ℕ → HoopRatio
hoops area spacing core = hoop_down area (spacing * core)

-- n; n_D, "likewise from N_D"; m; v; ρ of a member
abbrev pub axial_ratio : MemberCase → Ratio
axial_ratio m = axial m.case.nk m.fcm m.area

abbrev pub axial_ratio_d : MemberCase → Ratio
axial_ratio_d m = axial m.nd m.fcm m.area

abbrev pub moment_ratio : ℕ → MemberCase → Ratio
moment_ratio k m = moment k m.case.me m.case.mp

abbrev pub wall_stress : MemberCase → Ratio
wall_stress m = stress m.case.ve m.short m.depth m.fctm

abbrev pub hoop_ratio : MemberCase → HoopRatio
hoop_ratio m = hoops m.hoops m.spacing m.core

-- the limits of a member: those of its class at its ratios and marks
unfoldable pub m_limit_of : LimitSet → ℕ → MemberCase → Ratio
m_limit_of s k m = m_limit_at s (class_of k m) m.zone m.strengthened m.annex_e (axial_ratio m).0 (wall_stress m).0 (hoop_ratio m).0

unfoldable pub rotation_limit_of : LimitSet → ℕ → MemberCase → Microradians
rotation_limit_of s k m = rotation_limit_at s (class_of k m) m.zone m.strengthened m.annex_e m.factor (axial_ratio m).0 (wall_stress m).0 (hoop_ratio m).0

-- "The m test is dropped for a wall with drift < 7,500 and 100 × V_e < k × V_r, in a storey whose walls' V total ≥ 0.40 × storey shear", which `met` says of the member's storey
unfoldable pub m_dropped_of : ℕ → Bool → MemberCase → Bool
m_dropped_of k met m = met && (is_wall m && (ltb m.case.drift 7_500 && shear_below k m.case.ve m.case.vr))

-- "A member is over when m or rotation exceeds its limit", m only where its test is not dropped
abbrev pub over_m_of : Bool → ℕ → ℕ → Bool
over_m_of dropped m limit = not dropped && ltb limit m

abbrev pub exceeds : Bool → ℕ → ℕ → ℕ → ℕ → Bool
exceeds dropped m limit rotation rotation_limit_of = over_m_of dropped m limit || ltb rotation_limit_of rotation

unfoldable pub is_over : LimitSet → ℕ → Bool → MemberCase → Bool
is_over s k met m = exceeds (m_dropped_of k met m) (moment_ratio k m).0 (m_limit_of s k m).0 m.case.rotation (rotation_limit_of s k m).0

unfoldable pub finding_by : LimitSet → ℕ → Bool → MemberCase → Finding
finding_by s k met m =
    record {
      class = class_of k m;
      m = moment_ratio k m;
      m_limit = m_limit_of s k m;
      rotation = record { 0 = m.case.rotation };
      rotation_limit = rotation_limit_of s k m;
      over = is_over s k met m;
      nd = axial_ratio_d m;
      m_dropped = m_dropped_of k met m;
      over_m = over_m_of (m_dropped_of k met m) (moment_ratio k m).0 (m_limit_of s k m).0;
      over_rotation = ltb (rotation_limit_of s k m).0 m.case.rotation;
    }

-- in each of four load cases, with the 0.40 condition of that case
abbrev pub findings_by : LimitSet → ℕ → FourCases Bool → Member → FourCases Finding
findings_by s k met m =
    record {
      case1 = finding_by s k met.case1 (in_case 0 m);
      case2 = finding_by s k met.case2 (in_case 1 m);
      case3 = finding_by s k met.case3 (in_case 2 m);
      case4 = finding_by s k met.case4 (in_case 3 m);
    }

-- k is one of the two levels
abbrev pub knowledge : ℕ → Bool
knowledge k = eqb k 90 || eqb k 100

-- the answer on a member in one load case: k's 3, then the record's 3 and 4, then the finding
unfoldable pub case_answer_by : LimitSet → ℕ → Bool → MemberCase → Result Finding ℕ
case_answer_by s k met m = pick (knowledge k) (pick (eqb (member_case_fault m) 0) (Ok (finding_by s k met m)) (Err (member_case_fault m))) (Err 3)

-- what is found of a good member of a form
abbrev pub judged_by : LimitSet → ℕ → ℕ → FourCases Bool → Member → ByForm Finding
judged_by s k form met m = pick (in_cases form) (Four (findings_by s k met m)) (One (finding_by s k met.case1 (in_case 0 m)))

-- the answer on one member: "k is checked first, by 3", "the form beside k" (document 02, N3), then the record's 3 and 4, then the findings
unfoldable pub answer_by : LimitSet → ℕ → ℕ → FourCases Bool → Member → Result (ByForm Finding) ℕ
answer_by s k form met m =
    pick (knowledge k && known_form form) (pick (eqb (member_fault form m) 0) (Ok (judged_by s k form met m)) (Err (member_fault form m))) (Err 3)

-- by the published set
abbrev pub finding : ℕ → Bool → MemberCase → Finding
finding = finding_by published

-- what an answer is in the paper's words: the refusal's number, 0 where there is none; its line, 0 on records; and the values found
pub record Returned : Type 0 where
  pub refusal : ℕ
  pub line : ℕ
  pub values : List ℕ

abbrev pub flag : Bool → ℕ
flag true = 1
flag false = 0

abbrev pub found : List ℕ → Returned
found vs = record { refusal = 0; line = 0; values = vs }

abbrev pub refused : ℕ → Returned
refused n = record { refusal = n; line = 0; values = [] }

-- the values of a finding: those of a printed member after its number, n_D, whether the m test is dropped, whether it is over by m and by the rotation
abbrev pub finding_values : Finding → List ℕ
finding_values f =
    code f.class ∷ f.m.0 ∷ f.m_limit.0 ∷ f.rotation.0 ∷ f.rotation_limit.0 ∷ flag f.over ∷ f.nd.0
    ∷ flag f.m_dropped ∷ flag f.over_m ∷ flag f.over_rotation ∷ []

-- what an answer says
abbrev pub returned_case : Result Finding ℕ → Returned
returned_case (Ok f) = found (finding_values f)
returned_case (Err n) = refused n

abbrev pub returned : Result (ByForm Finding) ℕ → Returned
returned (Ok (One f)) = found (finding_values f)
returned (Ok (Four f)) = found (finding_values f.case1 ++ (finding_values f.case2 ++ (finding_values f.case3 ++ finding_values f.case4)))
returned (Err n) = refused n

-- what the paper returns, by the published set
abbrev pub case_returned : ℕ → Bool → MemberCase → Returned
case_returned k met m = returned_case (case_answer_by published k met m)

abbrev pub member_returned : ℕ → ℕ → FourCases Bool → Member → Returned
member_returned k form met m = returned (answer_by published k form met m)
