-- Demand 3 of the mission: a survey that is nowhere better never clears a member, a storey or a building. Its words, then the claim.
use Rattle.std.specs.Prelude.{◌≤◌, ◌<◌, ◌≡◌, Result, Ok, Err}
use Rattle.records.specs.Notation.{ℕ, Bool, true, false, List, eqb, length, pick, listed}
use Rattle.records.specs.{declared.MemberCase.MemberCase, Records.case_count, Records.shear_of, Records.in_case}
pub use Rattle.records.specs.Records.{Survey}
use Rattle.records.specs.declared.by_case.{FourCases.FourCases, ByForm.ByForm, ByForm.TheVariants.One, ByForm.TheVariants.Four}
use Rattle.members.specs.{declared.class.Class.TheVariants.ColumnC, declared.finding.Finding.Finding, Class.is_wall, Class.class_of, Finding.answer_by}
use Rattle.checks.specs.Rows.{Storey, Member, storey_in, members_of}
use Rattle.storeys.specs.declared.{StoreyJudgment.StoreyJudgment, BuildingFinding.BuildingFinding}
use Rattle.storeys.specs.{Storey.Rules, Storey.published_rules, Storey.meets_wall_share, Storey.storey_answer_by, Building.building_returned, Building.returned_building}
use Rattle.comparison.specs.Pairing.{Pairing, EveryPair}

-- SURVEY, "a header with its storeys and members as records", which are the arguments of the call on a building: `Survey` of records/specs/Records

-- a storey with its members
pub record StoreyMembers : Type 0 where
  pub storey : Storey
  pub members : List Member

abbrev pub storey_members_at : Survey → ℕ → StoreyMembers
storey_members_at a i = record { storey = storey_in a.storeys i; members = members_of a.storeys a.members i }

-- all the storeys of a survey, each with the members that the call on a building gives it
abbrev pub storeys_members : Survey → List StoreyMembers
storeys_members a = listed (storey_members_at a) (length a.storeys)

-- what the calls on a member, a storey and a building answer: what is found, or the number of the refusal
abbrev pub MemberAnswer : Type 0
MemberAnswer = Result (ByForm Finding) ℕ

abbrev pub StoreyAnswer : Type 0
StoreyAnswer = Result StoreyJudgment ℕ

abbrev pub BuildingAnswer : Type 0
BuildingAnswer = Result BuildingFinding ℕ

-- ACCEPTED: "the building call returns no refusal for it"; r is that call's answer
pub record Accepted (rules : Rules) (a : Survey) (r : BuildingAnswer) : Type 0 where
  pub answers : returned_building r ≡ building_returned rules a
  pub no-refusal : (returned_building r).refusal ≡ 0

-- OVER and RISKY: "what the calls on a member, a storey and a building answer, each member judged with the k of its survey and the 0.40
-- condition of its storey"; in case c, counted from 0 (document 02, N3)
abbrev pub in_case_of : {A : Type 0} → ℕ → ByForm A → A
in_case_of c (One f) = f
in_case_of c (Four f) = pick (eqb c 0) f.case1 (pick (eqb c 1) f.case2 (pick (eqb c 2) f.case3 f.case4))

abbrev pub over_in : ℕ → MemberAnswer → Bool
over_in c (Ok f) = (in_case_of c f).over
over_in c (Err n) = false

abbrev pub risky_in : StoreyAnswer → Bool
risky_in (Ok j) = j.risky
risky_in (Err n) = false

abbrev pub case_risky_in : ℕ → StoreyAnswer → Bool
case_risky_in c (Ok j) = (in_case_of c j.findings).risky
case_risky_in c (Err n) = false

abbrev pub building_risky_in : BuildingAnswer → Bool
building_risky_in (Ok f) = f.risky
building_risky_in (Err n) = false

-- the 0.40 condition of a storey, by case
abbrev pub storey_met : StoreyMembers → ℕ → Bool
storey_met f c = meets_wall_share c (shear_of c f.storey) f.members

abbrev pub storey_mets : StoreyMembers → FourCases Bool
storey_mets f = record { case1 = storey_met f 0; case2 = storey_met f 1; case3 = storey_met f 2; case4 = storey_met f 3 }

abbrev pub Over : Rules → Survey → StoreyMembers → ℕ → Member → Type 0
Over rules a f c m = over_in c (answer_by rules.limits a.header.knowledge a.header.form (storey_mets f) m) ≡ true

abbrev pub storey_answer : Rules → Survey → StoreyMembers → StoreyAnswer
storey_answer rules a f = storey_answer_by rules a.header.knowledge a.header.form f.storey f.members

abbrev pub Risky : Rules → Survey → StoreyMembers → Type 0
Risky rules a f = risky_in (storey_answer rules a f) ≡ true

abbrev pub CaseRisky : Rules → Survey → StoreyMembers → ℕ → Type 0
CaseRisky rules a f c = case_risky_in c (storey_answer rules a f) ≡ true

-- PAIRED OFF: "any way of pairing off all their storeys one to one, and each storey's members with those of its partner, in whatever order
-- either lists them"
abbrev pub MemberPairs : List Member → List Member → Type 0
MemberPairs ms ns = Pairing (λ m n. Unit) ms ns

abbrev pub StoreyPairs : Survey → Survey → Type 0
StoreyPairs a b = Pairing (λ f g. MemberPairs f.members g.members) (storeys_members a) (storeys_members b)

-- a condition on a wall and its partner, judged with the level k: "every wall has its partner's class" is the one of the mission
abbrev pub WallCondition : Type 1
WallCondition = ℕ → MemberCase → MemberCase → Type 0

abbrev pub SameClass : WallCondition
SameClass k m n = class_of k m ≡ class_of k n

-- NOWHERE BETTER, of two partners m and n in one load case, judged with the level k, under a condition on walls
pub record AtLeastAsSevereIn (walls : WallCondition) (k : ℕ) (m n : MemberCase) : Type 0 where
  -- "equal sections, hoop spacings": fields 2 to 4 and 8 to 11
  pub long : m.long ≡ n.long
  pub short : m.short ≡ n.short
  pub area : m.area ≡ n.area
  pub depth : m.depth ≡ n.depth
  pub height : m.height ≡ n.height
  pub spacing : m.spacing ≡ n.spacing
  pub core : m.core ≡ n.core
  -- "strengths": 5 to 7
  pub fcm : m.fcm ≡ n.fcm
  pub fctm : m.fctm ≡ n.fctm
  pub fyw : m.fyw ≡ n.fyw
  -- "marks": 13 to 15; "the new field counts among the equal marks" (document 02, N6)
  pub hooks : m.hooks ≡ n.hooks
  pub zone : m.zone ≡ n.zone
  pub strengthened : m.strengthened ≡ n.strengthened
  pub annex-e : m.annex_e ≡ n.annex_e
  -- "wall shears": 24 of walls
  pub wall-shear : is_wall m ≡ true → m.case.shear ≡ n.case.shear
  -- "no axial load, moment demand, V_e, rotation, drift, .. column shear or damage is lower": 18 and 19, which are held in the order of the signed
  -- forces, 20, 22, 25, 26, 24 of columns and 17
  pub nd : m.nd ≤ n.nd
  pub nk : m.case.nk ≤ n.case.nk
  pub me : m.case.me ≤ n.case.me
  pub ve : m.case.ve ≤ n.case.ve
  pub rotation : m.case.rotation ≤ n.case.rotation
  pub drift : m.case.drift ≤ n.case.drift
  pub column-shear : is_wall m ≡ false → m.case.shear ≤ n.case.shear
  pub damage : m.damage ≤ n.damage
  -- "no capacity, hoop area or reduction factor is higher": 21, 23, 12 and 16
  pub mp : n.case.mp ≤ m.case.mp
  pub vr : n.case.vr ≤ m.case.vr
  pub hoops : n.hoops ≤ m.hoops
  pub factor : n.factor ≤ m.factor
  -- "every wall has its partner's class", or what else is asked of walls
  pub wall-class : is_wall m ≡ true → walls k m n
  -- "no strengthened column of the second is C unless its partner is"
  pub strengthened-c : is_wall n ≡ false → n.strengthened ≡ 1 → class_of k n ≡ ColumnC → class_of k m ≡ ColumnC

-- of two partners: "compared case by case, with the wall and strengthened-column conditions in every case" of the form (document 02, N3)
abbrev pub AtLeastAsSevere : WallCondition → ℕ → ℕ → Member → Member → Type 0
AtLeastAsSevere walls form k m n = (c : ℕ) → c < case_count form → AtLeastAsSevereIn walls k (in_case c m) (in_case c n)

-- of two storeys that are partners, and their members' pairs
pub record AtLeastAsSevereStorey (walls : WallCondition) (form k : ℕ) (f g : StoreyMembers) (ms : MemberPairs f.members g.members) : Type 0 where
  -- "equal .. storey shears", in every case
  pub shear : (c : ℕ) → c < case_count form → shear_of c f.storey ≡ shear_of c g.storey
  pub members : EveryPair (λ m n u. AtLeastAsSevere walls form k m n) ms

-- of two surveys and their storeys' pairs
pub record NowhereBetter (walls : WallCondition) (a b : Survey) (pairs : StoreyPairs a b) : Type 0 where
  -- "Two surveys of one form" (document 02, N3)
  pub form : a.header.form ≡ b.header.form
  -- "equal knowledge level"
  pub knowledge : a.header.knowledge ≡ b.header.knowledge
  -- "no .. tilt": each against the one in the same field
  pub tilt1 : a.header.tilt1 ≤ b.header.tilt1
  pub tilt2 : a.header.tilt2 ≤ b.header.tilt2
  pub storeys : EveryPair (λ f g ms. AtLeastAsSevereStorey walls a.header.form a.header.knowledge f g ms) pairs

-- CARRIED, over the same pairs: "every member over in the first has a partner over in the second, every storey Risky in the first has a partner Risky in
-- the second, and where the first building is Risky, so is the second"; over and Risky also in every case of the form
pub record Carried (rules : Rules) (a b : Survey) (r q : BuildingAnswer) (pairs : StoreyPairs a b) : Type 0 where
  pub members : EveryPair (λ f g ms. EveryPair (λ m n u. (c : ℕ) → c < case_count a.header.form → Over rules a f c m → Over rules b g c n) ms) pairs
  pub cases : EveryPair (λ f g ms. (c : ℕ) → c < case_count a.header.form → CaseRisky rules a f c → CaseRisky rules b g c) pairs
  pub storeys : EveryPair (λ f g ms. Risky rules a f → Risky rules b g) pairs
  pub building : building_risky_in r ≡ true → building_risky_in q ≡ true

-- DEMAND 3: "Take any two accepted surveys and any way of pairing off all their storeys one to one, and each storey's members with those of its partner":
-- where the second is nowhere better, every finding is carried. Under any condition on walls and by any rules; then under the mission's and by the published ones
abbrev pub Demand3By : WallCondition → Rules → Type 0
Demand3By walls rules =
    (a b : Survey) (r q : BuildingAnswer) → Accepted rules a r → Accepted rules b q → (pairs : StoreyPairs a b) → NowhereBetter walls a b pairs → Carried rules a b r q pairs

abbrev pub Demand3 : Type 0
Demand3 = Demand3By SameClass published_rules
