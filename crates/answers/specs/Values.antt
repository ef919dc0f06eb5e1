-- The values by which an accepted answer is told, and what an answer is in the paper's words.
use Rattle.std.specs.Prelude.{ℕ, ◌∷◌, ◌++◌, List, [], Result, Ok, Err}
use Rattle.records.specs.declared.by_case.{FourCases.FourCases, ByForm.ByForm, ByForm.TheVariants.One, ByForm.TheVariants.Four}
use Rattle.members.specs.Finding.{Returned, found, refused, flag, finding_values}
use Rattle.members.specs.declared.finding.Finding.{Finding}
use Rattle.storeys.specs.Storey.{findings_values}
use Rattle.storeys.specs.Place.{place_of, case_number_of}
use Rattle.storeys.specs.declared.{StoreyJudgment.StoreyJudgment, BuildingFinding.BuildingFinding}
use Rattle.hazard.specs.declared.site.Site.{Site}

-- what an answer says, by the values of an accepted one
abbrev pub returned_by : {A : Type 0} → (A → List ℕ) → Result A ℕ → Returned
returned_by values (Ok a) = found (values a)
returned_by values (Err n) = refused n

-- in each of four cases, one after another
abbrev pub four_values : {A : Type 0} → (A → List ℕ) → FourCases A → List ℕ
four_values values f = values f.case1 ++ (values f.case2 ++ (values f.case3 ++ values f.case4))

-- in each case of the form
abbrev pub by_form : {A : Type 0} → (A → List ℕ) → ByForm A → List ℕ
by_form values (One f) = values f
by_form values (Four f) = four_values values f

-- of a member
abbrev pub member_values : ByForm Finding → List ℕ
member_values = by_form finding_values

-- of a storey: Risky, then its findings
abbrev pub judgment_values : StoreyJudgment → List ℕ
judgment_values j = flag j.risky ∷ findings_values j.findings

-- of a building: tilted, Risky, the place of the first Risky storey and its lowest numbered Risky case, 0 where none is
abbrev pub building_values : BuildingFinding → List ℕ
building_values f = flag f.tilted ∷ flag f.risky ∷ place_of f.first ∷ case_number_of f.first ∷ []

-- of a site: F_S, F_1, S_DS, S_D1
abbrev pub site_values : Site → List ℕ
site_values s = s.fs ∷ s.f1 ∷ s.sds ∷ s.sd1 ∷ []

-- of an answer that is one number
abbrev pub number_values : ℕ → List ℕ
number_values n = n ∷ []
