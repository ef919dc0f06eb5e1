-- An answer told by its values is what the paper returns.
use Prim.Native.Nat.{ℕ}
use mathlib.Core.Path.{◌≡◌, refl}
use Rattle.std.proofs.Common.{Result, Ok, Err}
use Rattle.records.specs.declared.by_case.{ByForm.ByForm, ByForm.TheVariants.One, ByForm.TheVariants.Four}
use Rattle.members.specs.Finding.{returned}
use Rattle.members.specs.declared.finding.Finding.{Finding}
use Rattle.storeys.specs.Storey.{returned_storey}
use Rattle.storeys.specs.Building.{returned_building}
use Rattle.storeys.specs.declared.{StoreyJudgment.StoreyJudgment, BuildingFinding.BuildingFinding}
use Rattle.hazard.specs.Site.{returned_site}
use Rattle.hazard.specs.declared.site.Site.{Site}
use Rattle.hazard.specs.Spectrum.{returned_spectrum}
use Rattle.answers.specs.Values.{returned_by, member_values, judgment_values, building_values, site_values, number_values}

pub member_told : (r : Result (ByForm Finding) ℕ) → returned_by member_values r ≡ returned r
member_told (Ok (One f)) = refl
member_told (Ok (Four f)) = refl
member_told (Err n) = refl

pub storey_told : (r : Result StoreyJudgment ℕ) → returned_by judgment_values r ≡ returned_storey r
storey_told (Ok j) = refl
storey_told (Err n) = refl

pub site_told : (r : Result Site ℕ) → returned_by site_values r ≡ returned_site r
site_told (Ok s) = refl
site_told (Err n) = refl

pub spectrum_told : (r : Result ℕ ℕ) → returned_by number_values r ≡ returned_spectrum r
spectrum_told (Ok n) = refl
spectrum_told (Err n) = refl

pub building_told : (r : Result BuildingFinding ℕ) → returned_by building_values r ≡ returned_building r
building_told (Ok f) = refl
building_told (Err n) = refl
