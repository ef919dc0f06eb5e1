-- What an answer on a storey or on a building returns tells the answer: no two answers return the same.
use Prim.Native.Nat.{ℕ}
use mathlib.Core.Bool.{Bool}
use mathlib.Core.List.{List, [], ◌∷◌, ◌++◌}
use mathlib.Core.Path.{◌≡◌, refl, ap, sym, ◌∙◌}
use lib.Dec.{eqb}
use lib.ListN.{get_or, drop}
use Rattle.std.specs.Prelude.{Result, Ok, Err, Option, Some, None}
use Rattle.std.specs.Coded.{le_prop}
use Rattle.std.proofs.Common.{arith, ◌<◌, zero, suc}
use Rattle.records.specs.Refusals.{numbered}
use Rattle.records.specs.declared.refusal.Refusal.{Refusal}
use Rattle.records.proofs.Refusals.{numbered-is}
use Rattle.records.specs.declared.{by_case.ByForm.ByForm, by_case.ByForm.TheVariants.One, by_case.ByForm.TheVariants.Four}
use Rattle.members.specs.Finding.{Returned}
use Rattle.members.proofs.Returned.{flag-told}
use Rattle.totals.specs.declared.StoreyFinding.{StoreyFinding}
use Rattle.storeys.specs.declared.StoreyJudgment.{StoreyJudgment}
use Rattle.storeys.specs.declared.{RiskyStorey.RiskyStorey, BuildingFinding.BuildingFinding}
use Rattle.storeys.specs.Storey.{finding_values, returned_storey}
use Rattle.storeys.specs.Building.{returned_building}
use Rattle.storeys.specs.Place.{place_of, case_number_of}

abbrev finding-of : List ℕ → StoreyFinding
finding-of vs =
    record {
      axial_total = get_or vs 0 0;
      members = get_or vs 1 0;
      over_shear = get_or vs 2 0;
      shear = get_or vs 3 0;
      risky = eqb (get_or vs 4 0) 1;
      walls_suffice = eqb (get_or vs 5 0) 1;
      by_share = eqb (get_or vs 6 0) 1;
      by_one_over = eqb (get_or vs 7 0) 1;
      by_damage = eqb (get_or vs 8 0) 1;
      allowed = record { num = get_or vs 9 0; den = get_or vs 10 0 };
    }

finding-told : (f : StoreyFinding) (later : List ℕ) → finding-of (finding_values f ++ later) ≡ f
finding-told f later = rw (flag-told f.risky, flag-told f.walls_suffice, flag-told f.by_share, flag-told f.by_one_over, flag-told f.by_damage)

abbrev judgment : Bool → ByForm StoreyFinding → Result StoreyJudgment ℕ
judgment r f = Ok (record { risky = r; findings = f })

abbrev four : StoreyFinding → StoreyFinding → StoreyFinding → StoreyFinding → ByForm StoreyFinding
four a b c d = Four (record { case1 = a; case2 = b; case3 = c; case4 = d })

four-same : (r : Bool) (a b c d a' b' c' d' : StoreyFinding) → a ≡ a' → b ≡ b' → c ≡ c' → d ≡ d' → judgment r (four a b c d) ≡ judgment r (four a' b' c' d')
four-same r a b c d a' b' c' d' e f g h = rw (e, f, g, h) refl

-- by the values past those of one case
abbrev storey-by : ℕ → List ℕ → List ℕ → Result StoreyJudgment ℕ
storey-by n [] later = Err n
storey-by n (v ∷ vs) [] = judgment (eqb v 1) (One (finding-of vs))
storey-by n (v ∷ vs) (w ∷ later) = judgment (eqb v 1) (four (finding-of vs) (finding-of (drop 11 vs)) (finding-of (drop 22 vs)) (finding-of (drop 33 vs)))

abbrev told : Result StoreyJudgment ℕ → Result StoreyJudgment ℕ
told a = storey-by (returned_storey a).refusal (returned_storey a).values (drop 12 (returned_storey a).values)

judgment-told : (r : Bool) (f : ByForm StoreyFinding) → told (judgment r f) ≡ judgment r f
judgment-told r (One f) = let e = finding-told f [] in rw (flag-told r) (ap (λ x. judgment r (One x)) e)
judgment-told r (Four f) =
    let fourth = finding_values f.case4 in
    let third = finding_values f.case3 ++ fourth in
    let a = finding-told f.case1 (finding_values f.case2 ++ third) in
    let b = finding-told f.case2 third in
    let c = finding-told f.case3 fourth in
    let d = finding-told f.case4 [] in
    rw (flag-told r)
    (four-same r _ _ _ _ f.case1 f.case2 f.case3 f.case4 a b c d)

storey-told : (a : Result StoreyJudgment ℕ) → told a ≡ a
storey-told (Ok j) = judgment-told j.risky j.findings
storey-told (Err n) = refl

pub storey-answer-is : (a b : Result StoreyJudgment ℕ) → returned_storey a ≡ returned_storey b → a ≡ b
storey-answer-is a b e = sym (storey-told a) ∙ ap (λ (r : Returned). storey-by r.refusal r.values (drop 12 r.values)) e ∙ storey-told b

-- so of what the call itself gives, which has the refusal
pub storey-outcome-is : (a b : Result StoreyJudgment Refusal) → returned_storey (numbered a) ≡ returned_storey (numbered b) → a ≡ b
storey-outcome-is a b e = numbered-is a b (storey-answer-is (numbered a) (numbered b) e)

-- by the numbers of the storey named
abbrev named-of : ℕ → ℕ → Option RiskyStorey
named-of zero c = None
named-of (suc p) zero = None
named-of (suc p) (suc c) = Some (record { place = suc p; case = suc c; counted = (omega arith, omega arith) })

abbrev risky-storey : (p c : ℕ) → (0 < p) × (0 < c) → RiskyStorey
risky-storey p c h = record { place = p; case = c; counted = h }

counted-same : (p c : ℕ) (h k : (0 < p) × (0 < c)) → risky-storey p c h ≡ risky-storey p c k
counted-same p c h k = let a : h.0 ≡ k.0 = le_prop h.0 k.0 in let b : h.1 ≡ k.1 = le_prop h.1 k.1 in ap (risky-storey p c) (rw (a, b) refl)

named-told : (o : Option RiskyStorey) → named-of (place_of o) (case_number_of o) ≡ o
named-told None = refl
named-told (Some s) = by-numbers s.place s.case s.counted
  where
    by-numbers : (p c : ℕ) (h : (0 < p) × (0 < c)) → named-of p c ≡ Some (risky-storey p c h)
    by-numbers zero c h = absurd (omega (arith, h.0))
    by-numbers (suc p) zero h = absurd (omega (arith, h.1))
    by-numbers (suc p) (suc c) h = ap Some (counted-same (suc p) (suc c) _ h)

abbrev building-of : List ℕ → BuildingFinding
building-of vs = record { tilted = eqb (get_or vs 0 0) 1; risky = eqb (get_or vs 1 0) 1; first = named-of (get_or vs 2 0) (get_or vs 3 0) }

building-told : (f : BuildingFinding) → building-of (returned_building (Ok f)).values ≡ f
building-told f = rw (flag-told f.tilted, flag-told f.risky, named-told f.first) refl

abbrev building-by : ℕ → List ℕ → Result BuildingFinding ℕ
building-by n [] = Err n
building-by n (v ∷ vs) = Ok (building-of (v ∷ vs))

building-answer-told : (a : Result BuildingFinding ℕ) → building-by (returned_building a).refusal (returned_building a).values ≡ a
building-answer-told (Ok f) = ap Ok (building-told f)
building-answer-told (Err n) = refl

pub building-answer-is : (a b : Result BuildingFinding ℕ) → returned_building a ≡ returned_building b → a ≡ b
building-answer-is a b e = sym (building-answer-told a) ∙ ap (λ (r : Returned). building-by r.refusal r.values) e ∙ building-answer-told b

pub building-outcome-is : (a b : Result BuildingFinding Refusal) → returned_building (numbered a) ≡ returned_building (numbered b) → a ≡ b
building-outcome-is a b e = numbered-is a b (building-answer-is (numbered a) (numbered b) e)
