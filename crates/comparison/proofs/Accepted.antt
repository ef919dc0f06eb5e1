-- What demand 3 takes of an accepted survey: its storeys and members are good records, and the calls on them answer their findings.
use Prim.Native.Nat.{ℕ, ◌<◌}
use native.Mathlib.Omega.{arith}
use mathlib.Core.Bool.{Bool, true, false}
use mathlib.Core.List.{List, [], ◌∷◌}
use mathlib.Core.Path.{◌≡◌, refl, sym, ap, ◌∙◌}
use lib.Dec.{eqb}
use lib.ListN.{length, get_or}
use borrow.Author.Tests.{eq-eqb}
use Rattle.std.proofs.lemmas.Bool.Decides.{nat_tests}
use Rattle.std.specs.Prelude.{Ok, Err}
use Rattle.std.specs.List.{All}
use Rattle.std.proofs.lemmas.List.Elements.{All-from_get_or}
use Rattle.records.specs.Notation.{pick}
use Rattle.records.specs.Records.{in_cases, known_form, case_count, shear_of, in_case, storey_fault, member_fault, repeated, survey_of}
use Rattle.records.specs.declared.Header.{Header}
use Rattle.records.specs.declared.Storey.{Storey}
use Rattle.records.specs.declared.Member.{Member}
use Rattle.records.proofs.Validity.{count-least, known-form as form-known}
use Rattle.records.specs.declared.by_case.ByForm.TheVariants.{One, Four}
use Rattle.records.specs.Blank.{no_member}
use Rattle.members.specs.Finding.{flag, found, refused, knowledge, finding_by, answer_by, Returned}
use Rattle.members.specs.declared.finding.Finding.{Finding}
use Rattle.totals.specs.declared.StoreyFinding.{StoreyFinding}
use Rattle.checks.specs.Rows.{count_fault, member_in, row_fault, member_rows_fault, storey_in, members_of, records_fault}
use Rattle.checks.proofs.Refusals.{None, end, also, one, rest, in-order-clear, in-order-none, first-clear}
use Rattle.checks.proofs.RowLaws.{members-counted, total-counted, header-good, rows}
use Rattle.storeys.specs.Storey.{Rules, over, case_risky, storey_risky, storey_finding, finding_in, level_fault, storey_call_fault, judged_by, storey_answer_by}
use Rattle.storeys.specs.Building.{building_risky, building_returned, returned_building}
use Rattle.storeys.proofs.Accepted.{known_level}
use Rattle.comparison.specs.Demand3.{BuildingAnswer, Survey, StoreyMembers, storey_members_at, storeys_members, Accepted, in_case_of, over_in, risky_in, case_risky_in, storey_met, storey_mets, building_risky_in}
use Rattle.comparison.proofs.Pairs.{all_listed}

-- a storey on which the call refuses nothing
pub record Sound (form k : ℕ) (f : StoreyMembers) : Type 0 where
  pub known : knowledge k ≡ true
  pub known-form : known_form form ≡ true
  pub count : f.storey.count ≡ length f.members
  pub storey : storey_fault form f.storey ≡ 0
  pub members : member_rows_fault form f.members ≡ 0

pub level-positive : (k : ℕ) → knowledge k ≡ true → 0 < k
level-positive k e = grind (arith, nat_tests)

module _ (h : Header) (ss : List Storey) (ms : List Member) (none : records_fault (survey_of h ss ms) ≡ 0) where
  sound-at : (i : ℕ) → i < length ss → Sound h.form h.knowledge (record { storey = storey_in ss i; members = members_of ss ms i })
  sound-at i l =
      record {
        known = known_level h ss ms none;
        known-form = form-known h (header-good h ss ms none);
        count = members-counted ss ms i (total-counted h ss ms none);
        storey = one (rows h ss ms none i l);
        members = one (rest (rest (rows h ss ms none i l)));
      }

-- what stands in a case of the form
case-found-in : {A : Type 0} (g : ℕ → A) (form c : ℕ) → c < case_count form → in_case_of c (pick (in_cases form) (Four (record { case1 = g 0; case2 = g 1; case3 = g 2; case4 = g 3 })) (One (g 0))) ≡ g c
case-found-in g form c l = go (in_cases form) c l
  where
    go : (t : Bool) (c : ℕ) → c < pick t 4 1 → in_case_of c (pick t (Four (record { case1 = g 0; case2 = g 1; case3 = g 2; case4 = g 3 })) (One (g 0))) ≡ g c
    go true c l = grind (arith, nat_tests)
    go false c l = grind (arith, nat_tests)

-- a sound storey has members, and they are good records
module _ (form k : ℕ) (f : StoreyMembers) (sound : Sound form k f) where
  pub has-members : 0 < length f.members
  has-members = omega (arith, sound.count, count-least form f.storey sound.storey)

  row : (j : ℕ) → j < length f.members → None (member_fault form (member_in f.members j) ∷ repeated (λ e. (member_in f.members e).number) j ∷ [])
  unfolding member_rows_fault row_fault
  row j l = in-order-clear _ (first-clear (row_fault form f.members) (length f.members) sound.members j l)

  pub good-members : All (λ m. member_fault form m ≡ 0) f.members
  good-members = All-from_get_or (λ m. member_fault form m ≡ 0) f.members no_member (λ j l. one (row j l))

  -- so the calls on it and on its members answer their findings
  call-clear : storey_call_fault k form f.storey f.members ≡ 0
  unfolding storey_call_fault
  call-clear =
      let count : count_fault f.storey.count (length f.members) ≡ 0 = rw (eq-eqb _ _ sound.count) in
      let known : level_fault k form ≡ 0 = rw (sound.known, sound.known-form) in
      in-order-none (also count (also known (also sound.storey (also sound.members end))))

  judged-storey : (rules : Rules) → storey_answer_by rules k form f.storey f.members ≡ Ok (judged_by rules k form f.storey f.members)
  unfolding storey_answer_by
  judged-storey rules = rw (eq-eqb _ _ call-clear)

  pub risky-found : (rules : Rules) → risky_in (storey_answer_by rules k form f.storey f.members) ≡ storey_risky rules form k f.storey f.members
  risky-found rules = ap risky_in (judged-storey rules)

  pub case-found : (rules : Rules) (c : ℕ) → c < case_count form → case_risky_in c (storey_answer_by rules k form f.storey f.members) ≡ case_risky rules k c (shear_of c f.storey) f.members
  unfolding storey_finding
  case-found rules c l =
      ap (case_risky_in c) (judged-storey rules)
      ∙ ap (λ (x : StoreyFinding). x.risky) (case-found-in (finding_in rules k f.storey f.members) form c l)

  pub over-found : (rules : Rules) (c : ℕ) → c < case_count form → (m : Member) → member_fault form m ≡ 0 → over_in c (answer_by rules.limits k form (storey_mets f) m) ≡ over rules k (storey_met f c) c m
  unfolding answer_by
  over-found rules c l m e =
      rw (sound.known, sound.known-form, eq-eqb _ _ e)
      (ap (λ (x : Finding). x.over) (case-found-in (λ c. finding_by rules.limits k (storey_met f c) (in_case c m)) form c l))

-- an accepted survey
clear-by : (t : Bool) (fault : ℕ) (vs : List ℕ) → eqb fault 0 ≡ t → (pick t (found vs) (refused fault)).refusal ≡ 0 → fault ≡ 0
clear-by t fault vs e h = grind (arith, nat_tests)

-- what the call on a building returns tells whether it is Risky
abbrev told-risky : Returned → Bool
told-risky x = eqb (get_or x.values 1 0) 1

told-flag : (t : Bool) → eqb (flag t) 1 ≡ t
told-flag true = refl
told-flag false = refl

risky-told : (r : BuildingAnswer) → told-risky (returned_building r) ≡ building_risky_in r
risky-told (Ok f) = grind arith
risky-told (Err n) = refl

module _ (rules : Rules) (a : Survey) (r : BuildingAnswer) (acc : Accepted rules a r) where
  pub building-clear : records_fault a ≡ 0
  unfolding building_returned
  building-clear =
      let e = ap (λ (x : Returned). x.refusal) acc.answers in
      clear-by (eqb (records_fault a) 0) _ _ refl (sym e ∙ acc.no-refusal)

  told-verdict : told-risky (building_returned rules a) ≡ building_risky rules a
  unfolding building_returned
  told-verdict = rw (eq-eqb _ _ building-clear) (told-flag (building_risky rules a))

  pub verdict-found : building_risky_in r ≡ building_risky rules a
  verdict-found = sym (risky-told r) ∙ ap told-risky acc.answers ∙ told-verdict

  pub level-known : knowledge a.header.knowledge ≡ true
  level-known = known_level a.header a.storeys a.members building-clear

  pub sound-storeys : All (Sound a.header.form a.header.knowledge) (storeys_members a)
  sound-storeys =
      all_listed (Sound a.header.form a.header.knowledge) (storey_members_at a) (length a.storeys) (sound-at a.header a.storeys a.members building-clear)
