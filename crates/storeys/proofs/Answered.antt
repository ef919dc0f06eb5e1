-- The answer of the call on a building, by the refusal of its records and by the storey that it names.
use native.Mathlib.Omega.{arith}
use mathlib.Core.Bool.{false, ◌||◌}
use lib.Dec.{ltb, eqb}
use mathlib.Core.Path.{◌≡◌, refl, ap, sym, ◌∙◌}
use borrow.Author.Tests.{eq-eqb, ne_eqb, lt-ltb}
use Rattle.std.specs.Prelude.{Ok, Err, Option, None, Some}
use Rattle.std.specs.Option.{is_some}
use Rattle.records.specs.Refusals.{refusal_number}
use Rattle.records.specs.declared.refusal.Refusal.{Refusal}
use Rattle.records.proofs.Refusals.{number-positive}
use Rattle.checks.specs.Rows.{Survey, records_fault}
use Rattle.storeys.specs.declared.RiskyStorey.{RiskyStorey}
use Rattle.storeys.specs.Storey.{published_rules}
use Rattle.storeys.specs.Building.{tilted, building_risky, first_risky, first_risky_case, building_returned, returned_building}
use Rattle.storeys.specs.Place.{place_of, case_number_of}
use Rattle.storeys.proofs.FirstRisky.{some-first}

-- a storey is named exactly where its place is not 0
named-if : (r : Option RiskyStorey) → is_some r ≡ ltb 0 (place_of r)
named-if None = refl
named-if (Some s) = sym (lt-ltb 0 s.place s.counted.0)

module _ (a : Survey) where
  pub refused : (r : Refusal) → refusal_number r ≡ records_fault a → returned_building (Err (refusal_number r)) ≡ building_returned published_rules a
  unfolding building_returned
  refused r e =
      let n : eqb (refusal_number r) 0 ≡ false = ne_eqb (refusal_number r) 0 (λ z. let w : ⊥ = omega (arith, number-positive r) in absurd w) in
      rw (← e, n) refl

  pub judged : (r : Option RiskyStorey) → records_fault a ≡ 0 → place_of r ≡ first_risky published_rules a → case_number_of r ≡ first_risky_case published_rules a
      → returned_building (Ok (record { tilted = tilted a.header; risky = is_some r || tilted a.header; first = r })) ≡ building_returned published_rules a
  unfolding building_returned building_risky
  judged r clear place case =
      let some = named-if r ∙ ap (ltb 0) place ∙ some-first published_rules a in
      rw (eq-eqb (records_fault a) 0 clear, some, place, case) refl
