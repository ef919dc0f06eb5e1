-- A record that its check refuses nothing of is that of its line's numbers.
use Prim.Native.Nat.{ℕ}
use mathlib.Core.Bool.{Bool, true, false}
use mathlib.Core.List.{List}
use mathlib.Core.Path.{◌≡◌, refl, ap}
use lib.ListN.{get_or}
use Rattle.records.specs.Records.{last_field, in_cases, member_kind, storey_values, storey_by, member_by, storey_fault}
use Rattle.records.specs.declared.Storey.{Storey}
use Rattle.records.specs.declared.Member.{Member}
use Rattle.records.proofs.Cases.{four}
use Rattle.records.proofs.Validity.{has-four-shears, old-shears}
use Rattle.format.specs.Text.{member_line}

abbrev with-shears : Storey → List ℕ → Storey
with-shears s l = record { number = s.number; shears = l; count = s.count }

storey-by : (t : Bool) (form : ℕ) (s : Storey) → in_cases form ≡ t → storey_fault form s ≡ 0 → s ≡ storey_by form (λ j. get_or (storey_values form s) j 0)
storey-by true form s q e = rw q (ap (with-shears s) (four 0 s.shears (has-four-shears form s e)))
storey-by false form s q e = rw q (ap (with-shears s) (old-shears form s e q))

pub storey-remade : (form : ℕ) (s : Storey) → storey_fault form s ≡ 0 → s ≡ storey_by form (λ j. get_or (storey_values form s) j 0)
storey-remade form s e = storey-by (in_cases form) form s refl e

pub member-remade : (t : Bool) (form : ℕ) (m : Member) → in_cases form ≡ t → m ≡ member_by (λ j. get_or (member_line form m) j 0) (get_or (member_line form m) (last_field (member_kind form)) 0) m.cases
member-remade true form m q = rw q
member-remade false form m q = rw q
