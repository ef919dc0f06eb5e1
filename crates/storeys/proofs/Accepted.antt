-- Where a call refuses nothing: the level of a survey; the level of a storey, its record and its members.
use Prim.Native.Nat.{ℕ}
use native.Mathlib.Omega.{arith}
use mathlib.Core.Bool.{true, ◌&&◌}
use mathlib.Core.List.{List, [], ◌∷◌}
use mathlib.Core.Path.{◌≡◌}
use lib.ListN.{length}
use Rattle.records.specs.Records.{in_range, known_form, header_values, storey_fault, survey_of}
use Rattle.records.specs.declared.Header.{Header}
use Rattle.records.specs.declared.Storey.{Storey}
use Rattle.records.specs.declared.Member.{Member}
use Rattle.records.specs.declared.Kind.TheVariants.{B}
use Rattle.records.proofs.Below.{and_left, every-at}
use Rattle.records.proofs.Validity.{clear, header-ranged, count_most}
use Rattle.members.specs.Finding.{knowledge}
use Rattle.checks.specs.Rows.{count_fault, member_rows_fault, records_fault}
use Rattle.checks.proofs.Refusals.{None, one, rest, in-order-clear, count-clear}
use Rattle.checks.proofs.RowLaws.{header-good}
use Rattle.storeys.specs.Storey.{level_fault, storey_call_fault}
use Rattle.storeys.specs.Rows.{Rows}

-- ---- a survey: k is one of the two levels
pub known_level : (h : Header) (ss : List Storey) (ms : List Member) → records_fault (survey_of h ss ms) ≡ 0 → knowledge h.knowledge ≡ true
known_level h ss ms none = every-at (in_range B (header_values h)) 6 0 (header-ranged h (header-good h ss ms none)) (omega arith)

-- ---- a storey of which the call refuses nothing
module _ (k form : ℕ) (s : Storey) (rows : List Member) (none : storey_call_fault k form s rows ≡ 0) where
  checks : None (count_fault s.count (length rows) ∷ level_fault k form ∷ storey_fault form s ∷ member_rows_fault form rows ∷ [])
  unfolding storey_call_fault
  checks = in-order-clear _ none

  pub storey-level : knowledge k ≡ true
  storey-level = and_left (knowledge k) (known_form form) (clear (knowledge k && known_form form) 0 3 (one (rest checks)) (omega arith)).0

  pub storey-good : storey_fault form s ≡ 0
  storey-good = one (rest (rest checks))

  pub storey-rows : Rows form rows
  storey-rows = record { good = one (rest (rest (rest checks))); most = omega (arith, count-clear s.count (length rows) (one checks), count_most form s storey-good) }
