-- A number that is that of no form: the definitions say of it what they say of the old form. And of any number what they say of the form for it.
use Rattle.std.proofs.Common.{ℕ, ◌≡◌, false, refl, arith}
use Rattle.std.proofs.lemmas.Bool.Decides.{nat_tests}
use Rattle.records.specs.Notation.{every_below}
use Rattle.records.specs.declared.{Storey.Storey, Member.Member}
use Rattle.records.specs.Forms.{form_number, form_for}
use Rattle.records.specs.Records.{known_form, in_cases, case_count, storey_kind, member_kind, storey_by, storey_fault, member_fault}
use Rattle.records.proofs.Forms.{cases_for}

module _ (n : ℕ) (unknown : known_form n ≡ false) where
  pub not-in-cases : in_cases n ≡ in_cases 1
  not-in-cases = grind (arith, nat_tests)

  pub case_count-other : case_count n ≡ case_count 1
  case_count-other = rw not-in-cases refl

  pub storey_kind-other : storey_kind n ≡ storey_kind 1
  storey_kind-other = rw not-in-cases refl

  pub member_kind-other : member_kind n ≡ member_kind 1
  member_kind-other = rw not-in-cases refl

  pub storey_by-other : (f : ℕ → ℕ) → storey_by n f ≡ storey_by 1 f
  storey_by-other f = rw not-in-cases refl

  pub storey_fault-other : (s : Storey) → storey_fault n s ≡ storey_fault 1 s
  unfolding storey_fault
  storey_fault-other s = rw not-in-cases refl

  pub member_fault-other : (m : Member) → member_fault n m ≡ member_fault 1 m
  unfolding member_fault every_below
  member_fault-other m = rw not-in-cases refl

-- ---- the checks by any number, and by the form for it
same-storey : (m n : ℕ) → in_cases m ≡ in_cases n → (s : Storey) → storey_fault m s ≡ storey_fault n s
unfolding storey_fault
same-storey m n e s = rw e refl

same-member : (k n : ℕ) → in_cases k ≡ in_cases n → (m : Member) → member_fault k m ≡ member_fault n m
unfolding member_fault every_below
same-member k n e m = rw e refl

pub storey_fault_for : (n : ℕ) (s : Storey) → storey_fault n s ≡ storey_fault (form_number (form_for n)) s
storey_fault_for n s = same-storey n (form_number (form_for n)) (cases_for n) s

pub member_fault_for : (n : ℕ) (m : Member) → member_fault n m ≡ member_fault (form_number (form_for n)) m
member_fault_for n m = same-member n (form_number (form_for n)) (cases_for n) m
