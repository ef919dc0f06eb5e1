-- Laws of the forms and their numbers.
use Rattle.std.proofs.Common.{ℕ, ◌≡◌, Bool, true, false, refl, sym, arith}
use Rattle.std.proofs.lemmas.Bool.Decides.{nat_tests}
use Rattle.records.specs.Notation.{pick}
use Rattle.records.specs.Records.{in_cases, known_form}
use Rattle.records.specs.Forms.{form_number, form_for}
use Rattle.records.specs.declared.form.Form.{Form, TheVariants.Old, TheVariants.FourCases}

-- the number of a form is that of a known one
pub form-known : (form : Form) → known_form (form_number form) ≡ true
form-known Old = refl
form-known FourCases = refl

-- the form whose lines and cases a number has: of a form's number that form, of any other the old one
pub for_known : (form : Form) → form_for (form_number form) ≡ form
unfolding form_for
for_known Old = refl
for_known FourCases = refl

pub for_other : (n : ℕ) → known_form n ≡ false → form_for n ≡ Old
unfolding form_for
for_other n e = let f : in_cases n ≡ false = grind (arith, nat_tests) in rw f refl

in-cases-by : (t : Bool) → in_cases (form_number (pick t FourCases Old)) ≡ t
in-cases-by true = refl
in-cases-by false = refl

-- it has four cases where the number has
pub cases_for : (n : ℕ) → in_cases n ≡ in_cases (form_number (form_for n))
unfolding form_for
cases_for n = sym (in-cases-by (in_cases n))
