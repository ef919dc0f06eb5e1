-- The forms of a survey by their numbers.
use Rattle.std.specs.Prelude.{ℕ, false, ◌≡◌, Result, MatchResult}
use Rattle.records.specs.Notation.{pick}
use Rattle.records.specs.Records.{in_cases, known_form}
use Rattle.records.specs.Refusals.{Refusal, OutOfRange}
pub use Rattle.records.specs.declared.form.Form.{Form, TheVariants.Old, TheVariants.FourCases}

abbrev pub form_number : Form → ℕ
form_number Old = 1
form_number FourCases = 2

-- the form with a number, or 3 where there is none
abbrev pub Formed : ℕ → Result Form Refusal → Type 0
Formed n r = MatchResult r (λ form. form_number form ≡ n) (λ e. (e ≡ OutOfRange) × (known_form n ≡ false))

-- the form whose lines and cases a number has: a number that is that of no form has those of the old form
unfoldable pub form_for : ℕ → Form
form_for n = pick (in_cases n) FourCases Old
