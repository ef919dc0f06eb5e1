-- What an answer of the report call returns tells the answer: no two answers return the same.
use Prim.Native.Nat.{ℕ}
use mathlib.Core.List.{List, [], ◌∷◌}
use mathlib.Core.Path.{◌≡◌, refl, ap, sym, ◌∙◌}
use Rattle.std.specs.Prelude.{Result, Ok, Err}
use Rattle.records.specs.Refusals.{numbered}
use Rattle.records.specs.declared.refusal.Refusal.{Refusal}
use Rattle.records.proofs.Refusals.{numbered-is}
use Rattle.members.specs.Finding.{Returned}
use Rattle.report.specs.Sheet.{returned_report}

abbrev report-by : ℕ → List ℕ → Result ℕ ℕ
report-by n [] = Err n
report-by n (v ∷ vs) = Ok v

report-told : (a : Result ℕ ℕ) → report-by (returned_report a).refusal (returned_report a).values ≡ a
report-told (Ok n) = refl
report-told (Err n) = refl

pub report-answer-is : (a b : Result ℕ ℕ) → returned_report a ≡ returned_report b → a ≡ b
report-answer-is a b e = sym (report-told a) ∙ ap (λ (r : Returned). report-by r.refusal r.values) e ∙ report-told b

-- so of what the call itself gives, which has the refusal
pub report-outcome-is : (a b : Result ℕ Refusal) → returned_report (numbered a) ≡ returned_report (numbered b) → a ≡ b
report-outcome-is a b e = numbered-is a b (report-answer-is (numbered a) (numbered b) e)
