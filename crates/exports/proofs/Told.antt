-- The answers of the calls on a report and a file, told by their values, are what the paper returns.
use Prim.Native.Nat.{ℕ}
use mathlib.Core.Path.{◌≡◌, refl}
use Rattle.std.proofs.Common.{Result, Ok, Err}
use Rattle.report.specs.Sheet.{returned_report}
use Rattle.writing.specs.Writing.{returned_file}
use Rattle.answers.specs.Values.{returned_by, number_values}

pub report_told : (r : Result ℕ ℕ) → returned_by number_values r ≡ returned_report r
report_told (Ok n) = refl
report_told (Err n) = refl

pub file_told : (r : Result ℕ ℕ) → returned_by number_values r ≡ returned_file r
file_told (Ok n) = refl
file_told (Err n) = refl
