-- What the writing of a sheet comes to: for the proofs of inner functions.
use Rattle.std.specs.Prelude.{ℕ, List, ◌≡◌, length, Result, MatchResult, unwrap_or}
use Rattle.records.specs.Refusals.{refusal_number}
use Rattle.columns.specs.Line.{at_front, put_length}
use Rattle.report.specs.Sheet.{refusal_line_of}
use Rattle.determination.specs.Determination.{printed}
use Rattle.determination.specs.declared.Refused.{Refused}

-- the sheet stands in the bytes, and its length is given; or the bytes are as they were, and what has to be printed is the `E` line of the refusal, with line 0 where it has none
abbrev pub Determined : List ℕ → List ℕ → List ℕ → Result ℕ Refused → Type 0
Determined input before after r =
    MatchResult r
    (λ n. (n ≡ put_length (printed input (length before)) (length before)) × (after ≡ at_front (printed input (length before)) before))
    (λ e. (after ≡ before) × (printed input (length before) ≡ refusal_line_of (refusal_number e.refusal) (unwrap_or e.line 0)))
