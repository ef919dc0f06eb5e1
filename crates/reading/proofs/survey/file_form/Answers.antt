use borrow.Author.Tests.{eq-eqb, ne_eqb}
use native.Mathlib.Omega.{arith}
use Rattle.reading.specs.Survey.{form_of}
use Rattle.reading.proofs.survey.file_form.Goals as goal

pub returns-then-line_length-line_size : goal.returns-then-line_length-line_size
unfolding form_of
returns-then-line_length-line_size c =
    let e = rw (c.line_size.ensures) at c.line_length.ensures in
    rw (← e, eq-eqb c.line_length.result 49 (omega arith))

pub returns-else-line_length-line_size : goal.returns-else-line_length-line_size
unfolding form_of
returns-else-line_length-line_size c =
    let e = rw (c.line_size.ensures) at c.line_length.ensures in
    rw (← e, ne_eqb c.line_length.result 49 (λ p. omega arith))
